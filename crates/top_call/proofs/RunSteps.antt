-- The steps of a run, as a command.
use Rattle.std.proofs.Common.{ℕ, ◌≡◌, List, Some, Result, Err, ap, ◌∙◌}
use Rattle.std.specs.List.{concat}
use Rattle.pf_io.specs.Store.{Files}
use Rattle.run_model.specs.declared.fault.Fault.{Fault}
use Rattle.run_model.specs.Setup.{Setup}
use Rattle.command_frame.specs.Effects.{CarriesOut}
use Rattle.command_frame.specs.Standing.{Standing}
use Rattle.command_frame.specs.Status.{EndsReading, EndsWriting}
use Rattle.command_frame.specs.Reading.{ReadsInput}
use Rattle.command_frame.specs.Verdict.{After, Verdict, writes, IgnoresFiles}
use Rattle.command_frame.specs.declared.status.Status.TheVariants.{Done, Usage, Refused, Numeric, Lists, StoreFault, Memory}
use Rattle.command_frame.specs.declared.status.StoreCall.TheVariants.{Open, Read, Create, Write, Say}
use Rattle.command_frame.proofs.StepLaws.{carried_as_more, stops_after}
use Rattle.top_call.specs.declared.status.Refusal.{Refusal}
use Rattle.top_call.specs.Run.{Ending, EndsRun, last_status, run_verdict}
use Rattle.top_call.specs.Steps.{coming, texts_from}
use Rattle.top_call.proofs.DumpLemmas.{all_texts}

-- the reading of an input ends a run
pub stops_run : {X A : Type 0} (Means : List ℕ → Result A Refusal → Type 0) (view : X → A) (name : List ℕ) (next : Files → A → Verdict Refusal Fault → Type 0)
    (answer : Result X Ending) (status : Ending) (old new : Standing) → EndsRun status → answer ≡ Err status → ReadsInput Means view name answer old new
    → ¬ IgnoresFiles (λ files. After Means files name (next files))
    → CarriesOut EndsRun (λ files. After Means files name (next files)) status old new
stops_run {X} {A} Means view name next answer status old new ends is read looks =
    let h = stops_after EndsReading Means view name next answer status old new (λ s may. may) is read looks in
    record { ends = ends; left = h.left; untold = h.untold; counts = h.counts; stays_steady = h.stays_steady; steady = h.steady }

pub writing_ends_run : (status : Ending) → EndsWriting status → EndsRun status
writing_ends_run Done h = tt
writing_ends_run Usage h = absurd h
writing_ends_run (Refused refusal) h = absurd h
writing_ends_run (Numeric step fault) h = tt
writing_ends_run (Lists step count) h = tt
writing_ends_run (StoreFault Open) h = absurd h
writing_ends_run (StoreFault Read) h = absurd h
writing_ends_run (StoreFault Create) h = tt
writing_ends_run (StoreFault Write) h = tt
writing_ends_run (StoreFault Say) h = absurd h
writing_ends_run Memory h = tt

-- the verdict that the dumps of a run are written
abbrev pub WritesDumps : List ℕ → Setup → Files → Verdict Refusal Fault → Type 0
WritesDumps out run files verdict = verdict ≡ run_verdict out run

pub dumps_written : {W : Type 0} (out name : List ℕ) (run other : Setup) (world : W) (status : Ending) (old new : Standing) → name ≡ out → run ≡ other
    → CarriesOut EndsWriting (λ files verdict. verdict ≡ writes name (concat (coming run (Some world) 0).texts) (coming run (Some world) 0).last) status old new
    → CarriesOut EndsWriting (WritesDumps out other) status old new
dumps_written out name run other world status old new named same h =
    carried_as_more EndsWriting EndsWriting _ (WritesDumps out other) status old new (λ ends. ends)
    (λ files verdict m. m ∙ ap (λ (n : List ℕ). writes n (concat (texts_from run 0)) (last_status run)) named
    ∙ ap (λ (text : List ℕ). writes out text (last_status run)) (all_texts run)
    ∙ ap (run_verdict out) same)
    (λ alike some other verdict e. e) h
