-- The benchmark: what its steps come to, and how it ends.
use Rattle.std.proofs.Common.{ℕ, zero, suc, ◌≡◌, ◌+◌, ◌≤◌, ◌⊎◌, inl, inr, List, ◌++◌, append_assoc, Option, Some, None, Result, Ok, Err, IfErr, refl, sym, ap, subst, ◌∙◌, arith}
use Rattle.std.specs.List.{flat_map, range_with_len}
use Rattle.std.specs.Result.{IsErr, IsErrAnd}
use Rattle.std.proofs.lemmas.List.{append-nil}
use Rattle.kern_tree.specs.declared.kernel.Kernel.{Kernel}
use Rattle.pf_io.specs.Store.{Files}
use Rattle.run_model.specs.declared.step_text.RankLine.{RankLine}
use Rattle.run_model.specs.Setup.{Setup}
use Rattle.run_model.specs.Run.{Stop, first_fault, end_of}
use Rattle.run_model.specs.Run as stop
use Rattle.run_model.specs.RunLaws.{EndsOrGoesThrough}
use Rattle.run_model.specs.Text.{text, texts}
use Rattle.bench_input.specs.Kernel.{IsBenchKernel}
use Rattle.bench_input.specs.Setup.{bench_setup}
use Rattle.bench_summary.specs.declared.tally.Tally.{Tally}
use Rattle.bench_summary.specs.Summary.{rank_lines, summary_text, tally_of}
use Rattle.command_frame.specs.Effects.{CarriesOut}
use Rattle.command_frame.specs.Standing.{Standing}
use Rattle.command_frame.specs.Status.{EndsSpeaking}
use Rattle.command_frame.specs.Verdict.{speaks, stops}
use Rattle.command_frame.specs.declared.status.Status.TheVariants.{Done, Usage, Refused, Numeric, Lists, StoreFault, Memory}
use Rattle.command_frame.specs.declared.status.StoreCall.TheVariants.{Open, Read, Create, Write, Say}
use Rattle.command_frame.proofs.StepLaws.{carried_as_more, carried_at_once}
use Rattle.top_call.specs.Bench.{BenchMeans, EndsBench, EndsUnsaid, bench_verdict, bench_verdict_at}
use Rattle.top_call.specs.Run.{Ending, step_count, step_count_to, stop_status}
use Rattle.top_call.specs.Steps.{EndsBy, StopsAt, TalliesRun, tally_before}
use Rattle.top_call.proofs.DumpLemmas.{the_end}

-- the texts of some steps, and that of the next
one_more : (f : ℕ → List ℕ) (from count : ℕ) → flat_map f (range_with_len from (suc count)) ≡ flat_map f (range_with_len from count) ++ f (from + count)
one_more f from zero = append-nil (f from) ∙ ap f (let same : from ≡ from + 0 = omega arith in same)
one_more f from (suc count) =
    ap (λ (rest : List ℕ). f from ++ rest) (one_more f (from + 1) count)
    ∙ sym (append_assoc (f from) (flat_map f (range_with_len (from + 1) count)) (f (from + 1 + count)))
    ∙ ap (λ (at : ℕ). (f from ++ flat_map f (range_with_len (from + 1) count)) ++ f at) (let same : from + 1 + count ≡ from + suc count = omega arith in same)

texts_more : (run : Setup) (step : ℕ) → texts run (suc step) ≡ texts run step ++ text run step
texts_more run step = one_more (text run) 0 step ∙ ap (λ (at : ℕ). texts run step ++ text run at) (let same : 0 + step ≡ step = omega arith in same)

-- what the steps before a step come to, and what the step adds
pub tallied_next : (run : Setup) (step : ℕ) (bytes : List ℕ) (lines : List RankLine) (tally : Tally) → tally ≡ tally_of (texts run step ++ bytes) lines → bytes ≡ text run step → lines ≡ rank_lines run step
    → tally ≡ tally_before run (suc step)
tallied_next run step bytes lines tally is text_is lines_are =
    is ∙ ap (λ (b : List ℕ). tally_of (texts run step ++ b) lines) text_is ∙ ap (λ (b : List ℕ). tally_of b lines) (sym (texts_more run step))
    ∙ ap (λ (l : List RankLine). tally_of (texts run (suc step)) l) lines_are

-- the answer of a step that ends the run
pub ended_by : (run : Setup) (result : Result Tally Ending) (status : Ending) → IsErr result × IsErrAnd result (λ s. s ≡ status) → (status ≡ Memory) ⊎ EndsBy run status → TalliesRun run result
ended_by run (Ok tally) status is ends = let failed = is.0 in absurd (cc)
ended_by run (Err other) status is ends = subst (λ (s : Ending). (s ≡ Memory) ⊎ EndsBy run s) (sym is.1) ends

-- a run whose steps are all before its end goes through
goes_through_at : (run : Setup) (end : Option ℕ) → EndsOrGoesThrough run end → suc run.steps ≤ step_count_to run end → end ≡ None
goes_through_at run None law past = refl
goes_through_at run (Some e) law past = let within = law.within in absurd (omega arith)

pub goes_through : (run : Setup) → EndsOrGoesThrough run (end_of run) → suc run.steps ≤ step_count run → end_of run ≡ None
goes_through run law past = goes_through_at run (end_of run) law past

-- a step that stops a run is its end
pub ends_by : (run : Setup) (step : ℕ) (status : Ending) → EndsOrGoesThrough run (end_of run) → step ≤ step_count run → step ≤ run.steps → StopsAt run step status → EndsBy run status
ends_by run step status law within inside h = record {
  step = step;
  at = the_end run step h.stop law within inside h.fault;
  stops = h;
}

-- so is that of the whole run
pub unsaid_passed : {X : Type 0} (count seed : ℕ) (kernel : Kernel) (result : Result X Ending) (status : Ending) → IsErr result × IsErrAnd result (λ s. s ≡ status) → IsBenchKernel kernel
    → (status ≡ Memory) ⊎ EndsBy (bench_setup count seed kernel) status → IfErr result (EndsUnsaid count seed)
unsaid_passed count seed kernel (Ok x) status is bench ends = let failed = is.0 in absurd (cc)
unsaid_passed count seed kernel (Err other) status is bench ends = elim ends [
  | inl none ↦ inl (is.1 ∙ none)
  | inr by ↦ inr (kernel, bench, subst (λ (s : Ending). EndsBy (bench_setup count seed kernel) s) (sym is.1) by)
]

-- the summary of a run that goes through is the verdict
pub answers : (count seed : ℕ) (kernel : Kernel) (tally : Tally) (said : List ℕ) → IsBenchKernel kernel → TalliesRun (bench_setup count seed kernel) (Ok tally)
    → said ≡ summary_text count seed tally → (files : Files) → BenchMeans count seed files (speaks said)
answers count seed kernel tally said is tallies text_is files =
    let run = bench_setup count seed kernel in
    (kernel, is, ap speaks (text_is ∙ ap (summary_text count seed) tallies.1) ∙ sym (ap (bench_verdict_at count seed run) tallies.0))

-- the saying of the summary ends a benchmark
pub speaking_ends_bench : (status : Ending) → EndsSpeaking status → EndsBench status
speaking_ends_bench Done h = tt
speaking_ends_bench Usage h = absurd h
speaking_ends_bench (Refused refusal) h = absurd h
speaking_ends_bench (Numeric step fault) h = absurd h
speaking_ends_bench (Lists step count) h = absurd h
speaking_ends_bench (StoreFault Open) h = absurd h
speaking_ends_bench (StoreFault Read) h = absurd h
speaking_ends_bench (StoreFault Create) h = absurd h
speaking_ends_bench (StoreFault Write) h = absurd h
speaking_ends_bench (StoreFault Say) h = tt
speaking_ends_bench Memory h = tt

pub said_bench : (count seed : ℕ) (said text : List ℕ) (status : Ending) (old new : Standing) → ((files : Files) → BenchMeans count seed files (speaks text)) → said ≡ text
    → CarriesOut EndsSpeaking (λ files verdict. verdict ≡ speaks said) status old new → CarriesOut EndsBench (BenchMeans count seed) status old new
said_bench count seed said text status old new meant same h =
    carried_as_more EndsSpeaking EndsBench (λ files verdict. verdict ≡ speaks said) (BenchMeans count seed) status old new (speaking_ends_bench status)
    (λ files verdict e. let m = meant files in (m.0, m.1, e ∙ ap speaks same ∙ m.2)) (λ alike some other verdict e. e) h

-- a fault ends it with nothing said
stopped_bench : (count seed : ℕ) (kernel : Kernel) (step : ℕ) (stop : Stop) (old : Standing) → IsBenchKernel kernel
    → stops (stop_status step (Some stop)) ≡ bench_verdict count seed (bench_setup count seed kernel) → CarriesOut EndsBench (BenchMeans count seed) (stop_status step (Some stop)) old old
stopped_bench count seed kernel step (stop.Numeric fault) old is verdict =
    carried_at_once EndsBench (BenchMeans count seed) (Numeric step fault) old tt (λ files. inr (record { meant = (kernel, is, verdict); kept = refl })) (λ files said. refl) refl
stopped_bench count seed kernel step (stop.Lists entries) old is verdict =
    carried_at_once EndsBench (BenchMeans count seed) (Lists step entries) old tt (λ files. inr (record { meant = (kernel, is, verdict); kept = refl })) (λ files said. refl) refl

pub unsaid_bench : (count seed : ℕ) (status : Ending) (old : Standing) → EndsUnsaid count seed status → CarriesOut EndsBench (BenchMeans count seed) status old old
unsaid_bench count seed status old h = elim h [
  | inl e ↦ subst (λ (s : Ending). CarriesOut EndsBench (BenchMeans count seed) s old old) (sym e)
      (carried_at_once EndsBench (BenchMeans count seed) Memory old tt (λ files. inl refl) (λ files said. refl) refl)
  | inr k ↦
      let run = bench_setup count seed k.0 in
      let ends = k.2 in
      let verdict = ap stops (sym (ap (stop_status ends.step) ends.stops.fault)) ∙ sym (ap (bench_verdict_at count seed run) ends.at) in
      subst (λ (s : Ending). CarriesOut EndsBench (BenchMeans count seed) s old old) (sym ends.stops.status_is)
      (stopped_bench count seed k.0 ends.step ends.stops.stop old k.1 verdict)
]
