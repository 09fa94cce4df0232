-- The steps of a run, one after another.
use Rattle.std.specs.Prelude.{ℕ, zero, suc, ◌≡◌, ◌-◌, ◌≤◌, ◌⊎◌, List, [], map, Option, Some, None, Result, Ok, Err}
use Rattle.std.specs.List.{range_with_len}
use Rattle.run_model.specs.declared.step_text.RankLine.{RankLine}
use Rattle.run_model.specs.Setup.{Setup}
use Rattle.run_model.specs.Run.{Stop, first_fault, end_of}
use Rattle.run_model.specs.Run as stop
use Rattle.run_model.specs.Text.{text, texts}
use Rattle.bench_summary.specs.declared.tally.Tally.{Tally}
use Rattle.bench_summary.specs.Summary.{rank_lines, tally_of}
use Rattle.rank_step.specs.World.{Standing, StandsFor}
use Rattle.run_model.specs.declared.fault.StepFault.{StepFault}
use Rattle.run_model.specs.declared.fault.StepFault.TheVariants as faults
use Rattle.command_frame.specs.declared.status.Status.TheVariants.{Memory}
use Rattle.deck_file.specs.declared.limits.TheConstants.{MOST_STEPS}
use Rattle.pf_geom.specs.declared.edge.Edge.TheVariants.{Open}
use Rattle.top_call.specs.declared.world.Dump.{Dump}
use Rattle.top_call.specs.Run.{Ending, last_status, step_count, stop_status}

-- a step has no fault, this text and these rank lines, and leads to a world that stands for the state after it; or it
-- has this fault
abbrev pub TakesStep : Setup → ℕ → Result (Standing × Dump) StepFault → Type 0
TakesStep run step (Ok p) =
    (first_fault run step ≡ None) × (p.1.text.items ≡ text run step) × StandsFor p.0 run × (p.0.due ≡ suc step)
    × (p.1.ranks ≡ rank_lines run step)
TakesStep run step (Err (faults.Numeric fault)) = first_fault run step ≡ Some (stop.Numeric fault)
TakesStep run step (Err (faults.Lists count)) = first_fault run step ≡ Some (stop.Lists count)
TakesStep run step (Err faults.Memory) = Unit {0}

-- the texts of the steps from this one on
abbrev pub texts_from : Setup → ℕ → List (List ℕ)
texts_from run step = map (text run) (range_with_len step (step_count run - step))

-- what is still to come of a run: the texts of its steps, and the status that ends them
pub record Coming : Type 0 where
  pub texts : List (List ℕ)
  pub last : Ending

-- from this step on, where a world is left to take it in
abbrev pub coming : {W : Type 0} → Setup → Option W → ℕ → Coming
coming run None step = record { texts = []; last = Memory }
coming run (Some world) step = record { texts = texts_from run step; last = last_status run }

-- a world that is due at this step stands for the run before it, which has come so far
pub record IsDue (due : ℕ) (Stands : Type 0) (run : Setup) (step steps : ℕ) : Type 0 where
  pub number : due ≡ step
  pub stands : Stands
  pub within : step ≤ step_count run
  pub steps_are : steps ≡ run.steps
  pub few : steps ≤ MOST_STEPS

-- the rank lines of the step before this one, if there is one
abbrev pub lines_before : Setup → ℕ → List RankLine
lines_before run zero = []
lines_before run (suc step) = rank_lines run step

-- what the steps before this one come to
abbrev pub tally_before : Setup → ℕ → Tally
tally_before run step = tally_of (texts run step) (lines_before run step)

-- the step has this fault, and ends the run so
pub record StopsAt (run : Setup) (step : ℕ) (status : Ending) : Type 0 where
  pub stop : Stop
  pub fault : first_fault run step ≡ Some stop
  pub status_is : status ≡ stop_status step (Some stop)

-- a step leads to this world, and with it the steps come to this; or it stops the run, or memory runs out
abbrev pub TakesNext : Setup → ℕ → Tally → Result Standing Ending → Type 0
TakesNext run step tally (Ok world) =
    (first_fault run step ≡ None) × StandsFor world run × (world.due ≡ suc step) × (tally ≡ tally_before run (suc step))
TakesNext run step tally (Err status) = (status ≡ Memory) ⊎ StopsAt run step status

-- the first step that has a fault ends the run so
pub record EndsBy (run : Setup) (status : Ending) : Type 0 where
  pub step : ℕ
  pub at : end_of run ≡ Some step
  pub stops : StopsAt run step status

-- a run goes through, and all its steps come to this; or it ends so, or for want of memory
abbrev pub TalliesRun : Setup → Result Tally Ending → Type 0
TalliesRun run (Ok tally) = (end_of run ≡ None) × (tally ≡ tally_before run (suc run.steps))
TalliesRun run (Err status) = (status ≡ Memory) ⊎ EndsBy run status

-- a run of nothing
abbrev pub no_run : Setup
no_run = record {
  kernel = record { decls = []; body = [] };
  particles = [];
  grid = record { nx = 1; ny = 1; nz = 1 };
  theta = record { a = 0; b = 1; edge = Open };
  group = 1;
  steps = 0;
  dt = 1;
  reuse = 1;
}
