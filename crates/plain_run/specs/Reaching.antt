-- Where a run is after a step.
use Rattle.std.specs.Prelude.{◌≡◌, ℕ, Some, None}
use Rattle.run_model.specs.Setup.{Setup}
use Rattle.run_model.specs.Run.{state, first_fault}
use Rattle.run_model.specs.Run as runs
use Rattle.plain_run.specs.declared.run.Reached.{Reached}
use Rattle.plain_run.specs.declared.run.Reached.TheVariants.{At, Numeric, Lists, Past}

-- it has this state, it stopped at this step by this fault, or it stopped before
abbrev pub IsReached : Setup → ℕ → Reached → Type 0
IsReached u s (At now) = (state u s ≡ Some now) × (first_fault u s ≡ None)
IsReached u s (Numeric fault) = (state u s ≡ None) × (first_fault u s ≡ Some (runs.Numeric fault))
IsReached u s (Lists count) = (state u s ≡ None) × (first_fault u s ≡ Some (runs.Lists count))
IsReached u s Past = (state u s ≡ None) × (first_fault u s ≡ None)
