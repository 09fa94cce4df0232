-- What `bench N SEED` means, whatever the contents: a run of the particles of the benchmark, whose summary is said.
use Rattle.std.specs.Prelude.{ℕ, ◌≡◌, ◌⊎◌, Option, Some, None}
use Rattle.pf_io.specs.Store.{Files}
use Rattle.kern_tree.specs.declared.kernel.Kernel.{Kernel}
use Rattle.run_model.specs.declared.fault.Fault.{Fault}
use Rattle.run_model.specs.Setup.{Setup}
use Rattle.run_model.specs.Run.{first_fault, end_of}
use Rattle.bench_input.specs.Kernel.{IsBenchKernel}
use Rattle.bench_input.specs.Setup.{bench_setup}
use Rattle.bench_summary.specs.Summary.{run_summary}
use Rattle.command_frame.specs.Verdict.{Verdict, stops, speaks}
use Rattle.command_frame.specs.declared.status.Status.TheVariants.{Done, Usage, Refused, Numeric, Lists}
use Rattle.command_frame.specs.declared.status.Status.TheVariants.{StoreFault, Memory}
use Rattle.command_frame.specs.declared.status.StoreCall.TheVariants.{Open, Read, Create, Write, Say}
use Rattle.top_call.specs.declared.status.Refusal.{Refusal}
use Rattle.top_call.specs.Run.{Ending, stop_status}
use Rattle.top_call.specs.Steps.{EndsBy}

abbrev pub bench_verdict_at : ℕ → ℕ → Setup → Option ℕ → Verdict Refusal Fault
bench_verdict_at count seed run None = speaks (run_summary count seed run)
bench_verdict_at count seed run (Some step) = stops (stop_status step (first_fault run step))

-- the summary is said, or the first fault of the run ends the command
abbrev pub bench_verdict : ℕ → ℕ → Setup → Verdict Refusal Fault
bench_verdict count seed run = bench_verdict_at count seed run (end_of run)

-- `bench N SEED`: the run of these particles by the kernel of the benchmark
abbrev pub BenchMeans : ℕ → ℕ → Files → Verdict Refusal Fault → Type 0
BenchMeans count seed files verdict =
    (kernel : Kernel) × IsBenchKernel kernel × (verdict ≡ bench_verdict count seed (bench_setup count seed kernel))

-- it has no summary to say, and ends by the first fault of its run, or for want of memory
abbrev pub EndsUnsaid : ℕ → ℕ → Ending → Type 0
EndsUnsaid count seed status =
    (status ≡ Memory) ⊎ ((kernel : Kernel) × IsBenchKernel kernel × EndsBy (bench_setup count seed kernel) status)

-- the statuses that a benchmark may end with: no input of it is refused, and it only says
abbrev pub EndsBench : Ending → Type 0
EndsBench Done = Unit {0}
EndsBench Usage = ⊥
EndsBench (Refused refusal) = ⊥
EndsBench (Numeric step fault) = Unit {0}
EndsBench (Lists step count) = Unit {0}
EndsBench (StoreFault Open) = ⊥
EndsBench (StoreFault Read) = ⊥
EndsBench (StoreFault Create) = ⊥
EndsBench (StoreFault Write) = ⊥
EndsBench (StoreFault Say) = Unit {0}
EndsBench Memory = Unit {0}
