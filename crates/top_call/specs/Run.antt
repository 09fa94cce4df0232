-- What `run DECK` means on the contents at entry.
use Rattle.std.specs.Prelude.{ℕ, suc, ◌≡◌, ◌≤◌, List, Option, Some, None}
use Rattle.pf_io.specs.Store.{Files}
use Rattle.pf_model.specs.Particle.{Particle}
use Rattle.kern_tree.specs.declared.kernel.Kernel.{Kernel}
use Rattle.deck_file.specs.declared.deck.Deck.{Deck}
use Rattle.run_model.specs.declared.fault.Fault.{Fault}
use Rattle.run_model.specs.Setup.{Setup}
use Rattle.run_model.specs.Run.{Stop, first_fault, end_of}
use Rattle.run_model.specs.Run as stop
use Rattle.run_model.specs.Text.{texts}
use Rattle.command_frame.specs.Verdict.{Verdict, writes, After}
use Rattle.command_frame.specs.declared.status.Status.{Status}
use Rattle.command_frame.specs.declared.status.Status.TheVariants.{Done, Usage, Refused, Numeric, Lists}
use Rattle.command_frame.specs.declared.status.Status.TheVariants.{StoreFault, Memory}
use Rattle.command_frame.specs.declared.status.StoreCall.TheVariants.{Open, Read, Create, Write, Say}
use Rattle.top_call.specs.declared.status.Refusal.{Refusal}
use Rattle.top_call.specs.Refusals.{IsNoMemory}
use Rattle.top_call.specs.Inputs.{DeckFileMeans, KernelFileMeans, ParticleFileMeans}

abbrev pub Ending : Type 0
Ending = Status Refusal Fault

-- what a deck, its kernel and its particles make
abbrev pub setup_of : Deck → Kernel → List Particle → Setup
setup_of deck kernel particles = record {
  kernel = kernel;
  particles = particles;
  grid = deck.grid;
  theta = deck.theta;
  group = deck.group;
  steps = deck.steps;
  dt = deck.dt;
  reuse = deck.reuse;
}

-- the status that a step's fault ends the command with
abbrev pub stop_status : ℕ → Option Stop → Ending
stop_status step None = Done
stop_status step (Some (stop.Numeric fault)) = Numeric step fault
stop_status step (Some (stop.Lists count)) = Lists step count

-- how many steps have a text: all, or those before the first that has a fault
abbrev pub step_count_to : Setup → Option ℕ → ℕ
step_count_to run None = suc run.steps
step_count_to run (Some step) = step

abbrev pub step_count : Setup → ℕ
step_count run = step_count_to run (end_of run)

abbrev pub last_status_at : Setup → Option ℕ → Ending
last_status_at run None = Done
last_status_at run (Some step) = stop_status step (first_fault run step)

-- done, or the first fault of the run
abbrev pub last_status : Setup → Ending
last_status run = last_status_at run (end_of run)

-- the output of a run, and how it ends
abbrev pub run_verdict : List ℕ → Setup → Verdict Refusal Fault
run_verdict out run = writes out (texts run (step_count run)) (last_status run)

-- `run DECK`: the deck, the kernel, the particles, and then the dumps
abbrev pub WithKernel : Deck → Kernel → Files → Verdict Refusal Fault → Type 0
WithKernel deck kernel files verdict =
    After ParticleFileMeans files deck.particles
    (λ particles last. last ≡ run_verdict deck.out (setup_of deck kernel particles)) verdict

abbrev pub WithDeck : Deck → Files → Verdict Refusal Fault → Type 0
WithDeck deck files verdict =
    After KernelFileMeans files deck.kernel (λ kernel. WithKernel deck kernel files) verdict

abbrev pub RunMeans : List ℕ → Files → Verdict Refusal Fault → Type 0
RunMeans name files verdict = After DeckFileMeans files name (λ deck. WithDeck deck files) verdict

-- so many workers may share the work of a run
pub record AreWorkers (count : ℕ) : Type 0 where
  pub some : 1 ≤ count
  pub most : count ≤ 64

-- the statuses that a run may end with: want of memory is a status of its own, and no refusal
abbrev pub EndsRun : Ending → Type 0
EndsRun Done = Unit {0}
EndsRun Usage = ⊥
EndsRun (Refused refusal) = IsNoMemory refusal
EndsRun (Numeric step fault) = Unit {0}
EndsRun (Lists step count) = Unit {0}
EndsRun (StoreFault Open) = Unit {0}
EndsRun (StoreFault Read) = Unit {0}
EndsRun (StoreFault Create) = Unit {0}
EndsRun (StoreFault Write) = Unit {0}
EndsRun (StoreFault Say) = ⊥
EndsRun Memory = Unit {0}
