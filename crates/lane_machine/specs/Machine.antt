-- A machine, and the code that it runs.
use Rattle.std.specs.Prelude.{◌≡◌, ◌<◌, ℕ, List, None, length, vec_len}
use Rattle.pf_model.specs.Particle.{Particle}
use Rattle.pf_model.specs.Totals.{Source}
use Rattle.lane_code.specs.declared.code.RawCode.{RawCode}
use Rattle.lane_code.specs.Outcome.{lane_answer}
use Rattle.lane_machine.specs.Block.{item_at}
use Rattle.lane_machine.specs.declared.machine.Machine.{Machine}

-- the code of a machine
abbrev pub code_of : Machine → RawCode
code_of machine = record {
  numbers = vec_len machine.registers.numbers;
  masks = vec_len machine.registers.masks;
  slots = machine.slots;
  steps = machine.steps.items;
}

-- a code faults for one of these items
pub record SomeItemFaults (raw : RawCode) (i : Particle) (items : List Source) : Type 0 where
  pub place : ℕ
  pub within : place < length items
  pub none : lane_answer raw i (item_at items place) ≡ None
