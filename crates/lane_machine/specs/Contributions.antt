-- What instructions give in a lane, as far as they come.
use Rattle.std.specs.Prelude.{ℕ, List, [], ◌∷◌, ◌++◌, Option, Some, None}
use Rattle.pf_model.specs.Particle.{Particle}
use Rattle.pf_model.specs.Totals.{Source}
use Rattle.lane_code.specs.declared.instruction.Instr.{Instr}
use Rattle.lane_code.specs.Outcome.{Given, given_by, outcome}
use Rattle.lane_code.specs.Steps.{LaneState, step}
use Rattle.lane_machine.specs.declared.registers.Registers.{Registers}
use Rattle.lane_machine.specs.Block.{item_at, lane_in}

-- what comes next, where the lane doesn't fault
abbrev pub onward : Option LaneState → (LaneState → List Given) → List Given
onward None next = []
onward (Some s) next = next s

abbrev pub contributions : Particle → Source → List Instr → LaneState → List Given
contributions i j [] s = []
contributions i j (x ∷ xs) s = given_by x s ++ onward (step i j x s) (contributions i j xs)

-- in a lane of a block
abbrev pub contributions_in : Particle → List Source → List Instr → Registers → ℕ → List Given
contributions_in i items steps registers lane = contributions i (item_at items lane) steps (lane_in registers lane)

abbrev pub outcome_in : Particle → List Source → List Instr → Registers → ℕ → Option (List Given)
outcome_in i items steps registers lane = outcome i (item_at items lane) steps (lane_in registers lane)

-- for the item of a place
abbrev pub contributions_at : Particle → List Source → List Instr → LaneState → ℕ → List Given
contributions_at i items steps start n = contributions i (item_at items n) steps start

abbrev pub outcome_at : Particle → List Source → List Instr → LaneState → ℕ → Option (List Given)
outcome_at i items steps start n = outcome i (item_at items n) steps start
