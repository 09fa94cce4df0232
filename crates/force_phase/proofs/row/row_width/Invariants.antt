use Rattle.std.proofs.Common.{◌≡◌, ◌≤◌, ◌*◌, take}
use Rattle.force_phase.specs.Outcome.{row_width}
use Rattle.force_phase.proofs.row.row_width.Given as goal

abbrev pub invariant-loop-v : goal.invariant-loop-v
invariant-loop-v l = (l.width ≡ row_width (take l.v-index l.forces)) × (l.width ≤ 3 * l.v-index)
