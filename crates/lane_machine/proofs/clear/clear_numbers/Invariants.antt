use Rattle.std.proofs.Common.{◌≡◌, ◌<◌, ℕ, ℤ, List, pos, get_or, replicate}
use Rattle.std.specs.Global.{Box}
use Rattle.lane_machine.proofs.clear.clear_numbers.Given as goal

abbrev pub invariant-loop-r : goal.invariant-loop-r
invariant-loop-r l = (k : ℕ) (d : Box (List ℤ)) → k < l.r → (get_or l.numbers k d).value ≡ replicate 64 (pos 0)
