use Rattle.std.proofs.Common.{◌≡◌, ◌<◌, ℕ, Bool, ◌==◌, List, get_or, replicate}
use Rattle.std.specs.Global.{Box}
use Rattle.lane_machine.proofs.clear.clear_masks.Given as goal

abbrev pub invariant-loop-m : goal.invariant-loop-m
invariant-loop-m l = (k : ℕ) (d : Box (List Bool)) → k < l.m → (get_or l.masks k d).value ≡ replicate 64 (k == 0)
