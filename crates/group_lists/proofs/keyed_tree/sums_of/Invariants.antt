use Rattle.std.proofs.Common.{◌≡◌, ◌+◌, map, take}
use Rattle.std.specs.List.{range_with_len}
use Rattle.pf_model.specs.Sufficiency.{moment_together}
use Rattle.group_lists.proofs.keyed_tree.sums_of.Given as goal

abbrev pub invariant-loop-item : goal.invariant-loop-item
invariant-loop-item l =
    (l.sums.items ≡ map (λ k. moment_together (take k l.items)) (range_with_len 0 (l.item-index + 1)))
    × (l.so_far ≡ moment_together (take l.item-index l.items))
