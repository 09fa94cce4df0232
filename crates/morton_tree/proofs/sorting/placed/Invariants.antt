use Rattle.std.proofs.Common.{◌≡◌, map}
use Rattle.std.specs.List.{range_with_len}
use Rattle.morton_tree.specs.Sorting.{placed_at}
use Rattle.morton_tree.proofs.sorting.placed.Given as goal

abbrev pub invariant-loop-place : goal.invariant-loop-place
invariant-loop-place l = l.placed.items ≡ map (placed_at l.bodies) (range_with_len 0 l.place)
