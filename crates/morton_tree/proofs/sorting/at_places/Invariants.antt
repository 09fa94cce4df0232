use Rattle.std.proofs.Common.{◌≡◌, map, take}
use Rattle.morton_tree.specs.Sorting.{particle_at}
use Rattle.morton_tree.proofs.sorting.at_places.Given as goal

abbrev pub invariant-loop-one : goal.invariant-loop-one
invariant-loop-one l = l.sorted.items ≡ map (particle_at l.bodies) (take l.one-index l.placed)
