use Rattle.std.proofs.Common.{◌≡◌, Some, map}
use Rattle.tree_phase.proofs.phases.grown.Given as goal

abbrev pub invariant-loop-grower : goal.invariant-loop-grower
invariant-loop-grower g l = (l.posts.items ≡ map (λ x. x.post) l.yielded) × (map (λ r. Some r) l.trees.items ≡ map (λ x. x.tree) l.yielded)
