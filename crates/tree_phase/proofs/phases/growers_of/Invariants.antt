use Rattle.std.proofs.Common.{◌≡◌, map}
use Rattle.tree_phase.proofs.phases.growers_of.Given as goal

abbrev pub invariant-loop-post : goal.invariant-loop-post
invariant-loop-post g l = map (λ x. x.post) l.growers.items ≡ l.yielded
