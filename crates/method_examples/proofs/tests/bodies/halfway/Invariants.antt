use Rattle.std.proofs.Common.{◌≡◌, map, take}
use Rattle.method_examples.proofs.tests.bodies.halfway.Given as goal

abbrev pub invariant-loop-body : goal.invariant-loop-body
invariant-loop-body l = map (λ j. j.id) l.now.items ≡ map (λ j. j.id) (take l.body-index l.bodies)
