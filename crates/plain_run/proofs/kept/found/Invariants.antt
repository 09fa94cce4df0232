use Rattle.std.proofs.Common.{◌≡◌, drop, nat_eq}
use Rattle.std.specs.List.{find}
use Rattle.plain_run.proofs.kept.found.Given as goal

abbrev pub invariant-loop-other : goal.invariant-loop-other
invariant-loop-other l = find (λ b. nat_eq l.body.id b.id) (drop l.other-index l.bodies) ≡ find (λ b. nat_eq l.body.id b.id) l.bodies
