use Rattle.std.proofs.Common.{◌≡◌, take, nat_eq}
use Rattle.std.specs.List.{filter}
use Rattle.pf_model.specs.Domains.{owner}
use Rattle.plain_run.proofs.domains.particles_of.Given as goal

abbrev pub invariant-loop-body : goal.invariant-loop-body
invariant-loop-body l = l.own.items ≡ filter (λ j. nat_eq (owner l.grid l.bodies j.at) l.rank) (take l.body-index l.bodies)
