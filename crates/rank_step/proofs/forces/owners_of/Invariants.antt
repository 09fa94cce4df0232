use Rattle.std.proofs.Common.{◌≡◌, take, map}
use Rattle.pf_model.specs.Domains.{owner_by}
use Rattle.rank_step.proofs.forces.owners_of.Given as goal

abbrev pub invariant-loop-body : goal.invariant-loop-body
invariant-loop-body l = l.owners.items ≡ map (λ p. owner_by l.domains.cuts p.at) (take l.body-index l.bodies)
