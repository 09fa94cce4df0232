use Rattle.std.proofs.Common.{map, ◌∙◌, ap}
use Rattle.pf_model.specs.Particle.{Particle}
use Rattle.refresh_phase.proofs.FoundLemmas.{ids_stay}
use Rattle.refresh_phase.proofs.present.present_bodies.Goals as goal

pub returns-clause-ids : goal.returns-clause-ids
returns-clause-ids c = ap (map (λ (p : Particle). p.id)) c.in_ok-present.ensures ∙ ids_stay c.args.now.now c.args.bodies.now
