use Rattle.std.proofs.Common.{rules, ◌≡◌, List, IfOk, subst}
use Rattle.pf_model.specs.Particle.{Particle}
use Rattle.rank_step.specs.World.{StandsFor}
use Rattle.top_call.specs.Run.{setup_of}
use Rattle.top_call.proofs.world.world_of.Goals as goal

pub returns-clause-stands : goal.returns-clause-stands
returns-clause-stands c =
    let deck = c.args.deck.now in
    let same : c.in_ok-to_vec.field-0.items ≡ c.args.particles = search rules in
    subst (λ (particles : List Particle). IfOk c.open.result (λ world. StandsFor world (setup_of deck c.args.kernel particles))) same
    (c.open.ensures.stands deck.steps)
