use Rattle.pf_model.proofs.EveryLemmas.{one_more, every}
use Rattle.pf_model.specs.Particle.{IsParticle}
use Rattle.pf_model.proofs.terms.keep_limits.Goals as goal

pub loop-body-preserved : goal.loop-body-preserved
loop-body-preserved c =
    one_more IsParticle c.args.bodies.now _ _ c.loop-body-test.true c.body-item.is c.loop-body.invariant c.keeps_limits.ensures

pub returns : goal.returns
returns c = every IsParticle c.args.bodies.now _ c.loop-body-test.false c.loop-body.invariant
