use Rattle.std.proofs.Common.{subst}
use Rattle.std.specs.List.{All}
use Rattle.std.proofs.lemmas.List.{take_all}
use Rattle.std.proofs.lemmas.List.Elements.{All-more}
use Rattle.pf_geom.specs.Position.{IsPosition}
use Rattle.pf_model.specs.Particle.{Particle}
use Rattle.step_core.proofs.cutting.are_positions.Goals as goal

pub loop-body-preserved : goal.loop-body-preserved
loop-body-preserved c =
    let P : Particle → Type 0 = λ j. IsPosition j.at in
    All-more P c.args.bodies.now c.loop-body.body-index c.body-item.result c.loop-body-test.true c.loop-body.invariant (subst P c.body-item.is c.is_position.ensures)

pub returns : goal.returns
returns c = subst (All (λ (j : Particle). IsPosition j.at)) (take_all c.loop-body.body-index c.args.bodies.now c.loop-body-test.false) c.loop-body.invariant
