use Rattle.std.proofs.Common.{map, sym, ap, ◌∙◌, arith}
use Rattle.std.proofs.lemmas.List.{take_all}
use Rattle.particle_file.proofs.DistinctLemmas.{ids-more}
use Rattle.particle_file.proofs.particles.copy_ids.Goals as goal

pub loop-i-preserved : goal.loop-i-preserved
loop-i-preserved c =
    ids-more c.args.bodies.now c.loop-i.ids c.loop-i.i c.index-bodies-i.result c.body.inside.id c.loop-i-test.true (c.loop-i.auto.ids ∙ c.requires) c.index-bodies-i.is (ap (λ p. p.id) (sym c.body.view_is)) c.loop-i.invariant

pub returns : goal.returns
returns c =
    sym (take_all c.loop-i.i c.loop-i.ids (omega arith)) ∙ c.loop-i.invariant ∙ ap (map (λ p. p.id)) (take_all c.loop-i.i c.args.bodies.now c.loop-i-test.false)
