use Rattle.std.proofs.Common.{◌∙◌, ap}
use Rattle.pf_geom.specs.Key.{morton_key}
use Rattle.pf_model.specs.Particle.{Particle}
use Rattle.morton_tree.proofs.SortingLemmas.{placed_is, placed_more}
use Rattle.morton_tree.proofs.sorting.placed.Goals as goal

pub loop-place-preserved : goal.loop-place-preserved
loop-place-preserved c =
    let js = c.args.bodies.now in
    let place = c.loop-place.place in
    let body : Particle = c.index-bodies-place.result in
    let is =
    placed_is js place c.key_of.result c.body.inside.id body c.loop-place-test.true c.index-bodies-place.is
    (c.key_of.ensures.value ∙ ap (λ (j : Particle). morton_key j.at) c.body.view_is) (ap (λ (j : Particle). j.id) c.body.view_is) in
    c.in_ok-push.ensures.items ∙ placed_more js place c.loop-place.placed.items _ c.loop-place.invariant is
