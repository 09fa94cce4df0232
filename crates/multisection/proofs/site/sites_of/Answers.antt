use Rattle.std.proofs.Common.{◌++◌, [], ◌∷◌, map, take, sym, ◌∙◌, subst}
use Rattle.std.proofs.lemmas.List.{map_more}
use Rattle.std.proofs.lemmas.List.Elements.{All-more}
use Rattle.pf_geom.specs.Position.{IsPosition}
use Rattle.pf_model.specs.Particle.{Particle}
use Rattle.multisection.specs.Sites.{site_of}
use Rattle.multisection.proofs.site.sites_of.Goals as goal

pub loop-body-preserved : goal.loop-body-preserved
loop-body-preserved c =
    let js = c.args.bodies.now in
    let i = c.loop-body.body-index in
    let j = c.body-item.result in
    let P = λ (k : Particle). IsPosition k.at in
    record {
      value = c.in_ok-push.ensures.items ∙ (λ k. c.loop-body.invariant.value k ++ c.of.ensures.value k ∷ []) ∙ (λ k. map site_of (take i js) ++ site_of (c.body-item.is k) ∷ []) ∙ sym (map_more site_of js i j c.loop-body-test.true);
      inside = All-more P js i j c.loop-body-test.true c.loop-body.invariant.inside (subst P c.body-item.is c.of.ensures.inside);
    }
