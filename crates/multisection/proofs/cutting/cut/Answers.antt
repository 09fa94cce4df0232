use Rattle.std.proofs.Common.{◌≡◌, List, sym, ◌∙◌, ap, subst}
use Rattle.std.specs.List.{All}
use Rattle.std.specs.Result.{IfOk}
use Rattle.std.proofs.lemmas.List.Elements.{All-map}
use Rattle.pf_geom.specs.Position.{IsPosition}
use Rattle.pf_model.specs.Particle.{Particle}
use Rattle.pf_model.specs.Particles.{AreBodies}
use Rattle.pf_model.specs.Domains.{Multisection, cuts_for}
use Rattle.multisection.specs.Sites.{site_of}
use Rattle.multisection.proofs.CutLemmas.{cuts_for-sites, sites_are_bodies}
use Rattle.multisection.proofs.cutting.cut.Goals as goal

pub cut_sites-requires-clause-bodies : goal.cut_sites-requires-clause-bodies
cut_sites-requires-clause-bodies c = subst AreBodies (sym (c.deref_mut.ensures.value ∙ c.in_ok-sites.ensures.value)) (sites_are_bodies c.args.bodies.now c.requires)

pub cut_sites-requires-clause-inside : goal.cut_sites-requires-clause-inside
cut_sites-requires-clause-inside c =
    subst (λ (l : List Particle). All (λ j. IsPosition j.at) l) (sym (c.deref_mut.ensures.value ∙ c.in_ok-sites.ensures.value))
    (All-map (λ (j : Particle). IsPosition j.at) site_of c.args.bodies.now c.in_ok-sites.ensures.inside)

pub returns : goal.returns
returns c =
    let js = c.args.bodies.now in
    let g = c.args.grid in
    let is : cuts_for g c.deref_mut.result.now ≡ cuts_for g js = ap (cuts_for g) (c.deref_mut.ensures.value ∙ c.in_ok-sites.ensures.value) ∙ cuts_for-sites c.maps_keep_orders.ensures g js in
    subst (λ (s : Multisection). IfOk c.cut_sites.result (λ cuts. cuts ≡ s)) is c.cut_sites.ensures
