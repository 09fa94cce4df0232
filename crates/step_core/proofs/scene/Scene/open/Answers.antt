use Rattle.std.proofs.Common.{◌≡◌, length, map, ◌∙◌, ap, subst, arith}
use Rattle.std.proofs.lemmas.List.{length-map}
use Rattle.pf_model.specs.Division.{IsDivision, rank_count}
use Rattle.pf_model.specs.Domains.{cuts_for}
use Rattle.step_core.specs.Core.{Settings, numbered_groups}
use Rattle.step_core.specs.Plain.{listed_site, sites_by}
use Rattle.step_core.proofs.GroupingLemmas.{sites_are, few_groups}
use Rattle.step_core.proofs.scene.Scene.open.Goals as goal

pub invariant_of-result : goal.invariant_of-result
invariant_of-result c =
    let s = c.args.setup in
    let grid = ap (λ (v : Settings). v.grid) c.setup.view_is in
    let limit = ap (λ (v : Settings). v.limit) c.setup.view_is in
    let bodies = c.deref.ensures.value ∙ ap (λ (v : Settings). v.bodies) c.setup.view_is in
    let bodies_2 = c.deref-2.ensures.value ∙ ap (λ (v : Settings). v.bodies) c.setup.view_is in
    let cuts : c.in_ok-cuts.cuts ≡ cuts_for s.grid s.bodies = c.in_ok-cuts.ensures ∙ (λ i. cuts_for (grid i) (bodies i)) in
    let ranks : c.rank_count.result ≡ rank_count s.grid = c.rank_count.ensures.value ∙ ap rank_count grid in
    let sites : c.in_ok-sites.sites.items ≡ map listed_site (numbered_groups s) =
    c.in_ok-sites.ensures ∙ (λ i. sites_by (limit i) (cuts i) (bodies_2 i) (ranks i)) ∙ sites_are s.limit s.grid s.bodies in
    record {
      settings = c.requires;
      cuts = cuts;
      sites = sites;
      few =
          (let long = ap length sites ∙ length-map (numbered_groups s) listed_site in
          let few = few_groups c.groups_are_few.ensures s (subst IsDivision grid c.rank_count.ensures.division) c.requires in
          omega arith);
    }
