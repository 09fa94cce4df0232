use Rattle.std.proofs.Common.{List, [], map, ◌∙◌, ap}
use Rattle.std.proofs.lemmas.List.{take_all}
use Rattle.step_core.specs.declared.site.Site.{Site}
use Rattle.step_core.specs.Core.{Settings, numbered_groups}
use Rattle.step_core.specs.Plain.{listed_site, list_at}
use Rattle.step_core.proofs.ListingLemmas.{first_lists_are}
use Rattle.step_core.proofs.scene.Scene.first_lists.Goals as goal

pub returns : goal.returns
returns c =
    let s = c.args.self.now in
    let sites = take_all c.loop-site.site-index c.deref-site-items.result.now c.loop-site-test.false ∙ c.deref-site-items.ensures.value ∙ c.self.invariant.sites ∙ ap (λ (v : Settings). map listed_site (numbered_groups v)) c.self.view_is in
    c.loop-site.invariant ∙ ap (λ (l : List Site). map (list_at s.theta s.grid s.bodies []) l) sites ∙ first_lists_are s
