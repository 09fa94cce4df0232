use Rattle.std.proofs.Common.{map, ◌∙◌, ap}
use Rattle.std.proofs.lemmas.Result.{IfOk-weaker}
use Rattle.step_core.specs.Core.{Settings, numbered_groups}
use Rattle.step_core.specs.Plain.{listed_site}
use Rattle.step_core.proofs.ListingLemmas.{list_taken, list_kept}
use Rattle.step_core.proofs.scene.Scene.list_after_take.Goals as goal

pub returns-then-site-rank : goal.returns-then-site-rank
returns-then-site-rank c =
    let sites = c.self.invariant.sites ∙ ap (λ (v : Settings). map listed_site (numbered_groups v)) c.self.view_is in
    IfOk-weaker c.list.result _ _ (λ new made.
    list_taken c.args.self.now c.args.progress.now c.args.rank c.args.arrivals.now c.self.inside.sites.items c.args.place c.index-site.result.now new
    sites c.requires.within c.index-site.ensures c.if-site-rank.true c.requires.rank c.requires.arrivals made) c.list.ensures

pub returns-else-site-rank : goal.returns-else-site-rank
returns-else-site-rank c =
    let sites = c.self.invariant.sites ∙ ap (λ (v : Settings). map listed_site (numbered_groups v)) c.self.view_is in
    IfOk-weaker c.copy.result _ _ (λ new copied.
    list_kept c.args.self.now c.args.progress.now c.args.rank c.self.inside.sites.items c.args.place c.index-site.result.now c.args.list.now new
    sites c.requires.within c.index-site.ensures c.if-site-rank.false c.requires.before copied) c.copy.ensures
