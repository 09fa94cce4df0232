use Rattle.std.proofs.Common.{◌∷◌, sym, ◌∙◌, ap, subst}
use Rattle.pf_model.specs.Particles.{AreBodies}
use Rattle.pf_model.specs.Domains.{cuts_for}
use Rattle.pf_model.specs.Interaction.{list_of}
use Rattle.step_core.specs.Core.{Settings}
use Rattle.step_core.specs.Plain.{seen_by}
use Rattle.step_core.specs.declared.scene.Scene.TheInside.{Inside}
use Rattle.step_core.proofs.ListingLemmas.{seen_are_bodies, seen_are_owned}
use Rattle.step_core.proofs.scene.Scene.list.Goals as goal

pub slow_list-requires : goal.slow_list-requires
slow_list-requires c =
    let bodies = c.deref.ensures.value ∙ ap (λ (v : Inside). v.setup.bodies) c.self-inside.view_is in
    subst AreBodies (sym (c.deref-2.ensures.value ∙ c.in_ok-seen.ensures))
    (seen_are_bodies c.some_have_distinct_ids.ensures c.self-inside.inside.0.1.0 c.deref.result.now (c.args.site.rank ∷ c.args.arrivals.now) (subst AreBodies (sym bodies) c.self.invariant.settings.bodies))

pub returns : goal.returns
returns c =
    let s = c.args.self.now in
    let ranks = c.args.site.rank ∷ c.args.arrivals.now in
    let theta = ap (λ (v : Inside). v.setup.theta) c.self-inside.view_is ∙ ap (λ (v : Settings). v.theta) c.self.view_is in
    let bodies = c.deref.ensures.value ∙ ap (λ (v : Inside). v.setup.bodies) c.self-inside.view_is ∙ ap (λ (v : Settings). v.bodies) c.self.view_is in
    let cuts = ap (λ (v : Inside). v.cuts) c.self-inside.view_is ∙ c.self.invariant.cuts ∙ ap (λ (v : Settings). cuts_for v.grid v.bodies) c.self.view_is in
    let seen = c.deref-2.ensures.value ∙ c.in_ok-seen.ensures ∙ (λ i. seen_by (cuts i) (bodies i) ranks) ∙ seen_are_owned s.grid s.bodies ranks in
    c.from_vec.ensures ∙ c.in_ok-slow_list.ensures ∙ (λ i. list_of (theta i) c.args.site.around (seen i))
