use Rattle.std.proofs.Common.{ap, ◌∙◌}
use Rattle.std.proofs.lemmas.Result.{IfOk-weaker}
use Rattle.pf_geom.specs.Bounds.{Bounds}
use Rattle.pf_model.specs.Particle.{Particle}
use Rattle.pf_model.specs.Reuse.{as_in, kept_list}
use Rattle.plain_run.proofs.ListingLemmas.{group_box}
use Rattle.plain_run.proofs.listing.list_for.Goals as goal

pub returns-clause-value : goal.returns-clause-value
returns-clause-value c =
    let built = c.args.built.now in
    let at = ap (λ (p : Particle). p.at) (c.there.view_is ∙ c.found-there.ensures) in
    let around =
    group_box c.args.limit c.args.grid built (as_in built c.args.i.now) c.there.inside.at c.in_ok-rank.rank c.in_ok-own.own.items _ _ c.slow_group_cell.result c.in_ok-around.around
    at c.in_ok-rank.ensures c.in_ok-own.ensures c.deref-2.ensures.value c.deref.ensures.value c.slow_group_cell.ensures c.in_ok-around.ensures in
    IfOk-weaker c.kept_list.result _ _ (λ entries e. e ∙ ap (λ (b : Bounds). kept_list c.args.theta b built c.args.now.now) around) c.kept_list.ensures.value
