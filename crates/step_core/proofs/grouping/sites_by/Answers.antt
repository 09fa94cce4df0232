use Rattle.std.proofs.Common.{◌∙◌, List, map, ap}
use Rattle.pf_model.specs.Particle.{Particle}
use Rattle.pf_model.specs.Group.{group_cells}
use Rattle.step_core.specs.Plain.{site_in, plain_owned}
use Rattle.step_core.proofs.RangeLemmas.{range_next}
use Rattle.step_core.proofs.grouping.sites_by.Goals as goal

pub loop-rank-preserved : goal.loop-rank-preserved
loop-rank-preserved c =
    let of_rank = λ (own : List Particle). map (site_in own c.loop-rank.rank) (group_cells c.args.limit own) in
    let own = c.deref.ensures.value ∙ c.in_ok-own.ensures in
    c.in_ok-add_sites.ensures
    ∙ range_next (λ rank. map (site_in (plain_owned c.args.cuts.now c.args.bodies.now rank) rank) (group_cells c.args.limit (plain_owned c.args.cuts.now c.args.bodies.now rank))) c.loop-rank.rank c.loop-rank.sites.items
    (of_rank c.deref.result.now) c.loop-rank.invariant (ap of_rank own)
