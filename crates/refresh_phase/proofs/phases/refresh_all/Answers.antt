use Rattle.std.proofs.Common.{length, ◌∙◌, ap}
use Rattle.std.proofs.lemmas.List.{length-map}
use Rattle.refresh_phase.specs.Renewing.{moved_to}
use Rattle.refresh_phase.proofs.RankLemmas.{all_arrived, all_kept, can_renew, kept_since}
use Rattle.refresh_phase.proofs.phases.refresh_all.Goals as goal

pub move_all-requires-clause-kept : goal.move_all-requires-clause-kept
move_all-requires-clause-kept g c κs within =
    let was = c.requires.kept in
    kept_since was.0 g.T.Terms.theta g.T.Terms.grid g.T.Terms.particles was.1 c.args.ranks.items was.2

pub renew_all-requires-clause-renew : goal.renew_all-requires-clause-renew
renew_all-requires-clause-renew g c κs within =
    let was = c.requires.kept in
    can_renew g.T.Terms.theta g.T.Terms.grid g.T.Terms.particles c.args.now.now c.args.ranks.items c.in_ok-ranks.ranks.items
    (kept_since was.0 g.T.Terms.theta g.T.Terms.grid g.T.Terms.particles was.1 c.args.ranks.items was.2) c.in_ok-ranks.ensures.moved

pub returns-clause-kept : goal.returns-clause-kept
returns-clause-kept g c limit before kept =
    all_kept g.T.Terms.theta g.T.Terms.grid g.T.Terms.particles c.args.now.now limit before c.args.ranks.items c.in_ok-ranks.ranks.items c.in_ok-ranks-2.ranks.items c.in_ok-ranks-2.arrivals.items
    kept c.in_ok-ranks.ensures.moved c.in_ok-ranks-2.ensures

pub returns-clause-arrivals : goal.returns-clause-arrivals
returns-clause-arrivals g c =
    let was = c.requires.kept in
    all_arrived g.T.Terms.theta g.T.Terms.grid g.T.Terms.particles c.args.now.now c.in_ok-ranks.ranks.items c.in_ok-ranks-2.ranks.items c.in_ok-ranks-2.arrivals.items
    (ap length c.in_ok-ranks.ensures.moved ∙ length-map c.args.ranks.items (moved_to c.args.now.now) ∙ was.2.counted) c.in_ok-ranks-2.ensures
