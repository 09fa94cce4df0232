use Rattle.std.proofs.lemmas.Result.{err_from_is_err_and}
use Rattle.rank_step.proofs.GatheredLemmas.{have_own}
use Rattle.refresh_phase.specs.Laws.{IsBuilt}
use Rattle.rank_step.proofs.build.build_by.Goals as goal

pub gather_all-requires-clause-own : goal.gather_all-requires-clause-own
gather_all-requires-clause-own g c κs within = have_own c.own_laws.ensures g.T.Terms.grid g.T.Terms.particles c.requires.ascending c.args.ranks.now c.requires.owners

pub returns-in_err-finish-clause-fault : goal.returns-in_err-finish-clause-fault
returns-in_err-finish-clause-fault g c u by =
    let p = err_from_is_err_and c.from_residual-in_err-finish.result c.from_residual-in_err-finish.ensures.1 in
    rw (p.1, p.2) (c.in_err-finish.ensures.fault u by)

pub returns-clause-kept : goal.returns-clause-kept
returns-clause-kept g c ranks are =
    let js = g.T.Terms.particles in
    let trees = c.in_ok-trees.field-0.trees.items in
    let gathers = c.in_ok-trees.field-0.gathers.items in
    let lists = c.in_ok-finish.field-0.items in
    let finished = c.in_ok-finish.ensures.finished in
    let built : IsBuilt c.args.limit g.T.Terms.theta g.T.Terms.grid js trees gathers lists = record {
      division = g.T.Terms.is_division;
      are_bodies = g.T.Terms.are_bodies;
      within_limits = g.T.Terms.within_limits;
      trees_are = c.in_ok-trees.ensures.trees;
      sent = c.in_ok-trees.ensures.sent;
      over = c.in_ok-trees.ensures.over;
      counted = finished.counted;
      finish = finished.each;
    } in
    c.builds_begin_as_kept.ensures c.args.limit g.T.Terms.theta g.T.Terms.grid js trees gathers lists ranks built are
