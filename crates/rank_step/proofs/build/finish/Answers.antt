use Rattle.std.proofs.Common.{◌∙◌, ap, arith}
use Rattle.std.specs.List.{sum_by}
use Rattle.group_lists.specs.Gathering.{gathered_count}
use Rattle.rank_step.proofs.BuildLemmas.{AreReady, all_whole, each_few, lists_for_run, lines_for_run, few_for_run, many_for_run}
use Rattle.rank_step.proofs.build.finish.Given as given
use Rattle.rank_step.proofs.build.finish.Goals as goal

pub finish_all-requires-clause-whole : goal.finish_all-requires-clause-whole
finish_all-requires-clause-whole g c = all_whole c.args.limit g.T.Terms.grid g.T.Terms.particles c.args.gathers.items c.requires.gathered

pub finish_all-requires-clause-few : goal.finish_all-requires-clause-few
finish_all-requires-clause-few g c =
    let counted = c.count_of-count.ensures ∙ ap (sum_by (gathered_count g.T.Terms.theta g.T.Terms.grid g.T.Terms.particles)) c.deref.ensures.value in
    let few = c.if-count-gt-MOST_ENTRIES.false in
    each_few (gathered_count g.T.Terms.theta g.T.Terms.grid g.T.Terms.particles) 16777216 c.args.gathers.items (omega arith)

pub returns-then-count-gt-MOST_ENTRIES-clause-fault :
    goal.returns-then-count-gt-MOST_ENTRIES-clause-fault
returns-then-count-gt-MOST_ENTRIES-clause-fault g c u by =
    let ready : AreReady c.args.limit g.T.Terms.grid g.T.Terms.particles c.args.gathers.items = record {
      division = g.T.Terms.is_division;
      up = c.requires.ascending;
      all = c.requires.gathered;
    } in
    many_for_run c.build_laws.ensures g.T.Terms.grid g.T.Terms.theta c.args.limit g.T.Terms.particles c.args.gathers.items ready u by c.count_of-count.result
    (c.count_of-count.ensures ∙ ap (sum_by (gathered_count g.T.Terms.theta g.T.Terms.grid g.T.Terms.particles)) c.deref.ensures.value) c.if-count-gt-MOST_ENTRIES.true

ready : (g : given.Over) (c : goal.In_ok-finish_all g) → AreReady c.args.limit g.T.Terms.grid g.T.Terms.particles c.args.gathers.items
ready g c = record {
  division = g.T.Terms.is_division;
  up = c.requires.ascending;
  all = c.requires.gathered;
}

pub returns-clause-lists : goal.returns-clause-lists
returns-clause-lists g c u by =
    lists_for_run c.build_laws.ensures g.T.Terms.grid g.T.Terms.theta c.args.limit g.T.Terms.particles c.args.gathers.items (ready g c) u by c.in_ok-finish_all.field-0.items c.in_ok-finish_all.ensures

pub returns-clause-counts : goal.returns-clause-counts
returns-clause-counts g c u by =
    lines_for_run c.build_laws.ensures g.T.Terms.grid g.T.Terms.theta c.args.limit g.T.Terms.particles c.args.gathers.items (ready g c) u by c.in_ok-finish_all.field-0.items c.in_ok-finish_all.ensures

pub returns-clause-few : goal.returns-clause-few
returns-clause-few g c u by =
    few_for_run c.build_laws.ensures g.T.Terms.grid g.T.Terms.theta c.args.limit g.T.Terms.particles c.args.gathers.items (ready g c) u by c.count_of-count.result
    (c.count_of-count.ensures ∙ ap (sum_by (gathered_count g.T.Terms.theta g.T.Terms.grid g.T.Terms.particles)) c.deref.ensures.value) c.if-count-gt-MOST_ENTRIES.false
