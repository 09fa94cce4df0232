use Rattle.std.proofs.Common.{◌≡◌, length, map, subst}
use Rattle.std.specs.Prelude.{IfOk}
use Rattle.std.specs.List.{flat_map}
use Rattle.std.proofs.lemmas.Result.{IfOk-weaker}
use Rattle.pf_model.specs.Division.{IsDivision}
use Rattle.refresh_phase.specs.declared.phases.Refreshed.{Refreshed}
use Rattle.refresh_phase.specs.Kept.{AreKept, RankKept}
use Rattle.run_model.specs.Setup.{Setup}
use Rattle.run_model.specs.Text.{ranks, rank_counts}
use Rattle.rank_step.specs.Build.{AreListsOf}
use Rattle.rank_step.specs.Told.{groups_told}
use Rattle.rank_step.specs.World.{Follows}
use Rattle.rank_step.proofs.ClaimLemmas.{groups_counted}
use Rattle.rank_step.proofs.KeptLemmas.{AreKnown, in_terms, kept_counted, kept_lines, kept_lists, known_for}
use Rattle.rank_step.proofs.StepLemmas.{builds_by, run_follows, run_of}
use Rattle.rank_step.proofs.refreshing.refreshed.Given as given
use Rattle.rank_step.proofs.refreshing.refreshed.Goals as goal

pub returns-clause-kept : goal.returns-clause-kept
returns-clause-kept g c =
    let course = c.args.course.now in
    in_terms course.group course.theta _ course.grid _ c.args.built.now _ c.args.now.now c.args.kept.items c.refreshed_by.result c.of-build.ensures.theta c.of-build.ensures.grid c.of-build.ensures.bodies
    (c.refreshed_by.ensures.kept course.group) c.requires.kept

-- what a run that follows the course knows of the answer
known : (g : given.Over) (c : goal.After-refreshed_by g) (u : Setup) → Follows c.args.course.now u → IfOk c.refreshed_by.result (λ r. AreKnown u.group u.theta u.grid c.args.built.now c.args.now.now r.ranks.items)
known g c u follows =
    let course = c.args.course.now in
    IfOk-weaker c.refreshed_by.result (λ (r : Refreshed). AreKept course.group course.theta course.grid c.args.built.now c.args.now.now r.ranks.items)
    (λ (r : Refreshed). AreKnown u.group u.theta u.grid c.args.built.now c.args.now.now r.ranks.items)
    (λ r kept. known_for course.grid course.theta course.group c.args.built.now c.args.now.now r.ranks.items u (builds_by course u follows) (record {
      division = subst IsDivision c.of-build.ensures.grid c.of-build.result.is_division;
      rises = c.requires.ascending;
      same = c.requires.same;
      kept = kept;
    }))
    (returns-clause-kept g c)

pub returns-clause-lists : goal.returns-clause-lists
returns-clause-lists g c u follows =
    IfOk-weaker c.refreshed_by.result (λ (r : Refreshed). AreKnown u.group u.theta u.grid c.args.built.now c.args.now.now r.ranks.items)
    (λ (r : Refreshed). AreListsOf u c.args.built.now c.args.now.now (flat_map (λ (k : RankKept). k.lists.groups) r.ranks.items))
    (λ r are. kept_lists c.build_laws.ensures c.kept_groups_have_their_lists.ensures u c.args.built.now c.args.now.now r.ranks.items are)
    (known g c u follows)

pub returns-clause-counts : goal.returns-clause-counts
returns-clause-counts g c u follows =
    IfOk-weaker c.refreshed_by.result (λ (r : Refreshed). AreKnown u.group u.theta u.grid c.args.built.now c.args.now.now r.ranks.items)
    (λ (r : Refreshed). map (λ (k : RankKept). k.line) r.ranks.items ≡ map (rank_counts u c.args.built.now) (ranks u))
    (λ r are. kept_lines c.build_laws.ensures c.kept_groups_have_their_lists.ensures u c.args.built.now c.args.now.now r.ranks.items are)
    (known g c u follows)

pub returns-clause-groups : goal.returns-clause-groups
returns-clause-groups g c =
    let u = run_of c.args.course.now in
    IfOk-weaker c.refreshed_by.result (λ (r : Refreshed). AreKnown u.group u.theta u.grid c.args.built.now c.args.now.now r.ranks.items)
    (λ (r : Refreshed). groups_told (map (λ (k : RankKept). k.line) r.ranks.items) ≡ length (flat_map (λ (k : RankKept). k.lists.groups) r.ranks.items))
    (λ r are. groups_counted (λ (k : RankKept). k.line) (λ (k : RankKept). k.lists.groups) r.ranks.items
    (kept_counted c.build_laws.ensures c.kept_groups_have_their_lists.ensures u c.args.built.now c.args.now.now r.ranks.items are))
    (known g c u (run_follows c.args.course.now))
