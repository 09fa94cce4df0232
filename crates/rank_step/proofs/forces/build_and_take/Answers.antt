use Rattle.std.proofs.Common.{ℕ, List, true, length, get_or, map, ap, refl, sym, ◌∙◌, subst}
use Rattle.std.specs.List.{flat_map}
use Rattle.std.proofs.lemmas.Result.{err_from_is_err_and}
use Rattle.pf_model.specs.Particle.{Particle}
use Rattle.pf_model.specs.Particles.{AreBodies}
use Rattle.force_phase.specs.Claims.{HaveAllGroups}
use Rattle.force_phase.specs.Phase.{bodies_in}
use Rattle.tree_phase.specs.declared.rank_lists.RankLists.{RankLists}
use Rattle.rank_step.specs.declared.course.Course.{Course}
use Rattle.run_model.specs.Answers.{StopsAt}
use Rattle.rank_step.specs.Build.{AreListsOf}
use Rattle.rank_step.specs.Taken.{Takes, taking_fault}
use Rattle.rank_step.specs.Told.{groups_told}
use Rattle.rank_step.proofs.ClaimLemmas.{groups_counted}
use Rattle.rank_step.proofs.StepLemmas.{build_of, builds_with, kept_since, lists_have_bodies, none_of_both, run_follows, run_of, stops_first, stops_later, takes_from, too_many_stops}
use Rattle.rank_step.proofs.forces.build_and_take.Goals as goal

pub with_forces-requires-clause-particles : goal.with_forces-requires-clause-particles
with_forces-requires-clause-particles g c κs within =
    let course = c.args.course.now in
    let u = run_of course in
    subst (λ (rs : List RankLists). AreBodies (bodies_in (flat_map (λ (r : RankLists). r.lists.groups) rs))) (sym c.deref-2.ensures.value)
    (lists_have_bodies c.distinct_ids_ignore_order.ensures u c.deref-particles.result.now c.deref-particles.result.now _ (c.in_ok-trees.ensures.lists u (builds_with course u (run_follows course) _ (ap (λ (k : Course). k.group) c.course.view_is))) (subst AreBodies (sym c.deref-particles.ensures.value) c.requires.particles))

pub returns-in_err-trees-clause-fault : goal.returns-in_err-trees-clause-fault
returns-in_err-trees-clause-fault g c u follows =
    let p = err_from_is_err_and c.from_residual-in_err-trees.result c.from_residual-in_err-trees.ensures.1 in
    rw (p.1, p.2)
    (subst (λ (js : List Particle). StopsAt (taking_fault u true js js) c.in_err-trees.field-0.0) c.deref-particles.ensures.value
    (stops_first _ _ c.in_err-trees.field-0.0 (too_many_stops u c.deref-particles.result.now c.in_err-trees.field-0.0 (c.in_err-trees.ensures.fault u (builds_with c.args.course.now u follows _ (ap (λ (k : Course). k.group) c.course.view_is))))))

pub returns-in_err-bodies-clause-fault : goal.returns-in_err-bodies-clause-fault
returns-in_err-bodies-clause-fault g c u follows =
    let p = err_from_is_err_and c.from_residual-in_err-bodies.result c.from_residual-in_err-bodies.ensures.1 in
    let course = c.args.course.now in
    let js = c.deref-particles.result.now in
    let by = builds_with course u follows _ (ap (λ (k : Course). k.group) c.course.view_is) in
    let lists = subst (λ (rs : List RankLists). AreListsOf u js js (flat_map (λ (r : RankLists). r.lists.groups) rs)) (sym c.deref-2.ensures.value) (c.in_ok-trees.ensures.lists u by) in
    let from = takes_from course u follows _ (ap (λ (k : Course). k.kernel) c.course.view_is) _ (ap (λ (k : Course). k.theta.edge) c.course.view_is) js js (flat_map (λ (r : RankLists). r.lists.groups) c.deref-2.result.now) lists in
    rw (p.1, p.2)
    (subst (λ (ps : List Particle). StopsAt (taking_fault u true ps ps) c.in_err-bodies.field-0.0) c.deref-particles.ensures.value
    (stops_later _ _ c.in_err-bodies.field-0.0 (c.in_ok-trees.ensures.few u by) (c.in_err-bodies.ensures.fault u js from)))

pub returns-clause-taken : goal.returns-clause-taken
returns-clause-taken g c u follows =
    let course = c.args.course.now in
    let js = c.deref-particles.result.now in
    let by = builds_with course u follows _ (ap (λ (k : Course). k.group) c.course.view_is) in
    let lists = subst (λ (rs : List RankLists). AreListsOf u js js (flat_map (λ (r : RankLists). r.lists.groups) rs)) (sym c.deref-2.ensures.value) (c.in_ok-trees.ensures.lists u by) in
    let from = takes_from course u follows _ (ap (λ (k : Course). k.kernel) c.course.view_is) _ (ap (λ (k : Course). k.theta.edge) c.course.view_is) js js (flat_map (λ (r : RankLists). r.lists.groups) c.deref-2.result.now) lists in
    subst (λ (ps : List Particle). Takes u true ps ps c.in_ok-bodies.bodies.items c.in_ok-counts.counts.items) c.deref-particles.ensures.value (record {
      no_fault = none_of_both _ _ (c.in_ok-trees.ensures.few u by) (c.in_ok-bodies.ensures.no_fault u js from);
      forces = c.in_ok-bodies.ensures.forces u js from;
      counts = c.in_ok-counts.ensures ∙ ap (map (λ (r : RankLists). r.line)) c.deref-3.ensures.value ∙ c.in_ok-trees.ensures.counts u by;
    })

pub returns-clause-kept : goal.returns-clause-kept
returns-clause-kept g c =
    kept_since c.args.course.now _ (ap (λ (k : Course). k.group) c.course.view_is) _ (ap (λ (k : Course). k.reuse) c.course.view_is) c.deref-particles.result.now c.args.now.items c.in_ok-trees.field-0.trees.items c.in_ok-trees.field-0.lists.items c.in_ok-kept.kept.items c.deref-particles.ensures.value c.in_ok-trees.ensures.kept c.in_ok-kept.ensures

pub returns-clause-build : goal.returns-clause-build
returns-clause-build g c u follows =
    build_of u c.args.course.now.grid c.deref-particles.result.now c.args.now.items c.in_ok-domains.domains _ follows.grid c.deref-particles.ensures.value c.in_ok-domains.ensures.value refl c.in_ok-owners.ensures c.in_ok-ranks.ensures.owners

pub returns-clause-claims : goal.returns-clause-claims
returns-clause-claims g c =
    let lists = c.in_ok-trees.field-0.lists.items in
    subst (λ (n : ℕ). HaveAllGroups c.args.workers n c.in_ok-bodies.claims.items)
    (ap (λ (rs : List RankLists). length (flat_map (λ (r : RankLists). r.lists.groups) rs)) c.deref-2.ensures.value
    ∙ sym (groups_counted (λ (r : RankLists). r.line) (λ (r : RankLists). r.lists.groups) lists (λ k d within. (get_or lists k d).told))
    ∙ sym (ap groups_told (c.in_ok-counts.ensures ∙ ap (map (λ (r : RankLists). r.line)) c.deref-3.ensures.value)))
    c.in_ok-bodies.ensures.claims
