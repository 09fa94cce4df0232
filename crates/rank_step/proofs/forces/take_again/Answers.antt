use Rattle.std.proofs.Common.{ℕ, List, false, length, map, sym, ◌∙◌, ap, subst}
use Rattle.std.specs.List.{flat_map}
use Rattle.std.proofs.lemmas.Result.{err_from_is_err_and}
use Rattle.pf_model.specs.Particle.{Particle}
use Rattle.pf_model.specs.Particles.{AreBodies}
use Rattle.force_phase.specs.Claims.{HaveAllGroups}
use Rattle.force_phase.specs.Phase.{bodies_in}
use Rattle.refresh_phase.specs.Kept.{AreKept, RankKept}
use Rattle.run_model.specs.Force.{first_given}
use Rattle.run_model.specs.Run.{forces_fault}
use Rattle.rank_step.specs.declared.course.Course.{Course}
use Rattle.run_model.specs.Answers.{StopsAt}
use Rattle.rank_step.specs.Build.{AreListsOf}
use Rattle.rank_step.specs.Taken.{Takes}
use Rattle.rank_step.specs.Told.{groups_told}
use Rattle.rank_step.proofs.StepLemmas.{lists_have_bodies, run_follows, run_of, takes_from}
use Rattle.rank_step.proofs.forces.take_again.Goals as goal

pub with_forces-requires-clause-particles : goal.with_forces-requires-clause-particles
with_forces-requires-clause-particles g c κs within =
    let u = run_of c.args.course.now in
    subst (λ (ks : List RankKept). AreBodies (bodies_in (flat_map (λ (k : RankKept). k.lists.groups) ks))) (sym c.deref-2.ensures.value)
    (lists_have_bodies c.distinct_ids_ignore_order.ensures u c.deref.result.now c.args.now.now _ (c.in_ok-kept.ensures.lists u (run_follows c.args.course.now)) c.requires.particles)

pub returns-in_err-bodies-clause-fault : goal.returns-in_err-bodies-clause-fault
returns-in_err-bodies-clause-fault g c u follows =
    let p = err_from_is_err_and c.from_residual-in_err-bodies.result c.from_residual-in_err-bodies.ensures.1 in
    let now = c.args.now.now in
    let lists = subst (λ (ks : List RankKept). AreListsOf u c.deref.result.now now (flat_map (λ (k : RankKept). k.lists.groups) ks)) (sym c.deref-2.ensures.value) (c.in_ok-kept.ensures.lists u follows) in
    let from = takes_from c.args.course.now u follows _ (ap (λ (k : Course). k.kernel) c.course.view_is) _ (ap (λ (k : Course). k.theta.edge) c.course.view_is) c.deref.result.now now (flat_map (λ (k : RankKept). k.lists.groups) c.deref-2.result.now) lists in
    rw (p.1, p.2)
    (subst (λ (js : List Particle). StopsAt (first_given (forces_fault u js now) now) c.in_err-bodies.field-0.0) c.deref.ensures.value (c.in_err-bodies.ensures.fault u c.deref.result.now from))

pub returns-clause-taken : goal.returns-clause-taken
returns-clause-taken g c u follows =
    let now = c.args.now.now in
    let lists = subst (λ (ks : List RankKept). AreListsOf u c.deref.result.now now (flat_map (λ (k : RankKept). k.lists.groups) ks)) (sym c.deref-2.ensures.value) (c.in_ok-kept.ensures.lists u follows) in
    let from = takes_from c.args.course.now u follows _ (ap (λ (k : Course). k.kernel) c.course.view_is) _ (ap (λ (k : Course). k.theta.edge) c.course.view_is) c.deref.result.now now (flat_map (λ (k : RankKept). k.lists.groups) c.deref-2.result.now) lists in
    subst (λ (js : List Particle). Takes u false js now c.in_ok-bodies.bodies.items c.in_ok-counts.counts.items) c.deref.ensures.value (record {
      no_fault = c.in_ok-bodies.ensures.no_fault u c.deref.result.now from;
      forces = c.in_ok-bodies.ensures.forces u c.deref.result.now from;
      counts = c.in_ok-counts.ensures ∙ ap (map (λ (k : RankKept). k.line)) c.deref-3.ensures.value ∙ c.in_ok-kept.ensures.counts u follows;
    })

pub returns-clause-kept : goal.returns-clause-kept
returns-clause-kept g c =
    let course = c.args.course.now in (
      c.args.now.now,
      subst (λ (js : List Particle). AreKept course.group course.theta course.grid js c.args.now.now c.in_ok-kept.field-0.ranks.items) c.deref.ensures.value c.in_ok-kept.ensures.kept,
    )

pub returns-clause-claims : goal.returns-clause-claims
returns-clause-claims g c =
    subst (λ (n : ℕ). HaveAllGroups c.args.workers n c.in_ok-bodies.claims.items)
    (ap (λ (ks : List RankKept). length (flat_map (λ (k : RankKept). k.lists.groups) ks)) c.deref-2.ensures.value ∙ sym c.in_ok-kept.ensures.groups
    ∙ sym (ap groups_told (c.in_ok-counts.ensures ∙ ap (map (λ (k : RankKept). k.line)) c.deref-3.ensures.value)))
    c.in_ok-bodies.ensures.claims
