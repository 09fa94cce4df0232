use Rattle.std.proofs.Common.{List, ◌∙◌, ap, sym, subst, refl}
use Rattle.std.proofs.lemmas.Result.{err_from_is_err_and}
use Rattle.pf_model.specs.Particles.{AreBodies, by_id}
use Rattle.run_model.specs.Setup.{Setup}
use Rattle.run_model.specs.Force.{first_given}
use Rattle.run_model.specs.Run.{WithForces, with_forces, lists_fault, forces_fault}
use Rattle.plain_run.specs.Runs.{IsStill}
use Rattle.plain_run.proofs.StillLemmas.{sorted_are_bodies, still_forced}
use Rattle.plain_run.proofs.StopLemmas.{same_stop, stops_first, stops_then}
use Rattle.plain_run.proofs.state.start.Goals as goal

pub few_lists-requires : goal.few_lists-requires
few_lists-requires c =
    subst AreBodies (sym (c.deref-2.ensures.value ∙ c.in_ok-built.ensures ∙ ap by_id c.deref.ensures.value)) (sorted_are_bodies c.orders_by_id_have_distinct_ids.ensures c.orders_by_id_have_all.ensures c.run.inside.bodies.items c.run.invariant.bodies)

pub returns-in_err-few_lists-clause-fault : goal.returns-in_err-few_lists-clause-fault
returns-in_err-few_lists-clause-fault c =
    let p = err_from_is_err_and c.from_residual-in_err-few_lists.result c.from_residual-in_err-few_lists.ensures.1 in
    let read = c.deref-2.ensures.value ∙ c.in_ok-built.ensures ∙ ap by_id (c.deref.ensures.value ∙ ap (λ (u : Setup). u.particles) c.run.view_is) in
    rw (p.1, p.2) (stops_first _ _ c.in_err-few_lists.field-0.0 (same_stop _ _ c.in_err-few_lists.field-0.0 (ap (lists_fault c.args.run.now) read) c.in_err-few_lists.ensures.fault))

pub with_forces-requires-clause-built : goal.with_forces-requires-clause-built
with_forces-requires-clause-built c =
    subst AreBodies (sym (c.deref-3.ensures.value ∙ c.in_ok-built.ensures ∙ ap by_id c.deref.ensures.value)) (sorted_are_bodies c.orders_by_id_have_distinct_ids.ensures c.orders_by_id_have_all.ensures c.run.inside.bodies.items c.run.invariant.bodies)

pub returns-in_err-bodies-clause-fault : goal.returns-in_err-bodies-clause-fault
returns-in_err-bodies-clause-fault c =
    let p = err_from_is_err_and c.from_residual-in_err-bodies.result c.from_residual-in_err-bodies.ensures.1 in
    let is = c.in_ok-built.ensures ∙ ap by_id (c.deref.ensures.value ∙ ap (λ (u : Setup). u.particles) c.run.view_is) in
    let listed = c.deref-2.ensures.value ∙ is in
    let built = c.deref-3.ensures.value ∙ is in
    let read = c.deref-4.ensures.value ∙ is in
    rw (p.1, p.2)
    (stops_then _ _ c.in_err-bodies.field-0.0 (ap (lists_fault c.args.run.now) (sym listed) ∙ c.in_ok-few_lists.ensures.no_fault)
    (same_stop _ _ c.in_err-bodies.field-0.0 (λ i. first_given (forces_fault c.args.run.now (built i) (read i)) (read i)) c.in_err-bodies.ensures.fault))

pub invariant_of-result : goal.invariant_of-result
invariant_of-result c =
    let built = c.in_ok-built.built.items in
    let few = subst AreBodies (sym (c.in_ok-built.ensures ∙ ap by_id c.deref.ensures.value)) (sorted_are_bodies c.orders_by_id_have_distinct_ids.ensures c.orders_by_id_have_all.ensures c.run.inside.bodies.items c.run.invariant.bodies) in
    subst (λ (bs : List WithForces). IsStill bs built) (sym (c.in_ok-bodies.ensures.forces ∙ (λ i. with_forces c.args.run.now (c.deref-3.ensures.value i) (c.deref-4.ensures.value i)))) (still_forced c.args.run.now built built few refl)
