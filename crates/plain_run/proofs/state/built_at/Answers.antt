use Rattle.std.proofs.Common.{ℕ, ◌%◌, ◌∙◌, List, map, ap, sym, subst}
use Rattle.std.proofs.lemmas.Result.{err_from_is_err_and}
use Rattle.pf_model.specs.Particle.{Particle}
use Rattle.pf_model.specs.Particles.{AreBodies}
use Rattle.run_model.specs.Setup.{Setup}
use Rattle.run_model.specs.Run.{State, lists_fault}
use Rattle.plain_run.specs.Runs.{IsStill}
use Rattle.plain_run.proofs.StillLemmas.{still_moved, moved_are_bodies, build_is_due}
use Rattle.plain_run.proofs.StopLemmas.{same_stop}
use Rattle.plain_run.proofs.state.built_at.Goals as goal

pub few_lists-requires : goal.few_lists-requires
few_lists-requires c =
    let still = subst (λ (s : State). IsStill s.bodies s.built) c.before-2.view_is c.before-2.invariant in
    subst AreBodies (sym c.requires) (moved_are_bodies c.args.run.now c.args.before.now still)

pub returns-in_err-few_lists-clause-fault : goal.returns-in_err-few_lists-clause-fault
returns-in_err-few_lists-clause-fault c =
    let p = err_from_is_err_and c.from_residual-in_err-few_lists.result c.from_residual-in_err-few_lists.ensures.1 in
    let u = c.args.run.now in
    let due = ap (λ (v : Setup). c.args.step % v.reuse) (sym c.run.view_is) ∙ c.if-step-run-ne0.false in
    rw (p.1, p.2) (same_stop _ _ c.in_err-few_lists.field-0.0 (ap (lists_fault u) c.requires ∙ build_is_due u c.args.step c.args.before.now due) c.in_err-few_lists.ensures.fault)

pub returns-then-step-run-ne0-clause-same : goal.returns-then-step-run-ne0-clause-same
returns-then-step-run-ne0-clause-same c =
    let still = subst (λ (s : State). IsStill s.bodies s.built) c.before-2.view_is c.before-2.invariant in
    let ids : List Particle → List ℕ = map (λ p. p.id) in
    ap ids (c.in_ok-copied.ensures ∙ c.deref.ensures.value ∙ ap (λ (s : State). s.built) c.before-2.view_is) ∙ still_moved c.args.run.now c.args.before.now still ∙ ap ids (sym c.requires)

pub returns-clause-bodies : goal.returns-clause-bodies
returns-clause-bodies c =
    let still = subst (λ (s : State). IsStill s.bodies s.built) c.before-2.view_is c.before-2.invariant in
    subst AreBodies (sym (c.in_ok-copied-2.ensures ∙ c.requires)) (moved_are_bodies c.args.run.now c.args.before.now still)
