use Rattle.std.proofs.Common.{◌∙◌, ap, map, sym, subst, List, arith}
use Rattle.pf_model.specs.Particle.{Particle}
use Rattle.run_model.specs.Setup.{Setup}
use Rattle.run_model.specs.Force.{acc_place}
use Rattle.run_model.specs.Run.{WithForces, with_forces, kicked_again}
use Rattle.run_moves.specs.Moves.{MovesBy}
use Rattle.plain_run.specs.Runs.{IsStill}
use Rattle.plain_run.proofs.StillLemmas.{still_taken, written}
use Rattle.plain_run.proofs.state.taken.Goals as goal

pub invariant_of-result : goal.invariant_of-result
invariant_of-result c =
    let u = c.args.run.now in
    let moves : MovesBy c.of-motion.result u = record {
      place = ap (λ (v : Setup). acc_place v.kernel) (sym c.run.view_is) ∙ sym c.of-motion.ensures.place;
      edge = ap (λ (v : Setup). v.theta.edge) (sym c.run.view_is) ∙ sym c.of-motion.ensures.edge;
      dt = ap (λ (v : Setup). v.dt) (sym c.run.view_is) ∙ sym c.of-motion.ensures.dt;
    } in
    let is = written _ _ _ (omega arith) ∙ c.in_ok-kick_again.ensures.kicked u moves ∙ ap (map (kicked_again u)) (c.deref_mut.ensures.value ∙ c.in_ok-bodies.ensures.forces) in
    let built = ap (λ (js : List Particle). map (kicked_again u) (with_forces u js c.args.now.now)) c.deref.ensures.value in
    subst (λ (bs : List WithForces). IsStill bs c.args.built.items) (sym (is ∙ built)) (still_taken u c.args.built.items c.args.now.now c.requires.built c.requires.same)
