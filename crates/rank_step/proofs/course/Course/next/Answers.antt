use Rattle.std.proofs.Common.{List, ℕ, ◌+◌, ◌∙◌, ap, sym, subst, map, arith}
use Rattle.std.proofs.lemmas.Result.{err_from_is_err_and}
use Rattle.run_model.specs.Force.{first_given}
use Rattle.run_model.specs.Run.{kicked_again, kick_fault}
use Rattle.run_model.specs.Answers.{of_phase}
use Rattle.run_model.specs.declared.fault.StepFault.TheVariants.{Numeric}
use Rattle.rank_step.specs.LastBuild.{IsLastFor}
use Rattle.rank_step.proofs.StepLemmas as steps
use Rattle.rank_step.proofs.course.Course.next.Goals as goal

pub forced-requires-clause-particles : goal.forced-requires-clause-particles
forced-requires-clause-particles g c κs within =
    let course = c.args.self.now in
    let u = steps.run_of course in
    let moves = steps.moves_by c.of-motion.result course c.of-motion.ensures.place c.of-motion.ensures.edge c.of-motion.ensures.dt u (steps.run_follows course) in
    steps.are_bodies _ _ c.requires.sound.standing c.now_laws.ensures _ (steps.map_moved_ids u _ _ (c.in_ok-now.ensures.moved u moves))

pub forced-requires-clause-ascending : goal.forced-requires-clause-ascending
forced-requires-clause-ascending g c κs within =
    let course = c.args.self.now in
    let u = steps.run_of course in
    let moves = steps.moves_by c.of-motion.result course c.of-motion.ensures.place c.of-motion.ensures.edge c.of-motion.ensures.dt u (steps.run_follows course) in
    steps.ids_ascend _ _ c.requires.sound.standing _ (steps.map_moved_ids u _ _ (c.in_ok-now.ensures.moved u moves))

pub forced-requires-clause-last : goal.forced-requires-clause-last
forced-requires-clause-last g c κs within =
    let course = c.args.self.now in
    let u = steps.run_of course in
    let moves = steps.moves_by c.of-motion.result course c.of-motion.ensures.place c.of-motion.ensures.edge c.of-motion.ensures.dt u (steps.run_follows course) in
    subst (λ (ids : List ℕ). IsLastFor course.grid course.theta course.group course.reuse c.args.due ids c.args.last)
    (sym (steps.map_moved_ids u _ _ (c.in_ok-now.ensures.moved u moves))) c.requires.sound.last_build

pub returns-in_err-now-clause-fault : goal.returns-in_err-now-clause-fault
returns-in_err-now-clause-fault g c u follows before =
    let p = err_from_is_err_and c.from_residual.result c.from_residual.ensures.1 in
    let moves = steps.moves_by c.of-motion.result c.args.self.now c.of-motion.ensures.place c.of-motion.ensures.edge c.of-motion.ensures.dt u follows in
    rw (p.1, p.2)
    (steps.move_stops u c.args.due c.args.bodies.now c.args.last.bodies.items c.requires.due before (of_phase c.in_err-now.field-0.0) (c.in_err-now.ensures.fault u moves))

pub returns-in_err-taken-clause-fault : goal.returns-in_err-taken-clause-fault
returns-in_err-taken-clause-fault g c u follows before =
    let p = err_from_is_err_and c.from_residual-in_err-taken.result c.from_residual-in_err-taken.ensures.1 in
    let moves = steps.moves_by c.of-motion.result c.args.self.now c.of-motion.ensures.place c.of-motion.ensures.edge c.of-motion.ensures.dt u follows in
    rw (p.1, p.2)
    (steps.taking_stops u c.args.due c.args.bodies.now c.args.last.bodies.items c.requires.due before _ (c.in_ok-now.ensures.moved u moves) (c.in_ok-now.ensures.no_fault u moves) c.args.self.now.reuse follows.reuse c.in_err-taken.field-0.0
    (c.in_err-taken.ensures.fault u follows))

pub returns-in_err-kick_again-clause-fault : goal.returns-in_err-kick_again-clause-fault
returns-in_err-kick_again-clause-fault g c u follows before =
    let p = err_from_is_err_and c.from_residual-in_err-kick_again.result c.from_residual-in_err-kick_again.ensures.1 in
    let moves = steps.moves_by c.of-motion.result c.args.self.now c.of-motion.ensures.place c.of-motion.ensures.edge c.of-motion.ensures.dt u follows in
    let takes = c.in_ok-taken.ensures.taken u follows in
    rw (p.1, p.2)
    (steps.kick_stops u c.args.due c.args.bodies.now c.args.last.bodies.items c.requires.due before _ (c.in_ok-now.ensures.moved u moves) (c.in_ok-now.ensures.no_fault u moves) c.args.self.now.reuse follows.reuse takes.no_fault (Numeric c.in_err-kick_again.field-0.0)
    (ap (first_given (kick_fault u)) (sym (c.deref_mut.ensures.value ∙ takes.forces)) ∙ c.in_err-kick_again.ensures.fault u moves))

pub returns-clause-ids : goal.returns-clause-ids
returns-clause-ids g c =
    let course = c.args.self.now in
    let u = steps.run_of course in
    let moves = steps.moves_by c.of-motion.result course c.of-motion.ensures.place c.of-motion.ensures.edge c.of-motion.ensures.dt u (steps.run_follows course) in
    let takes = c.in_ok-taken.ensures.taken u (steps.run_follows course) in
    let is = steps.written _ _ _ (omega arith) ∙ c.in_ok-kick_again.ensures.kicked u moves ∙ ap (map (kicked_again u)) (c.deref_mut.ensures.value ∙ takes.forces) in
    steps.map_kicked_ids u _ _ _ is ∙ steps.map_moved_ids u _ _ (c.in_ok-now.ensures.moved u moves)

pub returns-clause-last : goal.returns-clause-last
returns-clause-last g c =
    let course = c.args.self.now in
    let u = steps.run_of course in
    let moves = steps.moves_by c.of-motion.result course c.of-motion.ensures.place c.of-motion.ensures.edge c.of-motion.ensures.dt u (steps.run_follows course) in
    subst (λ (ids : List ℕ). IsLastFor course.grid course.theta course.group course.reuse (c.args.due + 1) ids c.in_ok-taken.taken.last)
    (steps.map_moved_ids u _ _ (c.in_ok-now.ensures.moved u moves)) c.in_ok-taken.ensures.last

pub returns-clause-ok : goal.returns-clause-ok
returns-clause-ok g c u follows before build =
    let moves = steps.moves_by c.of-motion.result c.args.self.now c.of-motion.ensures.place c.of-motion.ensures.edge c.of-motion.ensures.dt u follows in
    let takes = c.in_ok-taken.ensures.taken u follows in
    let forces = c.deref_mut.ensures.value ∙ takes.forces in
    steps.next_reaches u c.args.due c.args.bodies.now c.args.last.bodies.items c.requires.due before _ (c.in_ok-now.ensures.moved u moves) (c.in_ok-now.ensures.no_fault u moves) c.args.self.now.reuse follows.reuse takes.no_fault _ _ _
    (ap (first_given (kick_fault u)) (sym forces) ∙ c.in_ok-kick_again.ensures.no_fault u moves)
    (steps.written _ _ _ (omega arith) ∙ c.in_ok-kick_again.ensures.kicked u moves ∙ ap (map (kicked_again u)) forces) takes.counts c.in_ok-taken.ensures.built (c.in_ok-taken.ensures.build u follows build)
