use Rattle.std.proofs.Common.{Bool, true, false, List, map, sym, ◌∙◌, ap, subst}
use Rattle.std.specs.Prelude.{IfOk, IfErr}
use Rattle.pf_model.specs.Particle.{Particle}
use Rattle.rank_step.specs.declared.forces.Taken.{Taken}
use Rattle.run_model.specs.Answers.{StopsAt}
use Rattle.rank_step.specs.LastBuild.{built_from}
use Rattle.rank_step.specs.Ranks.{held_now}
use Rattle.rank_step.specs.Taken.{Takes, taking_fault}
use Rattle.rank_step.proofs.StepLemmas.{builds_here, builds_later, built_here, built_later, ranks_now}
use Rattle.rank_step.proofs.course.Course.forced.Goals as goal

pub build_and_take-requires-clause-together : goal.build_and_take-requires-clause-together
build_and_take-requires-clause-together g c κs within =
    ranks_now c.now_laws.ensures c.args.self.now.grid c.args.last.bodies.items c.args.now.items c.args.last.ranks.items c.in_ok-ranks.ranks.items c.requires.ascending c.requires.last.same c.requires.last.together
    (c.in_ok-ranks.ensures ∙ ap (λ (js : List Particle). map (held_now js) c.args.last.ranks.items) c.deref.ensures.value)

pub returns-in_ok-ranks-clause-taken : goal.returns-in_ok-ranks-clause-taken
returns-in_ok-ranks-clause-taken g c u follows =
    let now = c.args.now.items in
    let due = c.args.due in
    let was = c.args.last.bodies.items in
    let reuse = c.args.self.now.reuse in
    subst (λ (b : Bool). IfOk c.build_and_take.result (λ (taken : Taken). Takes u b (built_from reuse due now was) now taken.bodies.items taken.counts.items)) (sym (builds_here u c.args.self.now due follows c.if-due-self-eq0.true))
    (subst (λ (js : List Particle). IfOk c.build_and_take.result (λ (taken : Taken). Takes u true js now taken.bodies.items taken.counts.items)) (sym (built_here reuse due now was c.if-due-self-eq0.true))
    (c.build_and_take.ensures.taken u follows))

pub returns-in_ok-ranks-clause-fault : goal.returns-in_ok-ranks-clause-fault
returns-in_ok-ranks-clause-fault g c u follows =
    let now = c.args.now.items in
    let due = c.args.due in
    let was = c.args.last.bodies.items in
    let reuse = c.args.self.now.reuse in
    subst (λ (b : Bool). IfErr c.build_and_take.result (StopsAt (taking_fault u b (built_from reuse due now was) now))) (sym (builds_here u c.args.self.now due follows c.if-due-self-eq0.true))
    (subst (λ (js : List Particle). IfErr c.build_and_take.result (StopsAt (taking_fault u true js now))) (sym (built_here reuse due now was c.if-due-self-eq0.true))
    (c.build_and_take.ensures.fault u follows))

pub returns-else-due-self-eq0-clause-fault : goal.returns-else-due-self-eq0-clause-fault
returns-else-due-self-eq0-clause-fault g c u follows =
    let now = c.args.now.items in
    let due = c.args.due in
    let was = c.args.last.bodies.items in
    let reuse = c.args.self.now.reuse in
    subst (λ (b : Bool). IfErr c.take_again.result (StopsAt (taking_fault u b (built_from reuse due now was) now))) (sym (builds_later u c.args.self.now due follows c.if-due-self-eq0.false))
    (subst (λ (js : List Particle). IfErr c.take_again.result (StopsAt (taking_fault u false js now))) (sym (built_later reuse due now was c.if-due-self-eq0.false))
    (subst (λ (ps : List Particle). IfErr c.take_again.result (StopsAt (taking_fault u false was ps))) c.deref-else-due-self-eq0.ensures.value (c.take_again.ensures.fault u follows)))
