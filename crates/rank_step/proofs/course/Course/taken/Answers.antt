use Rattle.std.proofs.Common.{◌≡◌, ◌+◌, ℕ, List, ◌∙◌, sym, subst, map}
use Rattle.std.proofs.lemmas.Result.{IfOk-weaker}
use Rattle.pf_model.specs.Particle.{Particle}
use Rattle.run_model.specs.Run.{WithForces}
use Rattle.rank_step.specs.declared.forces.Taken.{Taken}
use Rattle.rank_step.specs.LastBuild.{IsLastFor}
use Rattle.rank_step.specs.World.{IsSound}
use Rattle.rank_step.proofs.StepLemmas.{are_bodies, both_ok, ids_ascend, sound_after}
use Rattle.rank_step.proofs.course.Course.taken.Goals as goal

pub first-requires-clause-particles : goal.first-requires-clause-particles
first-requires-clause-particles g c κs within = are_bodies _ _ c.requires.sound.standing c.now_laws.ensures _ c.requires.sound.last_build.same

pub first-requires-clause-ascending : goal.first-requires-clause-ascending
first-requires-clause-ascending g c κs within = ids_ascend _ _ c.requires.sound.standing _ c.requires.sound.last_build.same

pub returns-then-due-eq0-clause-sound : goal.returns-then-due-eq0-clause-sound
returns-then-due-eq0-clause-sound g c =
    let course = c.args.self.now in
    let bodies = c.args.bodies.now in
    let due = c.args.due in
    let ids : Taken → Type 0 = λ taken. map (λ (b : WithForces). b.body.id) taken.bodies.items ≡ map (λ (p : Particle). p.id) c.args.last.bodies.items in
    let last : Taken → Type 0 = λ taken. IsLastFor course.grid course.theta course.group course.reuse 1 (map (λ p. p.id) c.args.last.bodies.items) taken.last in
    let same = c.requires.sound.last_build.same in
    IfOk-weaker c.first.result (λ (taken : Taken). ids taken × last taken) (λ (taken : Taken). IsSound course.grid course.theta course.group course.reuse (due + 1) taken.bodies.items taken.last)
    (λ taken h. sound_after course.grid course.theta course.group course.reuse due bodies c.args.last c.requires.sound (due + 1) taken.bodies.items taken.last (h.0 ∙ same)
    (subst (λ (n : ℕ). IsLastFor course.grid course.theta course.group course.reuse (n + 1) (map (λ b. b.body.id) bodies) taken.last) (sym c.if-due-eq0.true)
    (subst (λ (is : List ℕ). IsLastFor course.grid course.theta course.group course.reuse 1 is taken.last) same h.1)))
    (both_ok ids last c.first.result c.first.ensures.ids c.first.ensures.last)

pub returns-else-due-eq0-clause-sound : goal.returns-else-due-eq0-clause-sound
returns-else-due-eq0-clause-sound g c =
    let course = c.args.self.now in
    let bodies = c.args.bodies.now in
    let due = c.args.due in
    let ids : Taken → Type 0 = λ taken. map (λ (b : WithForces). b.body.id) taken.bodies.items ≡ map (λ (b : WithForces). b.body.id) bodies in
    let last : Taken → Type 0 = λ taken. IsLastFor course.grid course.theta course.group course.reuse (due + 1) (map (λ b. b.body.id) bodies) taken.last in
    IfOk-weaker c.next.result (λ (taken : Taken). ids taken × last taken) (λ (taken : Taken). IsSound course.grid course.theta course.group course.reuse (due + 1) taken.bodies.items taken.last)
    (λ taken h. sound_after course.grid course.theta course.group course.reuse due bodies c.args.last c.requires.sound (due + 1) taken.bodies.items taken.last h.0 h.1)
    (both_ok ids last c.next.result c.next.ensures.ids c.next.ensures.last)
