use Rattle.std.proofs.Common.{◌≡◌, ◌⊎◌, true, ◌∙◌, ap, map}
use Rattle.std.proofs.lemmas.Result.{IfOk-weaker, IfErr-weaker}
use Rattle.run_model.specs.Run.{WithForces}
use Rattle.rank_step.specs.declared.forces.Taken.{Taken}
use Rattle.rank_step.specs.Answers.{StopsBy}
use Rattle.run_model.specs.Answers.{StopsAt}
use Rattle.rank_step.specs.LastBuild.{AreKeptSince, IsBuildOf, IsLastFor}
use Rattle.rank_step.specs.Ranks.{HaveTogether}
use Rattle.rank_step.specs.Taken.{Takes, taking_fault}
use Rattle.rank_step.specs.Told.{Reaches}
use Rattle.pf_model.specs.Particle.{Particle}
use Rattle.rank_step.proofs.StepLemmas.{run_of, run_follows, with_forces_ids, last_of_build, both_ok, start_reaches, start_stops}
use Rattle.rank_step.proofs.course.Course.first.Goals as goal

pub returns-clause-ids : goal.returns-clause-ids
returns-clause-ids g c =
    let read = c.args.read.bodies.items in
    let u = run_of c.args.self.now in
    IfOk-weaker c.build_and_take.result (λ (taken : Taken). Takes u true read read taken.bodies.items taken.counts.items) (λ (taken : Taken). map (λ (b : WithForces). b.body.id) taken.bodies.items ≡ map (λ (p : Particle). p.id) read)
    (λ taken takes. ap (map (λ (b : WithForces). b.body.id)) takes.forces ∙ with_forces_ids u read read) (c.build_and_take.ensures.taken u (run_follows c.args.self.now))

pub returns-clause-last : goal.returns-clause-last
returns-clause-last g c =
    let course = c.args.self.now in
    let read = c.args.read.bodies.items in
    let is : Taken → Type 0 = λ taken. taken.last.bodies.items ≡ read in
    let together : Taken → Type 0 = λ taken. HaveTogether course.grid read taken.last.ranks.items in
    let kept : Taken → Type 0 = λ taken. (course.reuse ≡ 1) ⊎ AreKeptSince course.group course.theta course.grid read taken.last.kept.items in
    IfOk-weaker c.build_and_take.result (λ (taken : Taken). (is taken × together taken) × kept taken) (λ (taken : Taken). IsLastFor course.grid course.theta course.group course.reuse 1 (map (λ p. p.id) read) taken.last)
    (λ taken h. last_of_build course 1 read taken.last h.0.0 h.0.1 h.1)
    (both_ok (λ (taken : Taken). is taken × together taken) kept c.build_and_take.result (both_ok is together c.build_and_take.result c.build_and_take.ensures.built c.build_and_take.ensures.together) c.build_and_take.ensures.kept)

pub returns-clause-ok : goal.returns-clause-ok
returns-clause-ok g c u follows is_read =
    let read = c.args.read.bodies.items in
    let takes : Taken → Type 0 = λ taken. Takes u true read read taken.bodies.items taken.counts.items in
    let is : Taken → Type 0 = λ taken. taken.last.bodies.items ≡ read in
    let build : Taken → Type 0 = λ taken. IsBuildOf u taken.last in
    IfOk-weaker c.build_and_take.result (λ (taken : Taken). (takes taken × is taken) × build taken) (λ (taken : Taken). Reaches u 0 taken.bodies.items taken.counts.items taken.last)
    (λ taken h. start_reaches u read _ _ taken.last is_read h.0.0 h.0.1 h.1)
    (both_ok (λ (taken : Taken). takes taken × is taken) build c.build_and_take.result (both_ok takes is c.build_and_take.result (c.build_and_take.ensures.taken u follows) c.build_and_take.ensures.built) (c.build_and_take.ensures.build u follows))

pub returns-clause-fault : goal.returns-clause-fault
returns-clause-fault g c u follows is_read =
    let read = c.args.read.bodies.items in
    IfErr-weaker c.build_and_take.result (StopsAt (taking_fault u true read read)) (StopsBy u 0) (λ fault h. start_stops u read fault is_read h) (c.build_and_take.ensures.fault u follows)
