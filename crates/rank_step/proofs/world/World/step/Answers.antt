use Rattle.std.proofs.Common.{List, sym, subst}
use Rattle.std.proofs.lemmas.Result.{IfOk-weaker}
use Rattle.run_model.specs.Run.{WithForces}
use Rattle.rank_step.specs.World.{IsBefore, Standing, Steps}
use Rattle.rank_step.proofs.StepLemmas.{follows, stands_within}
use Rattle.rank_step.proofs.world.World.step.Goals as goal

pub returns-clause-ok : goal.returns-clause-ok
returns-clause-ok g c =
    IfOk-weaker c.after.result _ _
    (λ r tells u stands.
    (let here = stands_within _ c.args.self u c.self.view_is stands in
    let runs = follows c.self.inside.course c.self.inside.due c.self.inside.bodies.items c.self.inside.last u here in
    subst (λ (w : Standing). Steps u w.due r.0 r.1.text) c.self.view_is (tells u runs here.particles (c.in_ok-taken.ensures.ok u runs (subst (λ (bs : List WithForces). IsBefore u c.self.inside.due bs c.self.inside.last.bodies.items) (sym c.deref.ensures.value) here.before) here.last)))) c.after.ensures.ok
