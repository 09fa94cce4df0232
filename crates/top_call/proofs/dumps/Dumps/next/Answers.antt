use Rattle.std.proofs.Common.{◌≡◌, ◌<◌, ◌≤◌, Some, sym, ◌∙◌, arith}
use Rattle.rank_step.specs.World.{StandsFor}
use Rattle.run_model.specs.Run as stop
use Rattle.top_call.specs.Steps.{IsDue}
use Rattle.top_call.proofs.DumpLemmas.{due_of, coming_of, past_the_end, more_comes, next_text, fault_comes}
use Rattle.top_call.proofs.dumps.Dumps.next.Goals as goal

pub invariant_of-self-in-Ok : goal.invariant_of-self-in-Ok
invariant_of-self-in-Ok g c =
    let run = g.U.Run.setup in
    let there : c.self.inside.world ≡ Some c.in-Some.world = sym c.take.ensures.value ∙ c.in-Some.is in
    let due = due_of (λ w. IsDue w.due (StandsFor w run) run c.self.inside.next c.self.inside.steps) c.self.inside.world c.in-Some.world there c.self.invariant in
    let inside : c.self.inside.next ≤ c.self.inside.steps = omega arith in
    let taken = c.in-Ok.ensures run due.stands in
    record {
      number = (let number = due.number in let next = taken.3 in omega arith);
      stands = taken.2;
      within = more_comes run _ c.self.inside.next c.self.inside.steps (c.states_stand_before_the_end.ensures run) due inside taken.0;
      steps_are = due.steps_are;
      few = due.few;
    }

pub returns-then-self : goal.returns-then-self
returns-then-self g c =
    let run = g.U.Run.setup in
    let there : c.self.inside.world ≡ Some c.in-Some.world = sym c.take.ensures.value ∙ c.in-Some.is in
    let due = due_of (λ w. IsDue w.due (StandsFor w run) run c.self.inside.next c.self.inside.steps) c.self.inside.world c.in-Some.world there c.self.invariant in
    let now = coming_of run c.self.inside.world c.in-Some.world c.self.inside.next c.args.self.now there c.self.view_is in
    let beyond : run.steps < c.self.inside.next = (let same = due.steps_are in omega arith) in
    let ends = past_the_end run c.self.inside.next (c.states_stand_before_the_end.ensures run) due.within beyond in
    (now.0 ∙ ends.0, ends.1 ∙ now.1, tt)

pub returns-in-Ok : goal.returns-in-Ok
returns-in-Ok g c =
    let run = g.U.Run.setup in
    let there : c.self.inside.world ≡ Some c.in-Some.world = sym c.take.ensures.value ∙ c.in-Some.is in
    let due = due_of (λ w. IsDue w.due (StandsFor w run) run c.self.inside.next c.self.inside.steps) c.self.inside.world c.in-Some.world there c.self.invariant in
    let inside : c.self.inside.next ≤ c.self.inside.steps = omega arith in
    let now = coming_of run c.self.inside.world c.in-Some.world c.self.inside.next c.args.self.now there c.self.view_is in
    let taken = c.in-Ok.ensures run due.stands in
    (now.0 ∙ next_text run _ c.self.inside.next c.self.inside.steps (c.states_stand_before_the_end.ensures run) due inside c.in-Ok.dump.text.items taken.0 taken.1, now.1)

pub returns-in-Err-Numeric : goal.returns-in-Err-Numeric
returns-in-Err-Numeric g c =
    let run = g.U.Run.setup in
    let there : c.self.inside.world ≡ Some c.in-Some.world = sym c.take.ensures.value ∙ c.in-Some.is in
    let due = due_of (λ w. IsDue w.due (StandsFor w run) run c.self.inside.next c.self.inside.steps) c.self.inside.world c.in-Some.world there c.self.invariant in
    let inside : c.self.inside.next ≤ c.self.inside.steps = omega arith in
    let now = coming_of run c.self.inside.world c.in-Some.world c.self.inside.next c.args.self.now there c.self.view_is in
    let fault = rw c.in-Err-Numeric.field-0-is at c.in-Err-Numeric.ensures run due.stands in
    let ends = fault_comes run _ c.self.inside.next c.self.inside.steps (c.states_stand_before_the_end.ensures run) due inside (stop.Numeric c.in-Err-Numeric.fault) fault in
    (now.0 ∙ ends.0, ends.1 ∙ now.1, tt)

pub returns-in-Err-Lists : goal.returns-in-Err-Lists
returns-in-Err-Lists g c =
    let run = g.U.Run.setup in
    let there : c.self.inside.world ≡ Some c.in-Some.world = sym c.take.ensures.value ∙ c.in-Some.is in
    let due = due_of (λ w. IsDue w.due (StandsFor w run) run c.self.inside.next c.self.inside.steps) c.self.inside.world c.in-Some.world there c.self.invariant in
    let inside : c.self.inside.next ≤ c.self.inside.steps = omega arith in
    let now = coming_of run c.self.inside.world c.in-Some.world c.self.inside.next c.args.self.now there c.self.view_is in
    let fault = rw c.in-Err-Lists.field-0-is at c.in-Err-Lists.ensures run due.stands in
    let ends = fault_comes run _ c.self.inside.next c.self.inside.steps (c.states_stand_before_the_end.ensures run) due inside (stop.Lists c.in-Err-Lists.count) fault in
    (now.0 ∙ ends.0, ends.1 ∙ now.1, tt)
