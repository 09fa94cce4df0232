use Rattle.std.proofs.Common.{◌≡◌, ◌+◌, ◌<◌, ◌≤◌, inl, inr, rules, suc, ap, ◌∙◌, arith}
use Rattle.run_model.specs.Setup.{Setup}
use Rattle.bench_input.specs.declared.deck.TheConstants.{STEPS}
use Rattle.top_call.specs.Run.{step_count}
use Rattle.top_call.specs.Steps.{tally_before}
use Rattle.top_call.proofs.BenchLemmas.{ended_by, ends_by, goes_through}
use Rattle.top_call.proofs.DumpLemmas.{before_the_end}
use Rattle.top_call.proofs.bench.tallied.Goals as goal

pub tally_step-requires : goal.tally_step-requires
tally_step-requires g c κs within =
    let before = c.loop-step.invariant in
    let few : c.loop-step.step ≤ STEPS = omega arith in
    (within.0, (within.1, (search rules, (search rules, (before.due, (before.stands, (few, (c.requires.1.1.1.1.0, (before.room, before.tallied)))))))))

pub loop-step-preserved : goal.loop-step-preserved
loop-step-preserved g c =
    let step = c.loop-step.step in
    let taken = c.in_ok-world.ensures.takes in
    let inside : step ≤ g.run.steps = (let last = ap (λ (run : Setup). run.steps) c.requires.1.1.1.1.1.1 in omega arith) in
    let below : step < step_count g.run = before_the_end g.run step (c.states_stand_before_the_end.ensures g.run) c.loop-step.invariant.within inside taken.0 in
    let next : suc step ≡ step + 1 = omega arith in
    record {
      due = taken.2 ∙ next;
      stands = taken.1;
      within = omega arith;
      tallied = taken.3 ∙ ap (tally_before g.run) next;
      room = c.in_ok-world.ensures.room;
    }

pub returns : goal.returns
returns g c =
    let step = c.loop-step.step in
    let at : step ≡ suc g.run.steps = (let last = ap (λ (run : Setup). run.steps) c.requires.1.1.1.1.1.1 in omega arith) in
    let past : suc g.run.steps ≤ step_count g.run = (let within = c.loop-step.invariant.within in omega arith) in
    (goes_through g.run (c.states_stand_before_the_end.ensures g.run) past, c.loop-step.invariant.tallied ∙ ap (tally_before g.run) at)

pub returns-in_err-world : goal.returns-in_err-world
returns-in_err-world g c =
    let step = c.loop-step.step in
    let inside : step ≤ g.run.steps = (let last = ap (λ (run : Setup). run.steps) c.requires.1.1.1.1.1.1 in omega arith) in
    let law = c.states_stand_before_the_end.ensures g.run in
    ended_by g.run c.from_residual.result c.in_err-world.field-0.0 c.from_residual.ensures (elim c.in_err-world.ensures.takes [
      | inl none ↦ inl none
      | inr stops ↦ inr (ends_by g.run step c.in_err-world.field-0.0 law c.loop-step.invariant.within inside stops)
    ])
