use Rattle.std.proofs.Common.{inr, refl, ap, ◌∙◌, length-append, arith}
use Rattle.run_model.specs.Run as stop
use Rattle.run_model.specs.Text.{texts}
use Rattle.bench_summary.specs.declared.tally.Tally.{Tally}
use Rattle.top_call.specs.Steps.{lines_before}
use Rattle.top_call.proofs.BenchLemmas.{tallied_next}
use Rattle.top_call.proofs.bench.tally_step.Goals as goal

pub returns-in-Ok-clause-room : goal.returns-in-Ok-clause-room
returns-in-Ok-clause-room g c =
    let before = texts g.run c.args.step in
    let tallied = c.requires.1.1.1.1.1.1.1.1.1 in
    let old = ap (λ (t : Tally). t.bytes) tallied in
    let new = ap (λ (t : Tally). t.bytes) (c.take.ensures.so_far before (lines_before g.run c.args.step) tallied) in
    let long = length-append before c.deref.result.now in
    let room = c.requires.1.1.1.1.1.1.1.1.0 in
    omega arith

pub returns-in-Ok-clause-takes : goal.returns-in-Ok-clause-takes
returns-in-Ok-clause-takes g c =
    let taken = rw c.requires.1.1.1.1.0 at (c.in-Ok.ensures g.run c.requires.1.1.1.1.1.0) in
    let tally = c.take.ensures.so_far (texts g.run c.args.step) (lines_before g.run c.args.step) c.requires.1.1.1.1.1.1.1.1.1 in
    (taken.0, taken.2, taken.3, tallied_next g.run c.args.step _ _ _ tally (c.deref.ensures.value ∙ taken.1) (c.as_slice.ensures ∙ taken.4))

pub returns-in-Err-Numeric-clause-takes : goal.returns-in-Err-Numeric-clause-takes
returns-in-Err-Numeric-clause-takes g c =
    let fault = rw (c.in-Err-Numeric.field-0-is, c.requires.1.1.1.1.0) at (c.in-Err-Numeric.ensures g.run c.requires.1.1.1.1.1.0) in
    inr (record { stop = stop.Numeric c.in-Err-Numeric.fault; fault = fault; status_is = refl })

pub returns-in-Err-Lists-clause-takes : goal.returns-in-Err-Lists-clause-takes
returns-in-Err-Lists-clause-takes g c =
    let fault = rw (c.in-Err-Lists.field-0-is, c.requires.1.1.1.1.0) at (c.in-Err-Lists.ensures g.run c.requires.1.1.1.1.1.0) in
    inr (record { stop = stop.Lists c.in-Err-Lists.count; fault = fault; status_is = refl })
