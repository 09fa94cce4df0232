use Rattle.std.proofs.Common.{◌+◌, ◌*◌, ◌^◌, ◌≤◌, length, refl, ◌∙◌, arith}
use Rattle.lane_machine.proofs.TotalLemmas.{all_at_least}
use Rattle.lane_machine.proofs.Underway.{begins, goes_on_at, added_at_end}
use Rattle.lane_machine.proofs.block.run_block.Goals as goal

pub loop-instr-init : goal.loop-instr-init
loop-instr-init c = record {
  under_way = begins c.args.i.now c.args.items.now c.args.slots.now c.args.steps.now c.args.registers.now c.args.totals.now;
  numbers = refl;
  masks = refl;
}

pub advance-requires-clause-room : goal.advance-requires-clause-room
advance-requires-clause-room c =
    let k = c.loop-instr.instr-index in
    let small : 2 ^ 56 + k * 64 ≤ 2 ^ 57 = omega (arith, c.loop-instr-test.true, c.requires.steps) in
    all_at_least (2 ^ 56 + k * 64) (2 ^ 57) c.loop-instr.totals small (c.loop-instr.invariant.under_way.few (2 ^ 56) c.requires.room)

pub loop-instr-preserved : goal.loop-instr-preserved
loop-instr-preserved c = record {
  under_way = goes_on_at c.args.i.now c.args.items.now c.args.slots.now c.args.steps.now c.loop-instr.instr-index _ c.loop-instr-test.true
      c.args.registers.now c.loop-instr.registers c.args.totals.now c.loop-instr.totals c.loop-instr.invariant.under_way
      c.advance.new.registers c.advance.new.totals c.in_ok-advance.ensures.lanes c.in_ok-advance.ensures.added;
  numbers = c.in_ok-advance.ensures.numbers ∙ c.loop-instr.invariant.numbers;
  masks = c.in_ok-advance.ensures.masks ∙ c.loop-instr.invariant.masks;
}

pub returns-clause-added : goal.returns-clause-added
returns-clause-added c =
    let k = c.loop-instr.instr-index in
    let over : length c.args.steps.now ≤ k = omega arith in
    let small : k * 64 ≤ 2 ^ 38 = omega (arith, c.requires.steps) in
    added_at_end c.args.i.now c.args.items.now c.args.slots.now c.args.steps.now k c.args.registers.now c.loop-instr.registers c.args.totals.now c.loop-instr.totals over
    c.loop-instr.invariant.under_way small
