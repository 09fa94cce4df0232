use Rattle.std.proofs.Common.{◌≡◌, ◌+◌, ◌-◌, ◌*◌, ◌^◌, ◌≤◌, ◌<◌, drop, length, length-take, length-drop, vec_len, ap₂, ◌∙◌, arith}
use Rattle.std.specs.Prelude.{slice_range}
use Rattle.lane_machine.specs.Columns.{start_of}
use Rattle.lane_machine.proofs.Blocks.{block_through}
use Rattle.lane_machine.proofs.TotalLemmas.{all_at_least}
use Rattle.lane_machine.proofs.run.run_all.Goals as goal

pub run_block-requires-clause-room : goal.run_block-requires-clause-room
run_block-requires-clause-room c =
    let first = c.loop-first.first in
    let small : 2 ^ 55 + first * 2 ^ 38 ≤ 2 ^ 56 = omega (arith, c.loop-first.invariant.within, c.requires.few) in
    all_at_least (2 ^ 55 + first * 2 ^ 38) (2 ^ 56) c.loop-first.totals small (c.loop-first.invariant.through.added.few (2 ^ 55) c.requires.room)

pub loop-first-preserved : goal.loop-first-preserved
loop-first-preserved c =
    let first = c.loop-first.first in
    let end = c.min-end.result in
    let items = c.args.items.now in
    let start = start_of (vec_len c.args.registers.now.numbers) (vec_len c.args.registers.now.masks) in
    let low : first < end = omega (arith, c.min-end.ensures, c.loop-first-test.true) in
    let high : end ≤ length items = omega (arith, c.min-end.ensures) in
    let few : end ≤ first + 64 = omega (arith, c.min-end.ensures) in
    let counted : length (slice_range items first end) ≡ end - first = omega (arith, length-take (end - first) (drop first items), length-drop first items, high) in
    record {
      within = high;
      through = block_through c.args.slots.now c.args.i.now items c.args.steps.now start first end c.clear.new.registers
          (λ l h. c.clear.ensures.lanes l h ∙ ap₂ start_of c.loop-first.invariant.numbers c.loop-first.invariant.masks) low few
          (length (slice_range items first end)) c.args.totals.now c.loop-first.totals c.run_block.new.totals counted c.loop-first.invariant.through
          c.in_ok-run_block.ensures.fine c.in_ok-run_block.ensures.added;
      numbers = c.in_ok-run_block.ensures.numbers ∙ c.clear.ensures.numbers ∙ c.loop-first.invariant.numbers;
      masks = c.in_ok-run_block.ensures.masks ∙ c.clear.ensures.masks ∙ c.loop-first.invariant.masks;
    }
