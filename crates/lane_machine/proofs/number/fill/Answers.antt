use Rattle.std.proofs.Common.{◌≡◌, ◌<◌, Some, IfOk, length, sym, subst, arith}
use Rattle.lane_code.specs.Steps.{step}
use Rattle.lane_machine.specs.Block.{no_item, step_at, with_number_at}
use Rattle.lane_machine.specs.Columns.{lane_of}
use Rattle.lane_machine.proofs.BlockLemmas.{item_is, stored}
use Rattle.lane_machine.proofs.number.fill.Goals as goal

pub loop-l-preserved : goal.loop-l-preserved
loop-l-preserved c =
    let k = c.loop-l.l in
    let numbers = c.args.numbers.now in
    let masks = c.args.masks.now in
    let instr = c.args.instr.now in
    let within : k < length c.args.items.now = omega arith in
    let here : k < length c.loop-l.out = omega arith in
    let item = item_is c.args.items.now k c.index-items-l.result no_item within c.index-items-l.is in
    let value = c.value_at-value.result in
    let is = subst (λ j. IfOk value (λ v. step c.args.i.now j instr (lane_of numbers masks k) ≡ Some (with_number_at numbers masks k instr.out v)))
    (sym item) c.value_at-value.ensures.ok in
    record {
      long = omega arith;
      lanes = stored (step_at c.args.i.now c.args.items.now instr numbers masks) (λ l v. with_number_at numbers masks l instr.out v) c.loop-l.out _ k value here
          is c.in_ok-store.ensures.ok c.loop-l.invariant.lanes;
    }
