use Rattle.std.proofs.Common.{Bool, List, ap, ◌∙◌, Some}
use Rattle.std.specs.Global.{Box}
use Rattle.lane_machine.specs.Block.{item_at}
use Rattle.lane_machine.specs.Columns.{lane_of}
use Rattle.lane_machine.proofs.BlockLemmas.{mask_written}
use Rattle.lane_machine.proofs.StepLemmas.{masked}
use Rattle.lane_machine.proofs.mask.write_mask.Goals as goal

pub returns-then-out-masks : goal.returns-then-out-masks
returns-then-out-masks c = λ l h.
    masked c.args.i.now (item_at c.args.items.now l) c.args.instr.now (lane_of c.args.numbers.now c.args.masks.now l) _ c.requires.mask (c.fill.ensures l h)
    ∙ ap Some (mask_written c.args.numbers.now c.args.masks.now c.args.instr.now.out l c.swap.new.x c.fill.new.out (ap (λ (b : Box (List Bool)). b.value) c.swap.ensures.x_after))
