use Rattle.std.proofs.Common.{ℤ, List, ap, ◌∙◌, Some}
use Rattle.std.specs.Global.{Box}
use Rattle.lane_machine.proofs.BlockLemmas.{number_written}
use Rattle.lane_machine.proofs.number.write_number.Goals as goal

pub returns-then-out-numbers-clause-ok : goal.returns-then-out-numbers-clause-ok
returns-then-out-numbers-clause-ok c = λ l h.
    c.in_ok-fill.ensures.ok l h ∙ ap Some (number_written c.args.numbers.now c.args.masks.now c.args.instr.now.out l c.swap.new.x c.fill.new.out (ap (λ (b : Box (List ℤ)). b.value) c.swap.ensures.x_after))
