use Rattle.std.proofs.Common.{◌≡◌, true, false, ◌||◌, length, sym, ap, ap₂, ◌∙◌}
use Rattle.lane_code.specs.Outcome.{given_by}
use Rattle.lane_code.specs.Validity.{makes_number, makes_mask}
use Rattle.lane_machine.specs.Block.{lane_in}
use Rattle.lane_machine.proofs.BlockLemmas.{on_ok}
use Rattle.lane_machine.proofs.GiftLemmas.{adds_nothing, nothing_given}
use Rattle.lane_machine.proofs.advance.advance.Goals as goal

pub returns-then-makes_number-clause-added : goal.returns-then-makes_number-clause-added
returns-then-makes_number-clause-added c =
    let x = c.args.instr.now in
    let number : makes_number x.act ≡ true = sym c.makes_number.ensures ∙ c.if-makes_number.true in
    on_ok c.write_number.result
    (adds_nothing c.args.slots.now (λ l. given_by x (lane_in c.args.registers.now l)) (length c.args.items.now) 64 c.args.totals.now
    (λ f a l h. nothing_given c.args.slots.now f a x (lane_in c.args.registers.now l) (ap (λ b. b || makes_mask x.act) number)))

pub returns-then-makes_mask-clause-added : goal.returns-then-makes_mask-clause-added
returns-then-makes_mask-clause-added c =
    let x = c.args.instr.now in
    let number : makes_number x.act ≡ false = sym c.makes_number.ensures ∙ c.if-makes_number.false in
    let mask : makes_mask x.act ≡ true = sym c.makes_mask.ensures ∙ c.if-makes_mask.true in
    adds_nothing c.args.slots.now (λ l. given_by x (lane_in c.args.registers.now l)) (length c.args.items.now) 64 c.args.totals.now
    (λ f a l h. nothing_given c.args.slots.now f a x (lane_in c.args.registers.now l) (ap₂ (λ b d. b || d) number mask))
