use Rattle.std.proofs.Common.{◌≡◌, sym, ◌∙◌, w64, to_z, of_z, arith}
use Rattle.std.proofs.lemmas.Int.{ints}
use Rattle.lane_machine.specs.Columns.{lane_of}
use Rattle.lane_machine.proofs.StepLemmas.{idle, same_number}
use Rattle.lane_machine.proofs.number.value_at.Goals as goal

pub returns-else-mask_at-clause-ok : goal.returns-else-mask_at-clause-ok
returns-else-mask_at-clause-ok c =
    let s = lane_of c.args.numbers.now c.args.masks.now c.args.lane in
    let same : to_z w64 (of_z w64 c.number_at.result) ≡ c.number_at.result = omega (arith, ints) in
    idle c.args.i.now c.args.j.now c.args.instr.now s c.requires.number (sym c.mask_at.ensures ∙ c.if-mask_at.false)
    ∙ same_number s c.args.instr.now.out _ (same ∙ c.number_at.ensures)
