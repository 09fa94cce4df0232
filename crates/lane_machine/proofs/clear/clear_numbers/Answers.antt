use Rattle.std.proofs.Common.{pos, replicate, ap, ◌∙◌, arith}
use Rattle.lane_machine.proofs.ClearLemmas.{numbers_clear}
use Rattle.lane_machine.proofs.clear.clear_numbers.Goals as goal

pub returns : goal.returns
returns c = λ l.
    numbers_clear c.loop-r.numbers l (λ r d h. c.loop-r.invariant r d (omega (arith, h)))
    ∙ ap (λ n. replicate n (pos 0)) c.loop-r.auto.numbers
