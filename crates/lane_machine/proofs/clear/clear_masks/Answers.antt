use Rattle.std.proofs.Common.{true, false, set, replicate, ap, ◌∙◌, arith}
use Rattle.lane_machine.proofs.ClearLemmas.{masks_clear}
use Rattle.lane_machine.proofs.clear.clear_masks.Goals as goal

pub returns : goal.returns
returns c = λ l within.
    masks_clear c.loop-m.masks l within (λ r d h. c.loop-m.invariant r d (omega (arith, h)))
    ∙ ap (λ n. set (replicate n false) 0 true) c.loop-m.auto.masks
