use Rattle.std.proofs.Common.{◌≡◌, take, drop}
use Rattle.lane_code.specs.Validity.{first_breach, first_breach_after}
use Rattle.lane_code.proofs.code.validate.Given as goal

abbrev pub invariant-loop-n : goal.invariant-loop-n
invariant-loop-n l = first_breach l.fn.raw ≡ first_breach_after l.fn.raw (take l.n l.fn.raw.steps) (drop l.n l.fn.raw.steps)
