use Rattle.std.proofs.Common.{◌≡◌, ◌+◌, ℕ, fold}
use Rattle.lane_machine.specs.Block.{lane_in}
use Rattle.lane_machine.specs.Gathered.{gathered, gift_of}
use Rattle.lane_machine.specs.Total.{AreFew, along, with_along, joined}
use Rattle.lane_machine.proofs.give.added.Given as goal

abbrev pub invariant-loop-l : goal.invariant-loop-l
invariant-loop-l l = record {
  value : l.sum ≡ with_along l.axis l.fn.total (fold (joined l.fn.total.combine) (along l.axis l.fn.total)
      (gathered (λ k. gift_of l.under l.register (lane_in l.registers k)) l.l));
  few : (n : ℕ) → AreFew n l.fn.total → AreFew (n + l.l) l.sum;
}
