use Rattle.std.proofs.Common.{◌≡◌, ◌+◌, ◌≤◌, ◌^◌, length}
use Rattle.text_lines.specs.Lines.{lines}
use Rattle.text_lines.proofs.lines.Lines.count.Given as goal

abbrev pub invariant-loop-rest : goal.invariant-loop-rest
invariant-loop-rest l = record {
  count : l.count + length (lines l.rest) ≡ l.self.count;
  small : l.count + length l.rest ≤ 2 ^ 31;
}

abbrev pub decreases-loop-rest : goal.decreases-loop-rest
decreases-loop-rest l = length l.rest
