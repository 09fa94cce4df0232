use Rattle.std.proofs.Common.{◌≡◌, suc, ◌+◌, ◌≤◌, ◌^◌, length}
use Rattle.text_lines.specs.Lines.{lines, field_lines_from}
use Rattle.text_lines.proofs.lines.Lines.next_line.Given as goal

-- what was passed over is skipped lines
abbrev pub invariant-loop-self : goal.invariant-loop-self
invariant-loop-self l = record {
  ahead : field_lines_from (suc l.self-inside.before) (lines l.self-inside.rest.now) ≡ l.fn.self.ahead;
  count : l.self-inside.before + length (lines l.self-inside.rest.now) ≡ l.fn.self.count;
  small : l.self-inside.before + length l.self-inside.rest.now ≤ 2 ^ 31;
}

abbrev pub decreases-loop-self : goal.decreases-loop-self
decreases-loop-self l = length l.self-inside.rest.now
