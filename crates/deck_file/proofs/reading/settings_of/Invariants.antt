use Rattle.std.proofs.Common.{◌≡◌, List, [], ◌++◌, length}
use Rattle.text_lines.specs.Lines.{FieldLine, field_lines}
use Rattle.deck_file.specs.Settings.{GiveSettings}
use Rattle.deck_file.proofs.reading.settings_of.Given as goal

-- the lines so far give the settings
abbrev pub invariant-loop-line : goal.invariant-loop-line
invariant-loop-line l = (before : List FieldLine) × (field_lines l.text ≡ before ++ l.lines.ahead) × GiveSettings [] before l.settings.items

abbrev pub decreases-loop-line : goal.decreases-loop-line
decreases-loop-line l = length l.lines.ahead
