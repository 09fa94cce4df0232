-- The ranges of names, by number.
use Rattle.std.specs.Prelude.{ℕ, List, Option, Some, None, slice_get}
use Rattle.kern_meaning.specs.Walks.{number_of}
use Rattle.kern_range.specs.declared.range.Range.{Range}
use Rattle.kern_range.specs.Intervals.{OrBad}
use Rattle.kern_range.specs.Nodes.{Known}

abbrev pub range_or : OrBad Range → Option (OrBad Range) → OrBad Range
range_or start None = start
range_or start (Some range) = range

-- by number where a name has one, else as at the start
abbrev pub known_by : Known → List (List ℕ) → List (OrBad Range) → Known
known_by start names ranges name = range_or (start name) (slice_get ranges (number_of names name))
