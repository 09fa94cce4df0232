-- The lines of a text, and the fields of a line.
use Rattle.std.specs.Prelude.{ℕ, suc, Bool, true, ◌||◌, ◌==◌, not, if◌then◌else◌, List, [], ◌∷◌, ◌++◌, length, map, filter, find}
use Rattle.std.specs.List.{slice_split}
use Rattle.std.specs.Option.{option_map_or}
use Rattle.std.specs.Str.Lines.{strip_carriage_return}

-- space and tab
abbrev pub is_blank : ℕ → Bool
is_blank b = b == 32 || b == 9

abbrev pub is_line_feed : ℕ → Bool
is_line_feed b = b == 10

-- an empty part after the last line feed is no line
abbrev pub without_empty_last : List (List ℕ) → List (List ℕ)
without_empty_last [] = []
without_empty_last (part ∷ []) = if length part == 0 then [] else part ∷ []
without_empty_last (part ∷ next ∷ parts) = part ∷ without_empty_last (next ∷ parts)

-- the parts between line feeds, each without one carriage return at its end
abbrev pub lines : List ℕ → List (List ℕ)
lines text = map strip_carriage_return (without_empty_last (slice_split is_line_feed text))

-- the parts between blanks that aren't empty
abbrev pub fields : List ℕ → List (List ℕ)
fields line = filter (λ part. not (length part == 0)) (slice_split is_blank line)

-- the line has only blanks, or `#` is the first other byte
abbrev pub is_skipped : List ℕ → Bool
is_skipped line = option_map_or (λ b. b == 35) (find (λ b. not (is_blank b)) line) true

-- a line that isn't skipped: its number among all lines, from 1, and its fields
pub record FieldLine : Type 0 where
  pub number : ℕ
  pub fields : List (List ℕ)

-- those of these lines that aren't skipped, where the first has this number
abbrev pub field_lines_from : ℕ → List (List ℕ) → List FieldLine
field_lines_from number [] = []
field_lines_from number (line ∷ more) =
    (if is_skipped line then [] else record { number = number; fields = fields line } ∷ [])
    ++ field_lines_from (suc number) more

abbrev pub field_lines : List ℕ → List FieldLine
field_lines text = field_lines_from 1 (lines text)

-- what a reader of lines has before it, and how many lines the whole text has
pub record LinesAhead : Type 0 where
  pub ahead : List FieldLine
  pub count : ℕ
