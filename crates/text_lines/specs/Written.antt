-- Lines as they are written: fields with single spaces between them, and a line feed.
use Rattle.std.specs.Prelude.{◌≡◌, ◌≢◌, ℕ, suc, ◌<◌, List, [], ◌∷◌, ◌++◌, length, slice_index}
use Rattle.std.specs.List.{AllByRecursion, flat_map, join_with_byte}
use Rattle.text_lines.specs.Lines.{FieldLine}

-- no line feed, carriage return, space or tab
pub record IsFieldByte (byte : ℕ) : Type 0 where
  pub no_line_feed : byte ≢ 10
  pub no_return : byte ≢ 13
  pub no_space : byte ≢ 32
  pub no_tab : byte ≢ 9

pub record IsField (field : List ℕ) : Type 0 where
  pub nonempty : 0 < length field
  pub bytes : AllByRecursion IsFieldByte field

-- at least one field, and the first begins no comment
pub record IsWritable (fields : List (List ℕ)) : Type 0 where
  pub some : 0 < length fields
  pub each : AllByRecursion IsField fields
  pub no_comment : (first : List ℕ) (more : List (List ℕ)) → fields ≡ first ∷ more → slice_index first 0 ≢ 35

abbrev pub written_line : List (List ℕ) → List ℕ
written_line fields = join_with_byte 32 fields ++ 10 ∷ []

abbrev pub written : List (List (List ℕ)) → List ℕ
written lines = flat_map written_line lines

-- lines with these fields, one after another, the first of which has this number
abbrev pub numbered_from : ℕ → List (List (List ℕ)) → List FieldLine
numbered_from number [] = []
numbered_from number (fields ∷ more) = record { number = number; fields = fields } ∷ numbered_from (suc number) more
