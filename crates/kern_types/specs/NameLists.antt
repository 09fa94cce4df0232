-- Lists of names.
use Rattle.std.specs.Prelude.{ℕ, Bool, List, filter}
use Rattle.std.specs.List.{list_any}
use Rattle.std.specs.Str.{bytes_eq}

abbrev pub is_among : List (List ℕ) → List ℕ → Bool
is_among names name = list_any (λ other. bytes_eq other name) names

-- those of the second names that are among the first too
abbrev pub common : List (List ℕ) → List (List ℕ) → List (List ℕ)
common first second = filter (λ name. is_among first name) second
