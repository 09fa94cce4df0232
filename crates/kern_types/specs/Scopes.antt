-- What is assigned before a place of the text, and the numbers of assigned names: a name's number is the place of its
-- earliest assignment.
use Rattle.std.specs.Prelude.{◌≡◌, ℕ, ◌<◌, false, List, [], ◌++◌, length, map, slice_index_or}
use Rattle.std.specs.List.{AllByRecursion}
use Rattle.std.specs.Str.{bytes_eq}
use Rattle.kern_types.specs.declared.scope.Variable.{Variable}

pub record Scope : Type 0 where
  -- the assignments that stand earlier in the text, in its order
  pub earlier : List Variable
  -- the names that every path from the start to the place assigns
  pub certain : List (List ℕ)

-- the name that is assigned at this place of the assignments
abbrev pub name_at : List Variable → ℕ → List ℕ
name_at earlier n = slice_index_or (map (λ variable. variable.name) earlier) n []

abbrev pub names_at : List Variable → List ℕ → List (List ℕ)
names_at earlier numbers = map (name_at earlier) numbers

-- no assignment before this one is to its name
pub record IsNumber (earlier : List Variable) (n : ℕ) : Type 0 where
  pub within : n < length earlier
  pub first : (k : ℕ) → k < n → bytes_eq (name_at earlier k) (name_at earlier n) ≡ false

abbrev pub AreNumbers : List Variable → List ℕ → Type 0
AreNumbers earlier numbers = AllByRecursion (IsNumber earlier) numbers

-- these names, by their numbers
pub record StandFor (earlier : List Variable) (numbers : List ℕ) (names : List (List ℕ)) : Type 0 where
  pub are_numbers : AreNumbers earlier numbers
  pub are_named : names ≡ names_at earlier numbers

-- the later assignments are the earlier ones and more
pub record Grows (earlier later : List Variable) : Type 0 where
  pub more : List Variable
  pub is : later ≡ earlier ++ more
