-- Lists over disjoint particles put together, with common cells as one.
use Rattle.std.specs.Prelude.{ℕ, Bool, cond, ◌&&◌, not, List, [], ◌∷◌, count_by}
use Rattle.std.specs.List.{list_any}
use Rattle.pf_model.specs.declared.entry.Entry.{Entry}
use Rattle.pf_model.specs.declared.entry.Entry.TheVariants.{Cell, One}
use Rattle.pf_model.specs.Sums.{together}
use Rattle.pf_model.specs.Interaction.{comes_before}

-- two entries of one cell as one, with the members of both
abbrev pub joined : Entry → Entry → Entry
joined (Cell c m) (Cell d n) = Cell d (together m n)
joined (Cell c m) (One q) = One q
joined (One p) f = f

-- a list in order with an entry put at its place, or joined with the one that stands there
abbrev pub with_entry : Entry → List Entry → List Entry
with_entry e [] = e ∷ []
with_entry e (f ∷ fs) =
    cond (comes_before e f) (e ∷ f ∷ fs) (cond (comes_before f e) (f ∷ with_entry e fs) (joined e f ∷ fs))

-- two lists in order as one list in order
unfoldable pub merged : List Entry → List Entry → List Entry
merged [] fs = fs
merged (e ∷ es) fs = with_entry e (merged es fs)

-- whether neither of two entries comes before the other, so that they stand at one place
abbrev pub is_level : Entry → Entry → Bool
is_level e f = not (comes_before e f) && not (comes_before f e)

-- how many entries of the one list have their cell in the other
abbrev pub common_count : List Entry → List Entry → ℕ
common_count es fs = count_by (λ e. list_any (is_level e) fs) es
