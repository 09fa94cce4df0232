-- A fact of every element, one element after another.
use Rattle.std.proofs.Common.{◌≡◌, ℕ, ◌+◌, ◌<◌, ◌≤◌, List, length, slice_index_or, subst, ◌∙◌, arith, ⊎_elim}
use Rattle.std.specs.Prelude.{All}
use Rattle.std.proofs.lemmas.List.{get_or_default}
use Rattle.std.proofs.lemmas.Bool.Decides.{leb_tells}

-- it holds of the elements before one, and of this one
pub one_more : {X : Type 0} (P : X → Type 0) (xs : List X) (i : ℕ) (x : X) → i < length xs → x ≡ slice_index_or xs i x → ((k : ℕ) (d : X) → k < i → P (slice_index_or xs k d)) → P x → (k : ℕ) (d : X) → k < i + 1 → P (slice_index_or xs k d)
one_more P xs i x within is before now k d below =
    ⊎_elim (λ at. let here : i ≡ k = (let least = at.1 in omega arith) in subst (λ n. P (slice_index_or xs n d)) here (subst P (is ∙ get_or_default xs i x d within) now))
    (λ earlier. before k d earlier.1) (leb_tells i k)

-- it holds of all that there are
pub every : {X : Type 0} (P : X → Type 0) (xs : List X) (i : ℕ) → length xs ≤ i → ((k : ℕ) (d : X) → k < i → P (slice_index_or xs k d)) → All P xs
every P xs i past before k d below = before k d (omega arith)
