-- Lanes at the start.
use Rattle.std.proofs.Common.{◌≡◌, ℕ, zero, suc, ◌+◌, ◌<◌, ◌==◌, ℤ, pos, Bool, true, false, List, [], ◌∷◌, length, get_or, set, replicate, refl, sym, ap, ap₂, subst, ◌∙◌, ⊎_elim, arith}
use Rattle.std.specs.Global.{Box}
use Rattle.std.proofs.lemmas.List.{get_or-set_same, get_or-set_other}
use Rattle.std.proofs.lemmas.Bool.{cases_lt, ne_eqb}
use Rattle.lane_machine.specs.Columns.{numbers_at, masks_at}

-- a column of one value has it in each lane
one_value : {X : Type 0} (x : X) (n l : ℕ) → get_or (replicate n x) l x ≡ x
one_value x zero l = refl
one_value x (suc n) zero = refl
one_value x (suc n) (suc l) = one_value x n l

in_lane : {X : Type 0} (x d : X) (n l : ℕ) → l < n → get_or (replicate n x) l d ≡ x
in_lane x d zero l h = absurd (omega (arith, h))
in_lane x d (suc n) zero h = refl
in_lane x d (suc n) (suc l) h = in_lane x d n l (omega (arith, h))

-- one more column is written
pub column_more : {X : Type 0} (columns : List (Box (List X))) (k : ℕ) (column : Box (List X)) (blank : List X) → k < length columns → column.value ≡ blank
    → ((r : ℕ) (d : Box (List X)) → r < k → (get_or columns r d).value ≡ blank)
    → (r : ℕ) (d : Box (List X)) → r < k + 1 → (get_or (set columns k column) r d).value ≡ blank
column_more columns k column blank within is so_far = λ r d h.
    ⊎_elim
    (λ less. ap (λ b. b.value) (get_or-set_other columns k r column d (λ same. omega (arith, same, less))) ∙ so_far r d less)
    (λ e. let same : r ≡ k = omega (arith, e, h) in
    subst (λ n. (get_or (set columns k column) n d).value ≡ blank) (sym same) (ap (λ b. b.value) (get_or-set_same columns k column d within) ∙ is))
    (cases_lt r k)

pub numbers_clear : (columns : List (Box (List ℤ))) (l : ℕ) → ((r : ℕ) (d : Box (List ℤ)) → r < length columns → (get_or columns r d).value ≡ replicate 64 (pos 0))
    → numbers_at columns l ≡ replicate (length columns) (pos 0)
numbers_clear [] l blank = refl
numbers_clear (c ∷ columns) l blank =
    ap₂ (λ n ns. n ∷ ns) (ap (λ v. get_or v l (pos 0)) (blank 0 c (omega arith)) ∙ one_value (pos 0) 64 l)
    (numbers_clear columns l (λ r d h. blank (suc r) d (omega (arith, h))))

later_masks : (columns : List (Box (List Bool))) (l : ℕ) → ((r : ℕ) (d : Box (List Bool)) → r < length columns → (get_or columns r d).value ≡ replicate 64 false)
    → masks_at columns l ≡ replicate (length columns) false
later_masks [] l blank = refl
later_masks (c ∷ columns) l blank =
    ap₂ (λ m ms. m ∷ ms) (ap (λ v. get_or v l false) (blank 0 c (omega arith)) ∙ one_value false 64 l)
    (later_masks columns l (λ r d h. blank (suc r) d (omega (arith, h))))

-- mask 0 holds, and no other
pub masks_clear : (columns : List (Box (List Bool))) (l : ℕ) → l < 64 → ((r : ℕ) (d : Box (List Bool)) → r < length columns → (get_or columns r d).value ≡ replicate 64 (r == 0))
    → masks_at columns l ≡ set (replicate (length columns) false) 0 true
masks_clear [] l h blank = refl
masks_clear (c ∷ columns) l h blank =
    ap₂ (λ m ms. m ∷ ms) (ap (λ v. get_or v l false) (blank 0 c (omega arith)) ∙ in_lane true false 64 l h)
    (later_masks columns l (λ r d less. blank (suc r) d (omega (arith, less)) ∙ ap (λ b. replicate 64 b) (ne_eqb (suc r) 0 (λ same. omega (arith, same)))))
