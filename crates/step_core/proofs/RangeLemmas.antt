-- Ranges of numbers, one number longer.
use Rattle.std.proofs.Common.{◌≡◌, ℕ, zero, suc, ◌+◌, ◌-◌, ◌*◌, ◌%◌, ◌^◌, ◌<◌, ◌≤◌, List, [], ◌∷◌, ◌++◌, length, refl, sym, ◌∙◌, ap, arith}
use Rattle.std.specs.List.{range_with_len, flat_map, All}
use Rattle.std.proofs.Math.Nat.{pow-suc, mul-le-mul_left}
use Rattle.std.proofs.lemmas.Nat.{pow-add, pow_pos}
use Rattle.std.proofs.lemmas.List.{append_assoc, append-nil, length-append}
use Rattle.std.proofs.lemmas.List.Concat.{flat_map-append}
use Rattle.std.proofs.lemmas.List.Elements.{All-append, All-nil}

pub range-push : (a n : ℕ) → range_with_len a (suc n) ≡ range_with_len a n ++ (a + n) ∷ []
range-push a zero = let e : a ≡ a + 0 = omega arith in ap (λ k. k ∷ []) e
range-push a (suc n) =
    let e : a + 1 + n ≡ a + suc n = omega arith in
    ap (λ l. a ∷ l) (range-push (a + 1) n) ∙ ap (λ k. a ∷ (range_with_len (a + 1) n ++ k ∷ [])) e

-- what a function gives at the numbers below n + 1
pub flat_map-range_more : {X : Type 0} (f : ℕ → List X) (n : ℕ) → flat_map f (range_with_len 0 (n + 1)) ≡ flat_map f (range_with_len 0 n) ++ f n
flat_map-range_more f n =
    let e : n + 1 ≡ suc n = omega arith in
    let z : 0 + n ≡ n = omega arith in
    ap (λ k. flat_map f (range_with_len 0 k)) e ∙ ap (flat_map f) (range-push 0 n) ∙ ap (λ k. flat_map f (range_with_len 0 n ++ k ∷ [])) z
    ∙ flat_map-append f (range_with_len 0 n) (n ∷ []) ∙ ap (λ l. flat_map f (range_with_len 0 n) ++ l) (append-nil (f n))

-- one piece more
pub range_next : {X : Type 0} (f : ℕ → List X) (n : ℕ) (xs ys : List X) → xs ≡ flat_map f (range_with_len 0 n) → ys ≡ f n → xs ++ ys ≡ flat_map f (range_with_len 0 (n + 1))
range_next f n xs ys front here = (λ i. front i ++ here i) ∙ sym (flat_map-range_more f n)

-- behind others
pub range_behind : {X : Type 0} (f : ℕ → List X) (n : ℕ) (first xs ys : List X) → xs ≡ first ++ flat_map f (range_with_len 0 n) → ys ≡ f n → xs ++ ys ≡ first ++ flat_map f (range_with_len 0 (n + 1))
range_behind f n first xs ys front here =
    (λ i. front i ++ here i) ∙ append_assoc first (flat_map f (range_with_len 0 n)) (f n) ∙ ap (λ l. first ++ l) (sym (flat_map-range_more f n))

-- what holds of each element of each piece
pub All-flat_map-range : {X : Type 0} (P : X → Type 0) (f : ℕ → List X) (a n : ℕ) → ((k : ℕ) → k < a + n → All P (f k)) → All P (flat_map f (range_with_len a n))
All-flat_map-range P f a zero each = All-nil P
All-flat_map-range P f a (suc n) each =
    All-append P (f a) (flat_map f (range_with_len (a + 1) n)) (each a (omega arith)) (All-flat_map-range P f (a + 1) n (λ k less. each k (omega arith)))

-- pieces of a bounded length
pub length-flat_map-range : {X : Type 0} (f : ℕ → List X) (a n m : ℕ) → ((k : ℕ) → length (f k) ≤ m) → length (flat_map f (range_with_len a n)) ≤ n * m
length-flat_map-range f a zero m each = omega arith
length-flat_map-range f a (suc n) m each =
    let long = length-append (f a) (flat_map f (range_with_len (a + 1) n)) in
    let rest = length-flat_map-range f (a + 1) n m each in
    let here = each a in
    omega arith
