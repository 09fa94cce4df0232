-- Lists element by element, as loops make them.
use Rattle.std.proofs.Common.{◌≡◌, ℕ, zero, suc, ◌+◌, ◌*◌, ◌<◌, ◌≤◌, List, [], ◌∷◌, ◌++◌, length, get_or, drop, take, map, Option, refl, sym, ap, ◌∙◌, add-one, arith, append_assoc}
use Rattle.std.specs.List.{flat_map, range_with_len}
use Rattle.std.proofs.Math.Seq.{drop-cons, take-suc}
use Rattle.std.proofs.lemmas.List.{map-append, take_all, drop_all, append-nil, length-append}
use Rattle.std.proofs.lemmas.List.Concat.{flat_map-append}
use Rattle.order_laws.specs.Order.{first_some}
use Rattle.run_model.specs.Force.{first_given}

-- what a function gives of the first elements, and of one more
pub pushed_next : {X Y : Type 0} (f : X → Y) (xs : List X) (k : ℕ) (x : X) (items new : List Y) (y : Y) → k < length xs → x ≡ get_or xs k x
    → items ≡ map f (take k xs) → y ≡ f x → new ≡ items ++ y ∷ [] → new ≡ map f (take (k + 1) xs)
pushed_next f xs k x items new y within here so_far is push =
    let more : map f (take (k + 1) xs) ≡ map f (take k xs) ++ f x ∷ [] = rw (add-one, take-suc xs k x within, ← here) (map-append f (take k xs) (x ∷ [])) in
    push ∙ (λ i. so_far i ++ is i ∷ []) ∙ sym more

pub pushed_end : {X Y : Type 0} (f : X → Y) (xs ys : List X) (k : ℕ) (items : List Y) → length xs ≤ k → items ≡ map f (take k xs) → xs ≡ ys → items ≡ map f ys
pushed_end f xs ys k items past so_far same = so_far ∙ ap (map f) (take_all k xs past ∙ same)

-- the first that is given, from the element at k on
pub first_given-drop : {X Y : Type 0} (f : X → Option Y) (xs : List X) (k : ℕ) (x : X) → k < length xs → x ≡ get_or xs k x → first_given f (drop k xs) ≡ first_some (f x) (first_given f (drop (k + 1) xs))
first_given-drop f xs k x within here = rw (add-one, drop-cons xs k x within, ← here) refl

pub drop_next : {X : Type 0} (xs : List X) (k : ℕ) (x : X) → k < length xs → x ≡ get_or xs k x → drop k xs ≡ x ∷ drop (k + 1) xs
drop_next xs k x within here = rw (add-one, drop-cons xs k x within, ← here) refl

-- ---- lists joined

-- one list more
pub flat_next : {X Y : Type 0} (f : X → List Y) (xs : List X) (k : ℕ) (x : X) (items new piece whole : List Y) → k < length xs → x ≡ get_or xs k x → piece ≡ f x → new ≡ items ++ piece
    → items ++ flat_map f (drop k xs) ≡ whole → new ++ flat_map f (drop (k + 1) xs) ≡ whole
flat_next f xs k x items new piece whole within here is push so_far =
    let rest = flat_map f (drop (k + 1) xs) in
    ap (λ l. l ++ rest) (push ∙ ap (λ l. items ++ l) is) ∙ append_assoc items (f x) rest ∙ ap (λ l. items ++ l) (sym (ap (flat_map f) (drop_next xs k x within here))) ∙ so_far

pub flat_end : {X Y : Type 0} (f : X → List Y) (xs : List X) (k : ℕ) (items whole : List Y) → length xs ≤ k → items ++ flat_map f (drop k xs) ≡ whole → items ≡ whole
flat_end f xs k items whole past so_far = sym (append-nil items) ∙ ap (λ l. items ++ l) (sym (ap (flat_map f) (drop_all k xs past))) ∙ so_far

-- ---- ranges of numbers

range-push : (a n : ℕ) → range_with_len a (suc n) ≡ range_with_len a n ++ (a + n) ∷ []
range-push a zero = let e : a ≡ a + 0 = omega arith in ap (λ k. k ∷ []) e
range-push a (suc n) =
    let e : a + 1 + n ≡ a + suc n = omega arith in
    ap (λ l. a ∷ l) (range-push (a + 1) n) ∙ ap (λ k. a ∷ (range_with_len (a + 1) n ++ k ∷ [])) e

-- what a function gives at the numbers below n + 1
pub range_next : {X : Type 0} (f : ℕ → List X) (n : ℕ) (xs ys : List X) → xs ≡ flat_map f (range_with_len 0 n) → ys ≡ f n → xs ++ ys ≡ flat_map f (range_with_len 0 (n + 1))
range_next f n xs ys front here =
    let e : n + 1 ≡ suc n = omega arith in
    let z : 0 + n ≡ n = omega arith in
    let more : flat_map f (range_with_len 0 (n + 1)) ≡ flat_map f (range_with_len 0 n) ++ f n =
    ap (λ k. flat_map f (range_with_len 0 k)) e ∙ ap (flat_map f) (range-push 0 n) ∙ ap (λ k. flat_map f (range_with_len 0 n ++ k ∷ [])) z
    ∙ flat_map-append f (range_with_len 0 n) (n ∷ []) ∙ ap (λ l. flat_map f (range_with_len 0 n) ++ l) (append-nil (f n)) in
    (λ i. front i ++ here i) ∙ sym more

-- lists of a bounded length
pub length-flat_map-range : {X : Type 0} (f : ℕ → List X) (a n m : ℕ) → ((k : ℕ) → length (f k) ≤ m) → length (flat_map f (range_with_len a n)) ≤ n * m
length-flat_map-range f a zero m each = omega arith
length-flat_map-range f a (suc n) m each =
    let long = length-append (f a) (flat_map f (range_with_len (a + 1) n)) in
    let rest = length-flat_map-range f (a + 1) n m each in
    let here = each a in
    omega arith
