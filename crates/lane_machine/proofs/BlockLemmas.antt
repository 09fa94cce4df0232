-- Columns, lane after lane.
use Rattle.std.proofs.Common.{◌≡◌, ℕ, zero, suc, ◌+◌, ◌<◌, ℤ, pos, Bool, false, List, [], ◌∷◌, ◌++◌, ◌≤◌, take, drop, length, get_or, set, Option, Some, Result, Ok, Err, IfOk, OnOk, refl, sym, ap, subst, ◌∙◌, ⊎_elim, arith}
use Rattle.std.specs.Global.{Box}
use Rattle.std.proofs.lemmas.List.{get_or-set_same, get_or-set_other, take_all, drop_all, append-nil}
use Rattle.std.proofs.lemmas.Bool.{cases_lt}
use Rattle.std.specs.Result.{IsOkAnd}
use Rattle.pf_num.specs.declared.fault.NumFault.{NumFault}
use Rattle.lane_code.specs.Steps.{LaneState}
use Rattle.lane_machine.specs.Block.{with_number_at, with_mask_at}
use Rattle.lane_machine.specs.Columns.{lane_of, numbers_at, masks_at}

-- an item that is read stands in its lane
pub item_is : {X : Type 0} (xs : List X) (l : ℕ) (x d : X) → l < length xs → x ≡ get_or xs l x → get_or xs l d ≡ x
item_is [] l x d h e = absurd (omega (arith, h))
item_is (y ∷ ys) zero x d h e = sym e
item_is (y ∷ ys) (suc l) x d h e = item_is ys l x d (omega (arith, h)) e

-- one more lane is written
pub one_more : {X : Type 0} (after : ℕ → Option LaneState) (make : ℕ → X → LaneState) (column : List X) (d : X) (k : ℕ) (value : X) → k < length column
    → after k ≡ Some (make k value) → ((l : ℕ) → l < k → after l ≡ Some (make l (get_or column l d)))
    → (l : ℕ) → l < k + 1 → after l ≡ Some (make l (get_or (set column k value) l d))
one_more after make column d k value within is so_far = λ l h.
    ⊎_elim
    (λ less. so_far l less ∙ ap (λ v. Some (make l v)) (sym (get_or-set_other column k l value d (λ same. omega (arith, same, less)))))
    (λ e. let same : l ≡ k = omega (arith, e, h) in
    subst (λ n. after n ≡ Some (make n (get_or (set column k value) n d))) (sym same)
    (is ∙ ap (λ v. Some (make k v)) (sym (get_or-set_same column k value d within))))
    (cases_lt l k)

pub numbers_set : (columns : List (Box (List ℤ))) (r l : ℕ) (column : Box (List ℤ))
    → numbers_at (set columns r column) l ≡ set (numbers_at columns l) r (get_or column.value l (pos 0))
numbers_set [] r l column = refl
numbers_set (c ∷ columns) zero l column = refl
numbers_set (c ∷ columns) (suc r) l column = ap (λ ns. get_or c.value l (pos 0) ∷ ns) (numbers_set columns r l column)

pub masks_set : (columns : List (Box (List Bool))) (r l : ℕ) (column : Box (List Bool))
    → masks_at (set columns r column) l ≡ set (masks_at columns l) r (get_or column.value l false)
masks_set [] r l column = refl
masks_set (c ∷ columns) zero l column = refl
masks_set (c ∷ columns) (suc r) l column = ap (λ ms. get_or c.value l false ∷ ms) (masks_set columns r l column)

-- a lane is written where there is an answer for it
pub stored : (after : ℕ → Option LaneState) (make : ℕ → ℤ → LaneState) (column new : List ℤ) (k : ℕ) (answer : Result ℤ NumFault) → k < length column
    → IfOk answer (λ value. after k ≡ Some (make k value)) → IsOkAnd answer (λ value. new ≡ set column k value)
    → ((l : ℕ) → l < k → after l ≡ Some (make l (get_or column l (pos 0))))
    → (l : ℕ) → l < k + 1 → after l ≡ Some (make l (get_or new l (pos 0)))
stored after make column new k (Ok value) within is written so_far = λ l h.
    one_more after make column (pos 0) k value within is so_far l h ∙ ap (λ c. Some (make l (get_or c l (pos 0)))) (sym written)
stored after make column new k (Err fault) within is written so_far = absurd written

-- a column that has been written stands in its register
pub number_written : (numbers : List (Box (List ℤ))) (masks : List (Box (List Bool))) (out l : ℕ) (column : Box (List ℤ)) (new : List ℤ) → column.value ≡ new
    → with_number_at numbers masks l out (get_or new l (pos 0)) ≡ lane_of (set numbers out column) masks l
number_written numbers masks out l column new e =
    let P : List ℤ → LaneState = λ ns. record { numbers = ns; masks = masks_at masks l } in
    ap P (ap (λ c. set (numbers_at numbers l) out (get_or c l (pos 0))) (sym e) ∙ sym (numbers_set numbers out l column))

pub mask_written : (numbers : List (Box (List ℤ))) (masks : List (Box (List Bool))) (out l : ℕ) (column : Box (List Bool)) (new : List Bool) → column.value ≡ new
    → with_mask_at numbers masks l out (get_or new l false) ≡ lane_of numbers (set masks out column) l
mask_written numbers masks out l column new e =
    let P : List Bool → LaneState = λ ms. record { numbers = numbers_at numbers l; masks = ms } in
    ap P (ap (λ c. set (masks_at masks l) out (get_or c l false)) (sym e) ∙ sym (masks_set masks out l column))

pub on_ok : {A E P : Type 0} (r : Result A E) → P → OnOk r P
on_ok (Ok a) h = h
on_ok (Err e) h = tt

pub on_ok_map : {A E P Q : Type 0} (r : Result A E) → (P → Q) → OnOk r P → OnOk r Q
on_ok_map (Ok a) f h = f h
on_ok_map (Err e) f h = tt

-- a slice that was lent by a `Vec` stands in it again
pub written_back : {X : Type 0} (new old : List X) (n : ℕ) → length new ≡ n → length old ≤ n → take n (new ++ drop (length new) old) ≡ new
written_back new old n e h =
    let none : drop (length new) old ≡ [] = drop_all (length new) old (omega arith) in
    ap (λ l. take n (new ++ l)) none ∙ ap (take n) (append-nil new) ∙ take_all n new (omega arith)

pub on_ok_three : {A E P Q R S : Type 0} (r : Result A E) → (P → Q → R → S) → OnOk r P → OnOk r Q → OnOk r R → OnOk r S
on_ok_three (Ok a) f h k m = f h k m
on_ok_three (Err e) f h k m = tt
