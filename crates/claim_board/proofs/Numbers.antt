-- Lists with each number once.
use Rattle.std.proofs.Common.{◌≡◌, ◌≢◌, ℕ, ◌+◌, ◌<◌, ◌≤◌, ◌==◌, cond, Bool, List, [], ◌∷◌, ◌++◌, length, get_or, refl, ap, ◌∙◌, arith, eq-eqb, ne_eqb, lt-ltb, le-ltb, ltb, zero, suc, sum_by, All}
use mathlib.Core.Logic.{dite}
use native.Mathlib.Decide.{ℕ_discrete, dec_lt}
use Rattle.std.proofs.lemmas.List.Sums.{sum_by-append, sum_by-cons, get_or-le-sum_by}
use Rattle.std.proofs.lemmas.List.Elements.{All-head, All-tail}
use Rattle.claim_board.specs.Once.{times, HasEachOnce}

-- 1 where y is x, and else 0
abbrev pub is_it : ℕ → ℕ → ℕ
is_it x y = cond (y == x) 1 0

pub same_is_it : (x : ℕ) → is_it x x ≡ 1
same_is_it x = ap (λ (b : Bool). cond {A = ℕ} b 1 0) (eq-eqb x x refl)

pub other_is_not : (x y : ℕ) → y ≢ x → is_it x y ≡ 0
other_is_not x y apart = ap (λ (b : Bool). cond {A = ℕ} b 1 0) (ne_eqb y x apart)

pub times-append : (x : ℕ) (xs ys : List ℕ) → times x (xs ++ ys) ≡ times x xs + times x ys
times-append x xs ys = sum_by-append (is_it x) xs ys

times_one : (x y : ℕ) → times x (y ∷ []) ≡ is_it x y
times_one x y = let e = sum_by-cons (is_it x) y [] in let nil : times x [] ≡ 0 = refl in omega arith

-- a number at a place of a list stands in it
times_here : (xs : List ℕ) (k d : ℕ) → k < length xs → 1 ≤ times (get_or xs k d) xs
times_here xs k d h = let x : ℕ = get_or xs k d in let le : is_it x x ≤ times x xs = get_or-le-sum_by (is_it x) xs k d h in let one = same_is_it x in omega arith

-- the same numbers, each as often
pub once_again : (n : ℕ) (xs ys : List ℕ) → HasEachOnce n xs → ((x : ℕ) → times x ys ≡ times x xs) → HasEachOnce n ys
once_again n xs ys once same = record { each = λ x h. same x ∙ once.each x h; others = λ x h. same x ∙ once.others x h }

-- the next number besides
pub once_more : (n : ℕ) (xs ys : List ℕ) → HasEachOnce n xs → ((x : ℕ) → times x ys ≡ times x xs + times x (n ∷ [])) → HasEachOnce (n + 1) ys
once_more n xs ys once more = record {
  each = λ x h. dite (ℕ_discrete n x)
      (λ is. let e = more x in let none = once.others x (omega arith) in let one : times x (n ∷ []) ≡ 1 = times_one x n ∙ ap (is_it x) is ∙ same_is_it x in omega arith)
      (λ apart. let e = more x in let one = once.each x (omega arith) in let not = times_one x n ∙ other_is_not x n apart in omega arith);
  others = λ x h. let e = more x in let none = once.others x (omega arith) in let other = times_one x n ∙ other_is_not x n (λ is. omega arith) in omega arith;
}

-- a part of such a list has no number from n on
pub once_below : (n : ℕ) (xs part : List ℕ) → HasEachOnce n xs → ((x : ℕ) → times x part ≤ times x xs) → All (λ x. x < n) part
once_below n xs part once within k d h = dite (dec_lt (get_or part k d) n) (λ below. below)
    (λ past. let x : ℕ = get_or part k d in let here = times_here part k d h in let le = within x in let none = once.others x (omega arith) in absurd (omega arith))

-- 1 where y is below n, and else 0
abbrev is_below : ℕ → ℕ → ℕ
is_below n y = cond (ltb y n) 1 0

is_below_yes : (n y : ℕ) → y < n → is_below n y ≡ 1
is_below_yes n y h = ap (λ (b : Bool). cond {A = ℕ} b 1 0) (lt-ltb y n h)

is_below_no : (n y : ℕ) → n ≤ y → is_below n y ≡ 0
is_below_no n y h = ap (λ (b : Bool). cond {A = ℕ} b 1 0) (le-ltb y n h)

-- below the next number are those below n, and n
is_below_next : (n m y : ℕ) → m ≡ n + 1 → is_below m y ≡ is_below n y + is_it n y
is_below_next n m y next = dite (dec_lt y n)
    (λ less. let a = is_below_yes n y less in let b = is_below_yes m y (omega arith) in let c = other_is_not n y (λ is. omega arith) in omega arith)
    (λ more. let a = is_below_no n y (omega arith) in dite (ℕ_discrete y n)
    (λ is. let b = is_below_yes m y (omega arith) in let c : is_it n y ≡ 1 = ap (is_it n) is ∙ same_is_it n in omega arith)
    (λ apart. let b = is_below_no m y (omega arith) in let c = other_is_not n y apart in omega arith))

-- how many numbers of the list are below n
abbrev below : ℕ → List ℕ → ℕ
below n xs = sum_by (is_below n) xs

below_next : (n m : ℕ) (xs : List ℕ) → m ≡ n + 1 → below m xs ≡ below n xs + times n xs
below_next n m [] next = refl
below_next n m (y ∷ ys) next = let r = below_next n m ys next in let e = is_below_next n m y next in
    let a = sum_by-cons (is_below m) y ys in let b = sum_by-cons (is_below n) y ys in let c : times n (y ∷ ys) ≡ is_it n y + times n ys = sum_by-cons (is_it n) y ys in omega arith

below_none : (xs : List ℕ) → below 0 xs ≡ 0
below_none [] = refl
below_none (y ∷ ys) = let r = below_none ys in let e = is_below_no 0 y (omega arith) in let a = sum_by-cons (is_below 0) y ys in omega arith

below_all : (n : ℕ) (xs : List ℕ) → All (λ x. x < n) xs → below n xs ≡ length xs
below_all n [] all = refl
below_all n (y ∷ ys) all = let r = below_all n ys (All-tail (λ x. x < n) y ys all) in let e = is_below_yes n y (All-head (λ x. x < n) y ys all) in
    let a = sum_by-cons (is_below n) y ys in omega arith

below_few : (n : ℕ) (xs : List ℕ) → ((x : ℕ) → times x xs ≤ 1) → below n xs ≤ n
below_few zero xs once = let none = below_none xs in omega arith
below_few (suc n) xs once = let r = below_few n xs once in let e = below_next n (suc n) xs (omega arith) in let one = once n in omega arith

once_at_most : (n : ℕ) (xs : List ℕ) → HasEachOnce n xs → (x : ℕ) → times x xs ≤ 1
once_at_most n xs once x = dite (dec_lt x n) (λ less. let e = once.each x less in omega arith) (λ more. let e = once.others x (omega arith) in omega arith)

-- a part of such a list whose numbers are below m has at most m of them
pub once_few : (n m : ℕ) (xs part : List ℕ) → HasEachOnce n xs → ((x : ℕ) → times x part ≤ times x xs) → All (λ x. x < m) part → length part ≤ m
once_few n m xs part once within all = let few = below_few m part (λ x. let a = within x in let b = once_at_most n xs once x in omega arith) in
    let e = below_all m part all in omega arith

pub none_at_first : HasEachOnce 0 []
none_at_first = record { each = λ x h. absurd (omega arith); others = λ x h. refl }
