-- What a test keeps that passes at places in turn.
use Rattle.std.proofs.Common.{◌≡◌, ℕ, zero, suc, ◌+◌, ◌<◌, ◌≤◌, ◌↔◌, Bool, true, false, List, [], ◌∷◌, length, get_or, take, drop, refl, ◌∙◌, ap, arith}
use Rattle.std.specs.List.{filter}
use Rattle.std.proofs.lemmas.Bool.{false_from_ne_true, cond-true, cond-false}
use Rattle.order_laws.specs.OrderLaws.{TestsKeepSpans}

-- the elements that pass are those at so many places from the first on
abbrev PassAt : {X : Type 0} → (X → Bool) → List X → ℕ → ℕ → Type 0
PassAt {X} test xs first len =
    (k : ℕ) (d : X) → k < length xs → (test (get_or xs k d) ≡ true) ↔ ((first ≤ k) × (k < first + len))

pass_tail : {X : Type 0} (test : X → Bool) (x : X) (xs : List X) (a b c d : ℕ) → ((k : ℕ) → ((a ≤ suc k) × (suc k < a + b)) ↔ ((c ≤ k) × (k < c + d))) → PassAt test (x ∷ xs) a b → PassAt test xs c d
pass_tail test x xs a b c d same h k e within =
    let here = h (suc k) e (omega arith) in
    (λ p. (same k).0 (here.0 p), λ r. here.1 ((same k).1 r))

pub tests_keep_spans : {X : Type 0} → TestsKeepSpans X
tests_keep_spans test [] zero zero within h = refl
tests_keep_spans test [] zero (suc len) within h = absurd (omega arith)
tests_keep_spans test [] (suc first) len within h = absurd (omega arith)
tests_keep_spans test (x ∷ xs) zero zero within h =
    let rest = tests_keep_spans test xs zero zero (omega arith) (pass_tail test x xs zero zero zero zero (λ k. (λ r. absurd (let less = r.1 in omega arith), λ r. absurd (let less = r.1 in omega arith))) h) in
    let fails : test x ≡ false = false_from_ne_true (test x) (λ e. let less = ((h 0 x (omega arith)).0 e).1 in omega arith) in
    cond-false (test x) (x ∷ filter test xs) (filter test xs) fails ∙ rest
tests_keep_spans test (x ∷ xs) zero (suc len) within h =
    let rest = tests_keep_spans test xs zero len (omega arith) (pass_tail test x xs zero (suc len) zero len (λ k. (λ r. (omega arith, let less = r.1 in omega arith), λ r. (omega arith, let less = r.1 in omega arith))) h) in
    let holds : test x ≡ true = (h 0 x (omega arith)).1 (omega arith, omega arith) in
    cond-true (test x) (x ∷ filter test xs) (filter test xs) holds ∙ ap (λ ys. x ∷ ys) rest
tests_keep_spans test (x ∷ xs) (suc first) len within h =
    let rest = tests_keep_spans test xs first len (omega arith) (pass_tail test x xs (suc first) len first len (λ k. (λ r. (let least = r.0 in omega arith, let less = r.1 in omega arith), λ r. (let least = r.0 in omega arith, let less = r.1 in omega arith))) h) in
    let fails : test x ≡ false = false_from_ne_true (test x) (λ e. let least = ((h 0 x (omega arith)).0 e).0 in omega arith) in
    cond-false (test x) (x ∷ filter test xs) (filter test xs) fails ∙ rest
