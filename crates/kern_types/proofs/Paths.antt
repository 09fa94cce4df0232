-- What every path assigns.
use Rattle.std.proofs.Common.{◌≡◌, ℕ, Bool, true, false, ◌||◌, ◌&&◌, List, [], ◌∷◌, ◌++◌, map, cond, bytes_eq, refl, sym, ap, ◌∙◌}
use Rattle.std.proofs.lemmas.List.Folds.{list_all-append, list_any-append}
use Rattle.kern_types.specs.NameLists.{is_among, common}
use Rattle.kern_types.specs.Paths.{Path, then_each, all_assign}
use Rattle.kern_types.proofs.Numbers.{named_same}

-- ---- tests

pub or_false : (a : Bool) → (a || false) ≡ a
or_false true = refl
or_false false = refl

or_true : (a : Bool) → (a || true) ≡ true
or_true true = refl
or_true false = refl

and_false : (a : Bool) → (a && false) ≡ false
and_false true = refl
and_false false = refl

pub and_true : (a : Bool) → (a && true) ≡ a
and_true true = refl
and_true false = refl

pub or_assoc : (a b c : Bool) → ((a || b) || c) ≡ (a || (b || c))
or_assoc true b c = refl
or_assoc false b c = refl

pub or_and : (a b c : Bool) → ((a || b) && (a || c)) ≡ (a || (b && c))
or_and true b c = refl
or_and false b c = refl

and_or : (a b c : Bool) → ((a || c) && (b || c)) ≡ ((a && b) || c)
and_or true true c = refl
and_or true false c = refl
and_or false true c = and_true c
and_or false false true = refl
and_or false false false = refl

-- ---- paths

module _ (name : List ℕ) where
  pub among_both : (first second : Path) → is_among (first ++ second) name ≡ (is_among first name || is_among second name)
  among_both first second = list_any-append (λ other. bytes_eq other name) first second

  after_one : (path : Path) (paths : List Path) → all_assign (map (λ next. path ++ next) paths) name ≡ (is_among path name || all_assign paths name)
  after_one path [] = sym (or_true (is_among path name))
  after_one path (next ∷ paths) =
      (λ i. among_both path next i && after_one path paths i)
      ∙ or_and (is_among path name) (is_among next name) (all_assign paths name)

  pub all_of_both : (first second : List Path) → all_assign (first ++ second) name ≡ (all_assign first name && all_assign second name)
  all_of_both first second = list_all-append (λ path. is_among path name) first second

  pub all_then : (first second : List Path) → all_assign (then_each first second) name ≡ (all_assign first name || all_assign second name)
  all_then [] second = refl
  all_then (path ∷ first) second =
      all_of_both (map (λ next. path ++ next) second) (then_each first second)
      ∙ (λ i. after_one path second i && all_then first second i)
      ∙ and_or (is_among path name) (all_assign first name) (all_assign second name)

  -- ---- both blocks

  pub among_common : (first second : List (List ℕ)) → is_among (common first second) name ≡ (is_among first name && is_among second name)
  among_common first [] = sym (and_false (is_among first name))
  among_common first (x ∷ second) = split (is_among first x) (bytes_eq x name) refl refl (among_common first second) where
    split : (p b : Bool) → is_among first x ≡ p → bytes_eq x name ≡ b → is_among (common first second) name ≡ (is_among first name && is_among second name)
        → is_among (cond p (x ∷ common first second) (common first second)) name ≡ (is_among first name && (bytes_eq x name || is_among second name))
    split true true is here more =
        let f : is_among first name ≡ true = ap (is_among first) (sym (named_same x name here)) ∙ is in
        ap (λ b. b || is_among (common first second) name) here ∙ sym (λ i. f i && (here i || is_among second name))
    split false true is here more =
        let f : is_among first name ≡ false = ap (is_among first) (sym (named_same x name here)) ∙ is in
        more ∙ ap (λ b. b && is_among second name) f ∙ sym (ap (λ b. b && (bytes_eq x name || is_among second name)) f)
    split true false is here more = ap (λ b. b || is_among (common first second) name) here ∙ more ∙ sym (ap (λ b. is_among first name && (b || is_among second name)) here)
    split false false is here more = more ∙ sym (ap (λ b. is_among first name && (b || is_among second name)) here)
