-- The first fault by id, and the least of all faults.
use Rattle.std.proofs.Common.{◌≡◌, ◌<◌, ◌≤◌, zero, suc, List, [], ◌∷◌, Option, Some, None, ◌⊎◌, inl, inr, refl, ◌∙◌, ap, arith}
use Rattle.std.specs.Prelude.{option_map}
use Rattle.std.specs.List.{Contains, filter_map, cons_option}
use Rattle.order_laws.specs.Order.{first_some}
use Rattle.pf_model.specs.Particle.{Particle}
use Rattle.pf_model.specs.Particles.{AreInIdOrder}
use Rattle.run_model.specs.declared.fault.Fault.{Fault}
use Rattle.run_model.specs.Force.{first_given}

-- ---- elements

pub contains_first : {X : Type 0} (y : X) (ys : List X) (x : X) → y ≡ x → Contains (y ∷ ys) x
contains_first y ys x e = (0, omega arith, e)

pub contains_later : {X : Type 0} (y : X) (ys : List X) (x : X) → Contains ys x → Contains (y ∷ ys) x
contains_later y ys x (k, within, e) = (suc k, omega arith, e)

pub contains_cases : {X : Type 0} (y : X) (ys : List X) (x : X) → Contains (y ∷ ys) x → (y ≡ x) ⊎ Contains ys x
contains_cases y ys x (zero, within, e) = inl e
contains_cases y ys x (suc k, within, e) = inr (k, omega arith, e)

-- ---- what a function gives of the elements

option_cases : {Y : Type 0} (o : Option Y) (ys : List Y) (y : Y) → Contains (cons_option o ys) y → (o ≡ Some y) ⊎ Contains ys y
option_cases None ys y c = inr c
option_cases (Some z) ys y c = elim (contains_cases z ys y c) [ inl e ↦ inl (ap Some e) | inr i ↦ inr i ]

option_first : {Y : Type 0} (o : Option Y) (ys : List Y) (y : Y) → o ≡ Some y → Contains (cons_option o ys) y
option_first None ys y e = cc
option_first (Some z) ys y e = contains_first z ys y (let same : z ≡ y = cc in same)

option_later : {Y : Type 0} (o : Option Y) (ys : List Y) (y : Y) → Contains ys y → Contains (cons_option o ys) y
option_later None ys y c = c
option_later (Some z) ys y c = contains_later z ys y c

module _ {X Y : Type 0} (f : X → Option Y) where
  pub given_from : (xs : List X) (y : Y) → Contains (filter_map f xs) y → (x : X) × Contains xs x × (f x ≡ Some y)
  given_from [] y (k, within, e) = absurd (omega arith)
  given_from (x ∷ xs) y c =
      elim (option_cases (f x) (filter_map f xs) y c) [
        | inl e ↦ (x, contains_first x xs x refl, e)
        | inr i ↦ let rest = given_from xs y i in (rest.0, contains_later x xs rest.0 rest.1, rest.2)
      ]

  pub given_in : (xs : List X) (x : X) (y : Y) → Contains xs x → f x ≡ Some y → Contains (filter_map f xs) y
  given_in [] x y (k, within, e) is = absurd (omega arith)
  given_in (v ∷ vs) x y c is =
      elim (contains_cases v vs x c) [
        | inl e ↦ option_first (f v) (filter_map f vs) y (ap f e ∙ is)
        | inr i ↦ option_later (f v) (filter_map f vs) y (given_in vs x y i is)
      ]

none_first : {Y : Type 0} (o p : Option Y) → ((y : Y) → o ≡ Some y → ⊥) → p ≡ None → first_some o p ≡ None
none_first None p not e = e
none_first (Some y) p not e = absurd (not y refl)

pub none_given : {X Y : Type 0} (f : X → Option Y) (xs : List X) → ((x : X) (y : Y) → Contains xs x → f x ≡ Some y → ⊥) → first_given f xs ≡ None
none_given f [] not = refl
none_given f (x ∷ xs) not =
    none_first (f x) (first_given f xs) (λ y e. not x y (contains_first x xs x refl) e) (none_given f xs (λ v y c e. not v y (contains_later x xs v c) e))

-- ---- the least by id

first_below : (p : Particle) (ps : List Particle) (q : Particle) → AreInIdOrder (p ∷ ps) → Contains ps q → p.id < q.id
first_below p ps q up (k, within, e) =
    let less = up 0 (suc k) q (omega arith) (omega arith) in
    let same = ap (λ (r : Particle). r.id) e in
    omega (arith, less, same)

rest_ascends : (p : Particle) (ps : List Particle) → AreInIdOrder (p ∷ ps) → AreInIdOrder ps
rest_ascends p ps up i j d less within = up (suc i) (suc j) d (omega arith) (omega arith)

module _ (f : Particle → Option Fault) (named : (p : Particle) (y : Fault) → f p ≡ Some y → y.id ≡ p.id) where
  from_rest : (p : Particle) (ps : List Particle) (x : Particle) (y : Fault) → f p ≡ None → f x ≡ Some y → Contains (p ∷ ps) x → Contains ps x
  from_rest p ps x y none is c = elim (contains_cases p ps x c) [ inl e ↦ (let same = ap f e in cc) | inr i ↦ i ]

  least_first : (p : Particle) (ps : List Particle) (x : Particle) (y z : Fault) → AreInIdOrder (p ∷ ps) → Contains (p ∷ ps) x → f x ≡ Some y → f p ≡ Some z → y.id ≤ z.id → z ≡ y
  least_first p ps x y z up c is here least =
      elim (contains_cases p ps x c) [
        | inl e ↦ (let same = ap f e in cc)
        | inr i ↦
            let more = first_below p ps x up i in
            let of_x = named x y is in
            let of_p = named p z here in
            absurd (omega arith)
      ]

  first_from : (p : Particle) (ps : List Particle) (y : Fault) (o : Option Fault) → f p ≡ o → (o ≡ None → first_given f ps ≡ Some y) → ((z : Fault) → o ≡ Some z → z ≡ y) → first_some o (first_given f ps) ≡ Some y
  first_from p ps y None e rest here = rest refl
  first_from p ps y (Some z) e rest here = ap Some (here z refl)

  -- in the order of their ids, the first that has a fault has the least
  pub least_given : (ps : List Particle) (x : Particle) (y : Fault) → AreInIdOrder ps → Contains ps x → f x ≡ Some y → ((q : Particle) (z : Fault) → Contains ps q → f q ≡ Some z → y.id ≤ z.id) → first_given f ps ≡ Some y
  least_given [] x y h (k, within, e) is least = absurd (omega arith)
  least_given (p ∷ ps) x y h c is least =
      first_from p ps y (f p) refl
      (λ none. least_given ps x y (rest_ascends p ps h) (from_rest p ps x y none is c) is (λ q z i e. least q z (contains_later p ps q i) e))
      (λ z here. least_first p ps x y z h c is here (least p z (contains_first p ps p refl) here))

-- ---- as stops

pub first_given-option_map : {X Y Z : Type 0} (g : Y → Z) (f : X → Option Y) (xs : List X) → first_given (λ x. option_map g (f x)) xs ≡ option_map g (first_given f xs)
first_given-option_map g f [] = refl
first_given-option_map g f (x ∷ xs) = ap (first_some (option_map g (f x))) (first_given-option_map g f xs) ∙ map_first g (f x) (first_given f xs)
  where
    map_first : {Y Z : Type 0} (g : Y → Z) (o p : Option Y) → first_some (option_map g o) (option_map g p) ≡ option_map g (first_some o p)
    map_first g None p = refl
    map_first g (Some y) p = refl
