-- The numbers of names, and the values that stand by number.
use Rattle.std.proofs.Common.{◌≡◌, ◌≢◌, ℕ, zero, suc, ◌+◌, ◌<◌, ◌≤◌, Bool, true, false, not, cond, List, [], ◌∷◌, ◌++◌, ◌&&◌, ℤ, length, map, get_or, set, Option, Some, None, bytes_eq, refl, sym, ap, ◌∙◌, subst, arith, append_assoc, length-append, nat_lt}
use Rattle.std.specs.Prelude.{slice_get, unwrap_or}
use Rattle.std.specs.List.{position_or_len, AllByRecursion}
use Rattle.std.proofs.lemmas.Bool.Decides.{nat_tests}
use Rattle.std.proofs.lemmas.List.Sums.{prefix_len-le-length}
use Rattle.std.proofs.lemmas.Slice.Eq.{bytes_eq-Decides}
use mathlib.Core.Path.{fun_ext}
use Rattle.pf_model.specs.Particle.{Particle}
use Rattle.pf_model.specs.Totals.{Source}
use Rattle.pf_model.specs.declared.field.Field.{Field}
use Rattle.pf_model.specs.Fields.{along_each_axis, field_of_particle, field_of_source}
use Rattle.kern_tree.specs.declared.kernel.Decl.{Decl}
use Rattle.kern_tree.specs.declared.kernel.DeclKind.{DeclKind}
use Rattle.kern_tree.specs.declared.kernel.DeclKind.TheVariants as declared_as
use Rattle.kern_tree.specs.declared.kernel.Kind.{Kind}
use Rattle.kern_types.specs.Names.{declaration}
use Rattle.kern_meaning.specs.declared.value.Value.{Value}
use Rattle.kern_meaning.specs.declared.variable.Variable.{Variable}
use Rattle.kern_meaning.specs.declared.variable.Variable.TheVariants as variables
use Rattle.kern_meaning.specs.declared.link.Link.TheVariants as links
use Rattle.kern_meaning.specs.Links.{link_of, value_by}
use Rattle.kern_meaning.specs.Names.{Known, known_at_start, with_value, value_if_declared, declared_value, variable_value, fits, field_named, particle_has, source_has}
use Rattle.kern_meaning.specs.Values.{value_of_kind}
use Rattle.kern_meaning.specs.Variables.{resolved, resolved_field, variable_of, value_of_variable, value_if_any, started_at}
use Rattle.kern_meaning.specs.Walks.{number_of, known_by, value_at, value_or, HasPlace}

-- ---- numbers

picked : (b : Bool) (k n : ℕ) → nat_lt k n ≡ b → k ≤ n → unwrap_or (cond b (Some k) None) n ≡ k
picked true k n e h = refl
picked false k n e h = grind (arith, nat_tests)

pub number_of-is : (names : List (List ℕ)) (name : List ℕ) → number_of names name ≡ position_or_len (λ other. bytes_eq other name) names
number_of-is names name = picked _ (position_or_len (λ other. bytes_eq other name) names) (length names) refl (prefix_len-le-length (λ other. not (bytes_eq other name)) names)

module _ {X : Type 0} (p : X → Bool) where
  in_front : (before after : List X) (x : X) → p x ≡ true → position_or_len p (before ++ x ∷ after) ≤ length before
  in_front [] after x e = omega (arith, ap (λ b. cond (not b) (1 + position_or_len p after) 0) e)
  in_front (y ∷ before) after x e = either (p y) (in_front before after x e) where
    either : (b : Bool) → position_or_len p (before ++ x ∷ after) ≤ length before → cond (not b) (1 + position_or_len p (before ++ x ∷ after)) 0 ≤ length (y ∷ before)
    either true h = omega arith
    either false h = omega (arith, h)

  passes : (xs : List X) (d : X) → position_or_len p xs < length xs → p (get_or xs (position_or_len p xs) d) ≡ true
  passes [] d h = absurd (let no : ⊥ = omega (arith, h) in no)
  passes (x ∷ xs) d h = either (p x) refl h (passes xs d) where
    either : (b : Bool) → p x ≡ b → cond (not b) (1 + position_or_len p xs) 0 < length (x ∷ xs) → (position_or_len p xs < length xs → p (get_or xs (position_or_len p xs) d) ≡ true)
        → p (get_or (x ∷ xs) (cond (not b) (1 + position_or_len p xs) 0) d) ≡ true
    either true e h more = e
    either false e h more =
        let next : 1 + position_or_len p xs ≡ suc (position_or_len p xs) = omega arith in
        ap (λ n. p (get_or (x ∷ xs) n d)) next ∙ more (let l : position_or_len p xs < length xs = omega (arith, h) in l)

-- each name has its number
pub placed : (before names : List (List ℕ)) → AllByRecursion (HasPlace (before ++ names)) names
placed before [] = tt
placed before (name ∷ names) =
    let here = in_front (λ other. bytes_eq other name) before names name ((bytes_eq-Decides name name).1 refl) in (
      let l : number_of (before ++ name ∷ names) name < length (before ++ name ∷ names) = omega (arith, here, number_of-is (before ++ name ∷ names) name, length-append before (name ∷ names)) in l,
      subst (λ (all : List (List ℕ)). AllByRecursion (HasPlace all) names) (append_assoc before (name ∷ []) names) (placed (before ++ name ∷ []) names),
    )

-- ---- assignment

got_same : {X : Type 0} (xs : List X) (k : ℕ) (x : X) → k < length xs → slice_get (set xs k x) k ≡ Some x
got_same [] k x h = absurd (let no : ⊥ = omega (arith, h) in no)
got_same (y ∷ xs) zero x h = refl
got_same (y ∷ xs) (suc k) x h = got_same xs k x (omega (arith, h))

got_other : {X : Type 0} (xs : List X) (k j : ℕ) (x : X) → j ≢ k → slice_get (set xs k x) j ≡ slice_get xs j
got_other [] k j x h = refl
got_other (y ∷ xs) zero zero x h = absurd (h refl)
got_other (y ∷ xs) zero (suc j) x h = refl
got_other (y ∷ xs) (suc k) zero x h = refl
got_other (y ∷ xs) (suc k) (suc j) x h = got_other xs k j x (λ e. h (ap (λ n. suc n) e))

module _ (start : Known) (names : List (List ℕ)) (values : List (Option Value)) (name : List ℕ) (v : Value) (same : length values ≡ length names) (here : number_of names name < length names) where
  apart : (other : List ℕ) → bytes_eq name other ≡ false → number_of names other ≢ number_of names name
  apart other e f =
      let first = number_of-is names name in
      let second = number_of-is names other in
      let one : bytes_eq (get_or names (position_or_len (λ x. bytes_eq x name) names) []) name ≡ true = passes (λ x. bytes_eq x name) names [] (omega (arith, here, first)) in
      let two : bytes_eq (get_or names (position_or_len (λ x. bytes_eq x other) names) []) other ≡ true = passes (λ x. bytes_eq x other) names [] (omega (arith, here, first, second, f)) in
      let place : position_or_len (λ x. bytes_eq x other) names ≡ position_or_len (λ x. bytes_eq x name) names = sym second ∙ f ∙ first in
      let is : name ≡ other = sym ((bytes_eq-Decides _ name).0 one) ∙ ap (λ n. get_or names n []) (sym place) ∙ (bytes_eq-Decides _ other).0 two in
      let yes : bytes_eq name other ≡ true = (bytes_eq-Decides name other).1 is in
      let no : ⊥ = cc in no

  assigned_at : (other : List ℕ) (b : Bool) → bytes_eq name other ≡ b → known_by start names (set values (number_of names name) (Some v)) other ≡ cond b (Some v) (known_by start names values other)
  assigned_at other true e =
      ap (λ n. value_or (start other) (slice_get (set values (number_of names name) (Some v)) (number_of names n))) (sym ((bytes_eq-Decides name other).0 e))
      ∙ ap (value_or (start other)) (got_same values (number_of names name) (Some v) (omega (arith, here, same)))
  assigned_at other false e = ap (value_or (start other)) (got_other values (number_of names name) (number_of names other) (Some v) (apart other e))

  pub assigned_known : known_by start names (set values (number_of names name) (Some v)) ≡ with_value (known_by start names values) name v
  assigned_known = fun_ext (λ other. assigned_at other (bytes_eq name other) refl)

-- ---- the start

module _ (i : Particle) (j : Source) where
  field_value : (make : Field → Kind → ℕ → Variable) (kind : Kind) (scale : ℕ) (has : Field → Bool) (parts : Field → List ℤ) → ((of : Field) (k : Kind) (s : ℕ) → value_of_variable i j (make of k s) ≡ Some (value_of_kind k s (along_each_axis (parts of))))
      → (of : Option Field) → value_of_variable i j (resolved_field make kind scale has of) ≡ variable_value kind scale has parts of
  field_value make kind scale has parts is None = refl
  field_value make kind scale has parts is (Some of) = either (has of && fits kind scale of) where
    either : (b : Bool) → value_of_variable i j (cond b (make of kind scale) variables.Nothing) ≡ cond b (Some (value_of_kind kind scale (along_each_axis (parts of)))) None
    either true = is of kind scale
    either false = refl

  resolved_value : (what : DeclKind) → value_of_variable i j (resolved what) ≡ declared_value i j what
  resolved_value (declared_as.Epi kind scale name) = field_value (λ of k s. variables.Particle of k s) kind scale particle_has (λ of. field_of_particle of i) (λ of k s. refl) (field_named name)
  resolved_value (declared_as.Epj kind scale name) = field_value (λ of k s. variables.Item of k s) kind scale source_has (λ of. field_of_source of j) (λ of k s. refl) (field_named name)
  resolved_value (declared_as.Param scale mantissa) = refl
  resolved_value (declared_as.Force kind scale combine) = refl

  declared_is : (decl : Option Decl) → value_of_variable i j (variable_of decl) ≡ value_if_declared i j decl
  declared_is None = refl
  declared_is (Some decl) = resolved_value decl.what

  got_in : {X : Type 0} (xs : List X) (k : ℕ) (d : X) → k < length xs → slice_get xs k ≡ Some (get_or xs k d)
  got_in [] k d h = absurd (let no : ⊥ = omega (arith, h) in no)
  got_in (x ∷ xs) zero d h = refl
  got_in (x ∷ xs) (suc k) d h = got_in xs k d (omega (arith, h))

  got_out : {X : Type 0} (xs : List X) (k : ℕ) → length xs ≤ k → slice_get xs k ≡ None
  got_out [] k h = refl
  got_out (x ∷ xs) zero h = absurd (let no : ⊥ = omega (arith, h) in no)
  got_out (x ∷ xs) (suc k) h = got_out xs k (omega (arith, h))

  got_map : {X Y : Type 0} (f : X → Y) (xs : List X) (k : ℕ) (d : X) → k < length xs → slice_get (map f xs) k ≡ Some (f (get_or xs k d))
  got_map f [] k d h = absurd (let no : ⊥ = omega (arith, h) in no)
  got_map f (x ∷ xs) zero d h = refl
  got_map f (x ∷ xs) (suc k) d h = got_map f xs k d (omega (arith, h))

  module _ (decls : List Decl) (names : List (List ℕ)) (values : List (Option Value)) (same : length values ≡ length names) where
    -- values that are those of what the names are declared as, place by place, are those of a pair's start
    module _ (variables : List Variable) (are : variables ≡ map (λ (name : List ℕ). variable_of (declaration decls name)) names) (each : (k : ℕ) → k < length values → get_or values k None ≡ started_at i j variables k) where
      at_number : (name : List ℕ) (b : Bool) → nat_lt (number_of names name) (length values) ≡ b → known_by (known_at_start decls i j) names values name ≡ known_at_start decls i j name
      at_number name true e =
          let n : ℕ = number_of names name in
          let h : n < length values = grind (arith, nat_tests) in
          let h' : n < length names = omega (arith, h, same) in
          let first = number_of-is names name in
          let is : get_or names n [] ≡ name =
          ap (λ k. get_or names k []) first ∙ (bytes_eq-Decides _ name).0 (passes (λ x. bytes_eq x name) names [] (omega (arith, h', first))) in
          ap (value_or (known_at_start decls i j name)) (got_in values n None h)
          ∙ each n h
          ∙ ap (λ vs. value_if_any i j (slice_get vs n)) are
          ∙ ap (value_if_any i j) (got_map (λ (x : List ℕ). variable_of (declaration decls x)) names n [] h')
          ∙ declared_is (declaration decls (get_or names n []))
          ∙ ap (λ x. value_if_declared i j (declaration decls x)) is
      at_number name false e =
          let h : length values ≤ number_of names name = grind (arith, nat_tests) in
          ap (value_or (known_at_start decls i j name)) (got_out values (number_of names name) h)

      pub start_known : known_by (known_at_start decls i j) names values ≡ known_at_start decls i j
      start_known = fun_ext (λ name. at_number name (nat_lt (number_of names name) (length values)) refl)

    -- a name's link gives its value
    module _ (name : List ℕ) where
      linked : (b : Bool) → nat_lt (number_of names name) (length names) ≡ b
          → value_by i j values (cond b (links.Assigned (number_of names name)) (links.Declared (variable_of (declaration decls name))) ∷ []) ≡ known_by (known_at_start decls i j) names values name
      linked true e =
          let h : number_of names name < length names = grind (arith, nat_tests) in
          let got = got_in values (number_of names name) None (omega (arith, h, same)) in
          ap value_at got ∙ sym (ap (value_or (known_at_start decls i j name)) got)
      linked false e =
          let h : length names ≤ number_of names name = grind (arith, nat_tests) in
          declared_is (declaration decls name) ∙ sym (ap (value_or (known_at_start decls i j name)) (got_out values (number_of names name) (omega (arith, h, same))))

      pub link_known : value_by i j values (link_of names decls name ∷ []) ≡ known_by (known_at_start decls i j) names values name
      link_known = linked (nat_lt (number_of names name) (length names)) refl
