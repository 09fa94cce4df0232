-- The pairs of a particle, entry after entry, and what they give.
use Rattle.std.proofs.Common.{◌≡◌, ℕ, zero, suc, ◌+◌, ◌<◌, ℤ, pos, Bool, true, false, List, [], ◌∷◌, ◌++◌, length, get_or, drop, map, Option, Some, None, refl, sym, ap, ◌∙◌, add-one, arith, append_assoc}
use Rattle.std.specs.Prelude.{slice_get, slice_index_or}
use Rattle.std.specs.Prelude.{if◌then◌else◌}
use Rattle.std.specs.List.{filter_map, flat_map, zip, enumerate_from, list_all}
use Rattle.std.specs.Str.{bytes_eq}
use Rattle.std.proofs.Math.Seq.{drop-cons}
use Rattle.std.proofs.lemmas.List.{append-nil, drop_all, map-append}
use Rattle.std.proofs.lemmas.List.Concat.{flat_map-append}
use Rattle.pf_geom.specs.declared.edge.Edge.{Edge}
use Rattle.pf_model.specs.declared.entry.Entry.{Entry}
use Rattle.order_laws.specs.Order.{first_some}
use Rattle.pf_model.specs.Particle.{Particle}
use Rattle.std.proofs.lemmas.Simd.{map-map}
use Rattle.kern_tree.specs.declared.kernel.Kernel.{Kernel}
use Rattle.kern_tree.specs.declared.kernel.Combine.{Combine}
use Rattle.kern_tree.specs.declared.kernel.Kind.{Kind}
use Rattle.kern_tree.specs.declared.kernel.Kind.TheVariants.{Num, Vec3}
use Rattle.kern_types.specs.declared.force_var.ForceVar.{ForceVar}
use Rattle.kern_meaning.specs.declared.value.Value.{Value}
use Rattle.kern_meaning.specs.Pair.{OrPairStop, given_to}
use Rattle.kern_meaning.specs.Prepared.{given_at}
use Rattle.kern_meaning.specs.Values.{components}
use Rattle.pf_num.specs.Exact.{is_i64}
use Rattle.run_model.specs.declared.fault.What.{What}
use Rattle.run_model.specs.declared.fault.What.TheVariants as what
use Rattle.run_model.specs.Force.{first_given, pair_fault, pairs_of, is_other, contributions, combined, axes_of, force_over, sum_fault, force_fault}
use Rattle.kern_types.specs.Declarations.{forces_of}
use Rattle.plain_run.specs.declared.forces.ForceStop.{ForceStop}
use Rattle.plain_run.specs.declared.forces.ForceStop.TheVariants.{Fault, Memory}
use Rattle.plain_run.specs.Forces.{IsForceStop, IsSumStop, gives_to, slot_numbers, pairs_with, numbers_along, axis_numbers, force_of}
use Rattle.plain_run.proofs.StepLemmas.{drop_next}

abbrev APair : Type 0
APair = OrPairStop (List (Option Value))

-- ---- the first that is given

pub first_given-append : {X Y : Type 0} (f : X → Option Y) (xs ys : List X) → first_given f (xs ++ ys) ≡ first_some (first_given f xs) (first_given f ys)
first_given-append f [] ys = refl
first_given-append f (x ∷ xs) ys = ap (first_some (f x)) (first_given-append f xs ys) ∙ grouped (f x) (first_given f xs) (first_given f ys)
  where
    grouped : {Y : Type 0} (a b c : Option Y) → first_some a (first_some b c) ≡ first_some (first_some a b) c
    grouped (Some a) b c = refl
    grouped None b c = refl

-- ---- one entry more

module _ (edge : Edge) (kernel : Kernel) (i : Particle) where
  pairs_more : (e : Entry) (rest : List Entry) (b : Bool) → is_other i e ≡ b → pairs_of edge kernel (e ∷ rest) i ≡ pairs_with edge kernel i e ++ pairs_of edge kernel rest i
  unfolding pairs_of
  pairs_more e rest true h = rw h refl
  pairs_more e rest false h = rw h refl

  pub pairs_next : (entries : List Entry) (k : ℕ) (e : Entry) → k < length entries → e ≡ get_or entries k e
      → pairs_of edge kernel (drop k entries) i ≡ pairs_with edge kernel i e ++ pairs_of edge kernel (drop (k + 1) entries) i
  pairs_next entries k e within here = rw (add-one, drop-cons entries k e within, ← here) (pairs_more e (drop (suc k) entries) (is_other i e) refl)

  pub no_pairs : (entries : List Entry) (k : ℕ) → k ≡ length entries → pairs_of edge kernel (drop k entries) i ≡ []
  unfolding pairs_of
  no_pairs entries k e = rw (drop_all k entries (omega arith)) refl

  -- the fault of the first pair, or that of the others
  pub fault_next : (entries : List Entry) (k : ℕ) (e : Entry) → k < length entries → e ≡ get_or entries k e
      → first_given pair_fault (pairs_of edge kernel (drop k entries) i)
      ≡ first_some (first_given pair_fault (pairs_with edge kernel i e)) (first_given pair_fault (pairs_of edge kernel (drop (k + 1) entries) i))
  fault_next entries k e within here = ap (first_given pair_fault) (pairs_next entries k e within here) ∙ first_given-append pair_fault (pairs_with edge kernel i e) (pairs_of edge kernel (drop (k + 1) entries) i)

  -- what the first pair gives, and what the others give
  module _ (v : ForceVar) where
    abbrev given_by : List APair → List (List ℤ)
    given_by pairs = map components (flat_map (contributions kernel v) pairs)

    pub given_next : (entries : List Entry) (k : ℕ) (e : Entry) (values new whole : List (List ℤ)) → k < length entries → e ≡ get_or entries k e
        → new ≡ values ++ given_by (pairs_with edge kernel i e) → values ++ given_by (pairs_of edge kernel (drop k entries) i) ≡ whole
        → new ++ given_by (pairs_of edge kernel (drop (k + 1) entries) i) ≡ whole
    given_next entries k e values new whole within here is so_far =
        let one = pairs_with edge kernel i e in
        let rest = pairs_of edge kernel (drop (k + 1) entries) i in
        let both : given_by (one ++ rest) ≡ given_by one ++ given_by rest =
        ap (map components) (flat_map-append (contributions kernel v) one rest) ∙ map-append components (flat_map (contributions kernel v) one) (flat_map (contributions kernel v) rest) in
        ap (λ l. l ++ given_by rest) is ∙ append_assoc values (given_by one) (given_by rest) ∙ ap (λ l. values ++ l) (sym both ∙ ap given_by (sym (pairs_next entries k e within here))) ∙ so_far

    pub given_end : (entries : List Entry) (k : ℕ) (values whole : List (List ℤ)) → k ≡ length entries
        → values ++ given_by (pairs_of edge kernel (drop k entries) i) ≡ whole → values ≡ whole
    given_end entries k values whole e so_far = sym (append-nil values) ∙ ap (λ (pairs : List APair). values ++ given_by pairs) (sym (no_pairs entries k e)) ∙ so_far

-- ---- one `+=` more

module _ (name : List ℕ) where
  abbrev given_in : List (List ℕ) → List (Option Value) → List (List ℤ)
  given_in targets given = map components (filter_map (given_to name) (zip targets given))

  slot_first : (x : List ℕ) (g : Option Value) (targets : List (List ℕ)) (given : List (Option Value)) (b : Bool) → bytes_eq x name ≡ b
      → given_in (x ∷ targets) (g ∷ given) ≡ slot_numbers b (given_at (g ∷ given) 0) ++ given_in targets given
  slot_first x None targets given true e = rw e refl
  slot_first x (Some value) targets given true e = rw e refl
  slot_first x g targets given false e = rw e refl

  slot_step : (targets : List (List ℕ)) (given : List (Option Value)) (n : ℕ) → n < length given
      → given_in (drop n targets) (drop n given) ≡ slot_numbers (gives_to (slice_get targets n) name) (given_at given n) ++ given_in (drop (suc n) targets) (drop (suc n) given)
  slot_step targets [] n h = absurd (omega (arith, h))
  slot_step [] (g ∷ given) zero h = refl
  slot_step (x ∷ targets) (g ∷ given) zero h = slot_first x g targets given (bytes_eq x name) refl
  slot_step [] (g ∷ given) (suc n) h = refl
  slot_step (x ∷ targets) (g ∷ given) (suc n) h = slot_step targets given n (omega (arith, h))

  pub slot_next : (targets : List (List ℕ)) (given : List (Option Value)) (n : ℕ) (values new whole : List (List ℤ)) (gives : Bool) (numbers : Option (List ℤ)) → n < length given
      → gives ≡ gives_to (slice_get targets n) name → numbers ≡ given_at given n → new ≡ values ++ slot_numbers gives numbers
      → values ++ given_in (drop n targets) (drop n given) ≡ whole → new ++ given_in (drop (n + 1) targets) (drop (n + 1) given) ≡ whole
  slot_next targets given n values new whole gives numbers h e f g so_far =
      let rest = given_in (drop (suc n) targets) (drop (suc n) given) in
      let same : slot_numbers gives numbers ≡ slot_numbers (gives_to (slice_get targets n) name) (given_at given n) = λ i. slot_numbers (e i) (f i) in
      rw add-one
      (ap (λ l. l ++ rest) (g ∙ ap (λ l. values ++ l) same)
      ∙ append_assoc values (slot_numbers (gives_to (slice_get targets n) name) (given_at given n)) rest ∙ ap (λ l. values ++ l) (sym (slot_step targets given n h)) ∙ so_far)

  none_in : (targets : List (List ℕ)) → given_in targets [] ≡ []
  none_in [] = refl
  none_in (x ∷ targets) = refl

  pub slot_end : (targets : List (List ℕ)) (given : List (Option Value)) (n : ℕ) (values whole : List (List ℤ)) → n ≡ length given
      → values ++ given_in (drop n targets) (drop n given) ≡ whole → values ≡ whole
  slot_end targets given n values whole e so_far =
      sym (append-nil values) ∙ ap (λ l. values ++ l) (sym (none_in (drop n targets)) ∙ ap (given_in (drop n targets)) (sym (drop_all n given (omega (arith, e))))) ∙ so_far

-- ---- a FORCE variable from what it was given

along_one : (combine : Combine) (values : List Value) (axis : ℕ) → numbers_along combine (map components values) axis ≡ combined combine (map (λ value. slice_index_or (components value) axis (pos 0)) values)
along_one combine values axis = ap (combined combine) (map-map (λ v. slice_index_or v axis (pos 0)) components values)

force_by : (kind : Kind) (combine : Combine) (values : List Value)
    → axis_numbers kind (numbers_along combine (map components values) 0) (numbers_along combine (map components values) 1) (numbers_along combine (map components values) 2)
    ≡ map (λ axis. combined combine (map (λ value. slice_index_or (components value) axis (pos 0)) values)) (axes_of kind)
force_by Num combine values = ap (λ x. x ∷ []) (along_one combine values 0)
force_by Vec3 combine values = λ i. along_one combine values 0 i ∷ along_one combine values 1 i ∷ along_one combine values 2 i ∷ []

pub force_is : (kernel : Kernel) (pairs : List APair) (v : ForceVar) (values : List (List ℤ)) → values ≡ map components (flat_map (contributions kernel v) pairs) → force_of v values ≡ force_over kernel pairs v
force_is kernel pairs v values is = ap (force_of v) is ∙ force_by v.kind v.combine (flat_map (contributions kernel v) pairs)

-- ---- one FORCE variable more

module _ (kernel : Kernel) (pairs : List APair) where
  pub row_next : (forces : List ForceVar) (k : ℕ) (v : ForceVar) (row new whole : List ℤ) → k < length forces → v ≡ get_or forces k v → new ≡ row ++ force_over kernel pairs v
      → row ++ flat_map (force_over kernel pairs) (drop k forces) ≡ whole → new ++ flat_map (force_over kernel pairs) (drop (k + 1) forces) ≡ whole
  row_next forces k v row new whole within here is so_far =
      let rest = flat_map (force_over kernel pairs) (drop (k + 1) forces) in
      ap (λ l. l ++ rest) is ∙ append_assoc row (force_over kernel pairs v) rest ∙ ap (λ l. row ++ l) (sym (ap (flat_map (force_over kernel pairs)) (drop_next forces k v within here))) ∙ so_far

  pub row_end : (forces : List ForceVar) (k : ℕ) (row whole : List ℤ) → k ≡ length forces → row ++ flat_map (force_over kernel pairs) (drop k forces) ≡ whole → row ≡ whole
  row_end forces k row whole e so_far =
      sym (append-nil row) ∙ ap (λ l. row ++ l) (sym (ap (flat_map (force_over kernel pairs)) (drop_all k forces (omega arith)))) ∙ so_far

  sum_by_fit : (number : ℕ) (v : ForceVar) (b : Bool) → list_all is_i64 (force_over kernel pairs v) ≡ b → sum_fault kernel pairs (number, v) ≡ (if b then None else Some (what.Sum number))
  sum_by_fit number v b e = ap (λ c. if c then None else Some (what.Sum number)) e

  -- the fault of the first sum, or that of the others
  sums_next : (forces : List ForceVar) (k : ℕ) (v : ForceVar) → k < length forces → v ≡ get_or forces k v
      → first_given (sum_fault kernel pairs) (enumerate_from (k + 1) (drop k forces))
      ≡ first_some (sum_fault kernel pairs (k + 1, v)) (first_given (sum_fault kernel pairs) (enumerate_from (k + 1 + 1) (drop (k + 1) forces)))
  sums_next forces k v within here = ap (λ l. first_given (sum_fault kernel pairs) (enumerate_from (k + 1) l)) (drop_next forces k v within here)

  pub sums_fit : (forces : List ForceVar) (k : ℕ) (v : ForceVar) (numbers : List ℤ) (whole : Option What) → k < length forces → v ≡ get_or forces k v → numbers ≡ force_over kernel pairs v → list_all is_i64 numbers ≡ true
      → first_given (sum_fault kernel pairs) (enumerate_from (k + 1) (drop k forces)) ≡ whole → first_given (sum_fault kernel pairs) (enumerate_from (k + 1 + 1) (drop (k + 1) forces)) ≡ whole
  sums_fit forces k v numbers whole within here is fits so_far =
      let rest = first_given (sum_fault kernel pairs) (enumerate_from (k + 1 + 1) (drop (k + 1) forces)) in
      sym (sums_next forces k v within here ∙ ap (λ o. first_some o rest) (sum_by_fit (k + 1) v true (ap (list_all is_i64) (sym is) ∙ fits))) ∙ so_far

  pub sum_stops : (forces : List ForceVar) (k : ℕ) (v : ForceVar) (numbers : List ℤ) (whole : Option What) → k < length forces → v ≡ get_or forces k v → numbers ≡ force_over kernel pairs v → list_all is_i64 numbers ≡ false
      → first_given (sum_fault kernel pairs) (enumerate_from (k + 1) (drop k forces)) ≡ whole → whole ≡ Some (what.Sum (k + 1))
  sum_stops forces k v numbers whole within here is fits so_far =
      let rest = first_given (sum_fault kernel pairs) (enumerate_from (k + 1 + 1) (drop (k + 1) forces)) in
      sym so_far ∙ sums_next forces k v within here ∙ ap (λ o. first_some o rest) (sum_by_fit (k + 1) v false (ap (list_all is_i64) (sym is) ∙ fits))

  pub sums_end : (forces : List ForceVar) (k : ℕ) (whole : Option What) → k ≡ length forces → first_given (sum_fault kernel pairs) (enumerate_from (k + 1) (drop k forces)) ≡ whole → whole ≡ None
  sums_end forces k whole e so_far = sym so_far ∙ ap (λ l. first_given (sum_fault kernel pairs) (enumerate_from (k + 1) l)) (drop_all k forces (omega arith))

  -- a variable that stops the row is its first fault
  pub row_stops : (forces : List ForceVar) (k : ℕ) (v : ForceVar) (values : List (List ℤ)) (whole : Option What) (stop : ForceStop) → k < length forces → v ≡ get_or forces k v → values ≡ map components (flat_map (contributions kernel v) pairs)
      → first_given (sum_fault kernel pairs) (enumerate_from (k + 1) (drop k forces)) ≡ whole → IsSumStop v (k + 1) values stop → IsForceStop whole stop
  row_stops forces k v values whole (Fault fault) within here is so_far h = sum_stops forces k v (force_of v values) whole within here (force_is kernel pairs v values is) h.0 so_far ∙ ap Some (sym h.1)
  row_stops forces k v values whole Memory within here is so_far h = tt

-- ---- the first fault of a particle

module _ (edge : Edge) (kernel : Kernel) (entries : List Entry) (i : Particle) where
  abbrev its_pairs : List APair
  its_pairs = pairs_of edge kernel entries i

  abbrev first_sum : Option What
  first_sum = first_given (sum_fault kernel its_pairs) (enumerate_from 1 (forces_of kernel.decls))

  pub pair_first : (fault : What) → Some fault ≡ first_given pair_fault its_pairs → force_fault edge kernel entries i ≡ Some fault
  unfolding force_fault
  pair_first fault e = ap (λ o. first_some o first_sum) (sym e)

  pub then_sums : None ≡ first_given pair_fault its_pairs → force_fault edge kernel entries i ≡ first_sum
  unfolding force_fault
  then_sums e = ap (λ o. first_some o first_sum) (sym e)
