-- The rows of tallies are forces.
use Rattle.std.proofs.Common.{◌≡◌, ℕ, ◌+◌, Result, Ok, Err, ℤ, pos, ◌+ℤ◌, Bool, true, false, List, [], ◌∷◌, ◌++◌, Option, Some, None, map, flat_map, refl, sym, ap, ◌∙◌, arith}
use Rattle.std.specs.List.{fold, list_all, enumerate_from}
use Rattle.std.specs.Prelude.{slice_index_or, IfErr, OnOk}
use Rattle.std.proofs.lemmas.Int.{ints}
use Rattle.std.proofs.lemmas.List.Sums.{fold-append}
use Rattle.pf_geom.specs.declared.edge.Edge.{Edge}
use Rattle.pf_num.specs.Exact.{is_i64}
use Rattle.pf_model.specs.declared.entry.Entry.{Entry}
use Rattle.pf_model.specs.Particle.{Particle}
use Rattle.pf_model.specs.Sums.{int_sum_by}
use Rattle.kern_tree.specs.declared.kernel.Combine.{Combine}
use Rattle.kern_tree.specs.declared.kernel.Combine.TheVariants.{Sum, Max, Min}
use Rattle.kern_tree.specs.declared.kernel.Kernel.{Kernel}
use Rattle.kern_tree.specs.declared.kernel.Kind.{Kind}
use Rattle.kern_tree.specs.declared.kernel.Kind.TheVariants.{Num, Vec3}
use Rattle.kern_types.specs.declared.force_var.ForceVar.{ForceVar}
use Rattle.kern_types.specs.Declarations.{forces_of}
use Rattle.kern_meaning.specs.declared.value.Value.{Value}
use Rattle.kern_meaning.specs.Pair.{OrPairStop}
use Rattle.kern_meaning.specs.Values.{components}
use Rattle.run_model.specs.declared.fault.What.{What}
use Rattle.run_model.specs.Force.{combined, contributions, axes_of, force_over, force_row, force_fault, sum_fault, first_given, pair_fault, pairs_of}
use Rattle.force_phase.specs.declared.partner.Partner.{Partner}
use Rattle.force_phase.specs.Forces.{AreForces}
use Rattle.force_phase.specs.Gathered.{with_values, with_pairs, each_with, nothing_yet}
use Rattle.force_phase.specs.Partner.{pairs_by, partner_of}
use Rattle.force_phase.specs.Rows.{numbers_of, row_of, row_fault}
use Rattle.force_phase.specs.Tally.{Tallied, joined, of_none, nothing, with_numbers}
use Rattle.force_phase.proofs.PairLemmas.{pairs_are}

abbrev APair : Type 0
APair = OrPairStop (List (Option Value))

along : ℕ → Value → ℤ
along axis value = slice_index_or (components value) axis (pos 0)

-- ---- one number

sum_from : (a : ℤ) (ns : List ℤ) → fold (joined Sum) a ns ≡ a +ℤ int_sum_by (λ n. n) ns
sum_from a [] = omega (arith, ints)
sum_from a (n ∷ ns) = let more = sum_from (a +ℤ n) ns in omega (arith, ints, more)

combined_is : (c : Combine) (ns : List ℤ) → fold (joined c) (of_none c) ns ≡ combined c ns
combined_is Sum ns = let all = sum_from (pos 0) ns in omega (arith, ints, all)
combined_is Max ns = refl
combined_is Min ns = refl

-- ---- one variable

module _ (v : ForceVar) where
  x_is : (t : Tallied) (values : List Value) → (with_values v t values).x ≡ fold (joined v.combine) t.x (map (λ value. slice_index_or (components value) 0 (pos 0)) values)
  x_is t [] = refl
  x_is t (value ∷ values) = x_is (with_numbers v.combine t (components value)) values

  y_is : (t : Tallied) (values : List Value) → (with_values v t values).y ≡ fold (joined v.combine) t.y (map (λ value. slice_index_or (components value) 1 (pos 0)) values)
  y_is t [] = refl
  y_is t (value ∷ values) = y_is (with_numbers v.combine t (components value)) values

  z_is : (t : Tallied) (values : List Value) → (with_values v t values).z ≡ fold (joined v.combine) t.z (map (λ value. slice_index_or (components value) 2 (pos 0)) values)
  z_is t [] = refl
  z_is t (value ∷ values) = z_is (with_numbers v.combine t (components value)) values

  all_values : (kernel : Kernel) (pairs : List APair) (t : Tallied) → with_pairs kernel pairs v t ≡ with_values v t (flat_map (contributions kernel v) pairs)
  all_values kernel [] t = refl
  all_values kernel (pair ∷ pairs) t =
      all_values kernel pairs (with_values v t (contributions kernel v pair))
      ∙ sym (fold-append _ t (contributions kernel v pair) (flat_map (contributions kernel v) pairs))

  numbers_by : (kind : Kind) (values : List Value)
      → numbers_of kind (with_values v (nothing v.combine) values)
      ≡ map (λ axis. combined v.combine (map (λ value. slice_index_or (components value) axis (pos 0)) values)) (axes_of kind)
  numbers_by Num values = ap (λ x. x ∷ []) (x_is (nothing v.combine) values ∙ combined_is v.combine _)
  numbers_by Vec3 values =
      ap (λ x. x ∷ (with_values v (nothing v.combine) values).y ∷ (with_values v (nothing v.combine) values).z ∷ []) (x_is (nothing v.combine) values ∙ combined_is v.combine _)
      ∙ ap (λ y. combined v.combine (map (λ value. slice_index_or (components value) 0 (pos 0)) values) ∷ y ∷ (with_values v (nothing v.combine) values).z ∷ []) (y_is (nothing v.combine) values ∙ combined_is v.combine _)
      ∙ ap (λ z. combined v.combine (map (λ value. slice_index_or (components value) 0 (pos 0)) values) ∷ combined v.combine (map (λ value. slice_index_or (components value) 1 (pos 0)) values) ∷ z ∷ []) (z_is (nothing v.combine) values ∙ combined_is v.combine _)

  numbers_are : (kernel : Kernel) (pairs : List APair) → numbers_of v.kind (with_pairs kernel pairs v (nothing v.combine)) ≡ force_over kernel pairs v
  numbers_are kernel pairs = ap (numbers_of v.kind) (all_values kernel pairs (nothing v.combine)) ∙ numbers_by v.kind (flat_map (contributions kernel v) pairs)

-- ---- all variables

module _ (kernel : Kernel) (pairs : List APair) where
  abbrev tallies_of : List ForceVar → List Tallied
  tallies_of forces = each_with (with_pairs kernel pairs) forces (nothing_yet forces)

  row_is : (forces : List ForceVar) → row_of forces (tallies_of forces) ≡ flat_map (force_over kernel pairs) forces
  row_is [] = refl
  row_is (v ∷ forces) =
      ap (λ numbers. numbers ++ row_of forces (tallies_of forces)) (numbers_are v kernel pairs)
      ∙ ap (λ rest. force_over kernel pairs v ++ rest) (row_is forces)

  fault_more : (n : ℕ) (v : ForceVar) (forces : List ForceVar) (b : Bool) → list_all is_i64 (force_over kernel pairs v) ≡ b
      → row_fault (n + 1) forces (tallies_of forces) ≡ first_given (sum_fault kernel pairs) (enumerate_from (n + 1) forces)
      → row_fault n (v ∷ forces) (tallies_of (v ∷ forces)) ≡ first_given (sum_fault kernel pairs) (enumerate_from n (v ∷ forces))
  fault_more n v forces true e more = rw (numbers_are v kernel pairs, e) more
  fault_more n v forces false e more = rw (numbers_are v kernel pairs, e) refl

  fault_is : (n : ℕ) (forces : List ForceVar) → row_fault n forces (tallies_of forces) ≡ first_given (sum_fault kernel pairs) (enumerate_from n forces)
  fault_is n [] = refl
  fault_is n (v ∷ forces) = fault_more n v forces (list_all is_i64 (force_over kernel pairs v)) refl (fault_is (n + 1) forces)

-- ---- the answers

module _ (edge : Edge) (kernel : Kernel) (i : Particle) (entries : List Entry) (partners : List Partner) (are : partners ≡ map partner_of entries) where
  same_pairs : pairs_by edge kernel i partners ≡ pairs_of edge kernel entries i
  same_pairs = ap (pairs_by edge kernel i) are ∙ pairs_are edge kernel i entries

  pub pair_stops : (w : What) → first_given pair_fault (pairs_by edge kernel i partners) ≡ Some w → force_fault edge kernel entries i ≡ Some w
  unfolding force_fault
  pair_stops w e =
      let found : first_given pair_fault (pairs_of edge kernel entries i) ≡ Some w = ap (first_given pair_fault) (sym same_pairs) ∙ e in
      rw found refl

  module _ (tallies : List Tallied) (none : first_given pair_fault (pairs_by edge kernel i partners) ≡ None)
      (gathered : tallies ≡ each_with (with_pairs kernel (pairs_by edge kernel i partners)) (forces_of kernel.decls) (nothing_yet (forces_of kernel.decls))) where
    tallied : tallies ≡ tallies_of kernel (pairs_of edge kernel entries i) (forces_of kernel.decls)
    tallied = gathered ∙ ap (λ (pairs : List APair). tallies_of kernel pairs (forces_of kernel.decls)) same_pairs

    fault_found : force_fault edge kernel entries i ≡ row_fault 1 (forces_of kernel.decls) tallies
    unfolding force_fault
    fault_found =
        let clear : first_given pair_fault (pairs_of edge kernel entries i) ≡ None = ap (first_given pair_fault) (sym same_pairs) ∙ none in
        rw clear (sym (ap (row_fault 1 (forces_of kernel.decls)) tallied ∙ fault_is kernel (pairs_of edge kernel entries i) 1 (forces_of kernel.decls)))

    pub sum_stops : (w : What) → row_fault 1 (forces_of kernel.decls) tallies ≡ Some w → force_fault edge kernel entries i ≡ Some w
    sum_stops w e = fault_found ∙ e

    row_found : row_of (forces_of kernel.decls) tallies ≡ force_row edge kernel entries i
    unfolding force_row
    row_found = ap (row_of (forces_of kernel.decls)) tallied ∙ row_is kernel (pairs_of edge kernel entries i) (forces_of kernel.decls)

    pub forces_found : (row : List ℤ) → row ≡ row_of (forces_of kernel.decls) tallies → row_fault 1 (forces_of kernel.decls) tallies ≡ None → AreForces edge kernel entries i row
    forces_found row e clear = record { row = e ∙ row_found; no_fault = fault_found ∙ clear }

-- ---- by the answer of a row

module _ (edge : Edge) (kernel : Kernel) (i : Particle) (partners : List Partner) (tallies : List Tallied) (none : first_given pair_fault (pairs_by edge kernel i partners) ≡ None)
    (gathered : tallies ≡ each_with (with_pairs kernel (pairs_by edge kernel i partners)) (forces_of kernel.decls) (nothing_yet (forces_of kernel.decls))) where
  pub forces_answer : {V : Type 0} (row : List ℤ) (r : Result V What) → OnOk r (row ≡ row_of (forces_of kernel.decls) tallies) → OnOk r (row_fault 1 (forces_of kernel.decls) tallies ≡ None)
      → OnOk r ((entries : List Entry) → partners ≡ map partner_of entries → AreForces edge kernel entries i row)
  forces_answer row (Ok v) a b = λ entries are. forces_found edge kernel i entries partners are tallies none gathered row a b
  forces_answer row (Err e) a b = tt

  pub stop_answer : {V : Type 0} (r : Result V What) → IfErr r (λ what. row_fault 1 (forces_of kernel.decls) tallies ≡ Some what)
      → IfErr r (λ what. (entries : List Entry) → partners ≡ map partner_of entries → force_fault edge kernel entries i ≡ Some what)
  stop_answer (Ok v) a = tt
  stop_answer (Err w) a = λ entries are. sum_stops edge kernel i entries partners are tallies none gathered w a
