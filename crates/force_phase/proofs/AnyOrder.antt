-- The forces and faults of all groups are the same in whatever order the groups are finished.
use Rattle.std.proofs.Common.{◌≡◌, ℕ, ◌+◌, ◌≤◌, zero, suc, List, [], ◌∷◌, ◌++◌, length, map, flat_map, Option, Some, None, append_assoc, sym, ap, subst, ◌∙◌, refl, arith}
use Rattle.std.specs.Prelude.{nat_lt, slice_get}
use Rattle.std.specs.List.{cons_option, filter_map, range_with_len}
use Rattle.std.specs.List.Sorted.{IsPermutation}
use Rattle.std.proofs.lemmas.Bool.{ltb-true, lt-ltb}
use Rattle.std.proofs.lemmas.List.{length_push}
use Rattle.std.proofs.lemmas.List.Sorted.{IsPermutation-refl, IsPermutation-trans, IsPermutation-sym, All-permutation, Contains-permutation, length_permutation}
use Rattle.pf_geom.specs.declared.edge.Edge.{Edge}
use Rattle.order_laws.specs.OrderLaws.{IsStrictOrder, ListsInOrderAreOne, PartsKeepPermutations}
use Rattle.pf_model.specs.Particle.{Particle}
use Rattle.model_laws.specs.ParticleLaws.{DistinctIdsIgnoreOrder}
use Rattle.pf_model.specs.Particles.{AreBodies}
use Rattle.kern_tree.specs.declared.kernel.Kernel.{Kernel}
use Rattle.group_lists.specs.Whole.{GroupList}
use Rattle.run_model.specs.declared.fault.Fault.{Fault}
use Rattle.run_model.specs.Force.{force_row}
use Rattle.force_phase.specs.declared.phase.IdRow.{IdRow}
use Rattle.run_model.specs.declared.fault.PhaseFault.{PhaseFault}
use Rattle.run_model.specs.declared.fault.PhaseFault.TheVariants.{Numeric, Memory}
use Rattle.force_phase.specs.Found.{AreInOrderOfId}
use Rattle.force_phase.specs.Phase.{bodies_in, rows_in, rows_by_id, fault_of, faults_in, StopsPhase}
use Rattle.force_phase.specs.Working.{groups_at}

-- ---- all groups by their numbers

in_midst : (before : List GroupList) (g : GroupList) (after : List GroupList) → slice_get (before ++ g ∷ after) (length before) ≡ Some g
in_midst [] g after = refl
in_midst (b ∷ before) g after = in_midst before g after

numbered_from : (before groups : List GroupList) (n m : ℕ) → n ≡ length before → m ≡ length groups → groups_at (before ++ groups) (range_with_len n m) ≡ groups
numbered_from before [] n zero e h = refl
numbered_from before [] n (suc m) e h = absurd (omega (arith, h))
numbered_from before (g ∷ groups) n zero e h = absurd (omega (arith, h))
numbered_from before (g ∷ groups) n (suc m) e h =
    let all : List GroupList = before ++ g ∷ groups in
    let here : slice_get all n ≡ Some g = ap (slice_get all) e ∙ in_midst before g groups in
    let next : n + 1 ≡ length (before ++ g ∷ []) = let long = length_push before g in omega (arith, e, long) in
    let rest : groups_at ((before ++ g ∷ []) ++ groups) (range_with_len (n + 1) m) ≡ groups = numbered_from (before ++ g ∷ []) groups (n + 1) m next (omega (arith, h)) in
    ap (λ o. cons_option o (groups_at all (range_with_len (n + 1) m))) here
    ∙ ap (λ l. g ∷ groups_at l (range_with_len (n + 1) m)) (sym (append_assoc before (g ∷ []) groups)) ∙ ap (λ l. g ∷ l) rest

-- what is made of each group, where each number stands once
module _ {Y : Type 0} (f : GroupList → List Y) (groups : List GroupList) where
  of_one : Option GroupList → List Y
  of_one None = []
  of_one (Some g) = f g

  abbrev part : ℕ → List Y
  part n = of_one (slice_get groups n)

  one_more : (o : Option GroupList) (rest : List GroupList) → flat_map f (cons_option o rest) ≡ of_one o ++ flat_map f rest
  unfolding of_one
  one_more None rest = refl
  one_more (Some g) rest = refl

  by_number : (numbers : List ℕ) → flat_map f (groups_at groups numbers) ≡ flat_map part numbers
  by_number [] = refl
  by_number (n ∷ numbers) = one_more (slice_get groups n) (groups_at groups numbers) ∙ ap (λ l. part n ++ l) (by_number numbers)

  in_some_order : PartsKeepPermutations ℕ Y → (numbers : List ℕ) → IsPermutation numbers (range_with_len 0 (length groups)) → IsPermutation (flat_map f (groups_at groups numbers)) (flat_map f groups)
  in_some_order keep numbers moved =
      let all : List ℕ = range_with_len 0 (length groups) in
      let each : flat_map part all ≡ flat_map f groups = sym (by_number all) ∙ ap (flat_map f) (numbered_from [] groups 0 (length groups) refl refl) in
      subst (λ l. IsPermutation l (flat_map f groups)) (sym (by_number numbers))
      (subst (IsPermutation (flat_map part numbers)) each (keep part part numbers all (λ n. IsPermutation-refl (part n)) moved))

-- ---- what is found in them

by_id : IsStrictOrder (λ (r s : IdRow). nat_lt r.id s.id)
by_id = record {
  irreflexive = λ r e. (let h = ltb-true r.id r.id e in absurd (omega arith));
  transitive = λ r s u e f. (let g = ltb-true r.id s.id e in let h = ltb-true s.id u.id f in lt-ltb r.id u.id (omega arith));
}

nothing_there : {X : Type 0} (xs : List X) → length xs ≡ 0 → xs ≡ []
nothing_there [] e = refl
nothing_there (x ∷ xs) e = absurd (omega (arith, e))

module _ (edge : Edge) (kernel : Kernel) (groups : List GroupList) (numbers : List ℕ) (once : IsPermutation numbers (range_with_len 0 (length groups))) where
  abbrev found : List GroupList
  found = groups_at groups numbers

  pub are_found : PartsKeepPermutations ℕ Particle → DistinctIdsIgnoreOrder → AreBodies (bodies_in groups) → AreBodies (bodies_in found)
  are_found keep ignore are =
      let moved = IsPermutation-sym (bodies_in found) (bodies_in groups) (in_some_order (λ (g : GroupList). g.bodies) groups keep numbers once) in
      let long = length_permutation (bodies_in groups) (bodies_in found) moved in
      let few = are.few in
      record { few = omega arith; distinct = ignore (bodies_in groups) (bodies_in found) moved are.distinct }

  pub same_rows : PartsKeepPermutations ℕ IdRow → ListsInOrderAreOne IdRow → (rows sorted : List IdRow) → rows ≡ rows_in edge kernel found → AreInOrderOfId rows sorted → sorted ≡ rows_by_id edge kernel groups
  same_rows keep one rows sorted are by =
      let moved = in_some_order (λ (g : GroupList). map (λ i. record { id = i.id; row = force_row edge kernel g.entries i }) g.bodies) groups keep numbers once in
      let back = IsPermutation-sym (rows_in edge kernel found) (rows_in edge kernel groups) moved in
      let here : IsPermutation (rows_in edge kernel found) sorted = subst (λ l. IsPermutation l sorted) are by.same in
      sym (one (λ r s. nat_lt r.id s.id) (rows_in edge kernel groups) sorted by_id (IsPermutation-trans (rows_in edge kernel groups) (rows_in edge kernel found) sorted back here)
      (λ i j d less within. lt-ltb _ _ (by.in_order i j d less within)))

  module _ (keep : PartsKeepPermutations ℕ Fault) where
    faults_moved : IsPermutation (faults_in edge kernel found) (faults_in edge kernel groups)
    faults_moved = in_some_order (λ (g : GroupList). filter_map (fault_of edge kernel g) g.bodies) groups keep numbers once

    none_left : (faults : List Fault) → faults ≡ [] → IsPermutation faults (faults_in edge kernel groups) → faults_in edge kernel groups ≡ []
    none_left faults none same = nothing_there (faults_in edge kernel groups) (length_permutation faults (faults_in edge kernel groups) same ∙ ap length none)

    pub same_none : faults_in edge kernel found ≡ [] → faults_in edge kernel groups ≡ []
    same_none none = none_left (faults_in edge kernel found) none faults_moved

    pub same_fault : (stop : PhaseFault) → StopsPhase edge kernel found stop → StopsPhase edge kernel groups stop
    same_fault (Numeric fault) e = (
      Contains-permutation (faults_in edge kernel found) (faults_in edge kernel groups) fault faults_moved e.0,
      All-permutation (λ other. fault.id ≤ other.id) (faults_in edge kernel found) (faults_in edge kernel groups) faults_moved e.1,
    )
    same_fault Memory e = tt
