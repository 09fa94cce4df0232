-- The present members of an entry, rank by rank.
use Rattle.std.proofs.Common.{◌≡◌, ℕ, zero, suc, ◌+◌, ◌<◌, ◌≤◌, Bool, false, List, inl, inr, [], ◌∷◌, ◌++◌, length, get_or, take, map, refl, sym, ◌∙◌, ap, subst, arith, zero-add}
use Rattle.std.specs.List.{filter, flat_map, Contains, IsDistinct, AllByRecursion, range_with_len}
use Rattle.std.specs.List.Sorted.{IsPermutation}
use Rattle.std.specs.Prelude.{nat_eq}
use Rattle.std.proofs.lemmas.Bool.{eqb-false, eq-eqb, ne_eqb, cond_both, cases_eq}
use Rattle.std.proofs.lemmas.List.{append-nil, length-map, take_more}
use Rattle.std.proofs.lemmas.List.Folds.{length-flat_map-take}
use Rattle.std.proofs.lemmas.List.Elements.{All-contains, All-from_recursion}
use Rattle.std.proofs.lemmas.Grind.{flat_map-append}
use Rattle.std.proofs.lemmas.List.FromFn.{get_or-range_with_len, length-range_with_len}
use Rattle.std.proofs.lemmas.List.Sorted.{IsPermutation-sym, length_permutation, Contains-permutation}
use Rattle.std.proofs.lemmas.Map.Keys.{IsDistinct-IsPermutation}
use Rattle.pf_model.specs.declared.entry.Entry.{Entry}
use Rattle.pf_model.specs.Particle.{Particle}
use Rattle.pf_model.specs.Division.{rank_count}
use Rattle.pf_model.specs.Domains.{particles_of}
use Rattle.pf_model.specs.Sums.{moment_of, together}
use Rattle.pf_model.specs.Totals.{Totals}
use Rattle.pf_model.specs.Interaction.{members_of}
use Rattle.pf_model.specs.Reuse.{present}
use Rattle.morton_tree.specs.declared.span.Span.{Span}
use Rattle.list_reuse.specs.Keeping.{Motion, IsMotion, AreOtherRanks}
use Rattle.list_reuse.specs.KeepLaws.{Laws}
use Rattle.list_reuse.proofs.PartLemmas.{inner, members_now}

pub counted : (js : List Particle) → (moment_of js).count ≡ length js
unfolding moment_of
counted js = refl

length-filter-le : (test : Particle → Bool) (js : List Particle) → length (filter test js) ≤ length js
length-filter-le test [] = omega arith
length-filter-le test (j ∷ js) =
    let rest = length-filter-le test js in
    cond_both (test j) _ _ (λ l. length l ≤ length (j ∷ js)) (λ _. omega arith) (λ _. omega arith)

eqb_flips : (m n : ℕ) → nat_eq m n ≡ nat_eq n m
eqb_flips m n = elim (cases_eq m n) [ inl e ↦ eq-eqb m n e ∙ sym (eq-eqb n m (sym e)) | inr a ↦ ne_eqb m n a ∙ sym (ne_eqb n m (λ e. a (sym e))) ]

apart_below : (k a n : ℕ) → k < a → AllByRecursion (λ y. nat_eq k y ≡ false) (range_with_len a n)
apart_below k a zero below = tt
apart_below k a (suc n) below = (ne_eqb k a (λ e. omega arith), apart_below k (a + 1) n (omega arith))

distinct_range : (a n : ℕ) → IsDistinct nat_eq (range_with_len a n)
unfolding IsDistinct
distinct_range a zero = tt
distinct_range a (suc n) = (apart_below a (a + 1) n (omega arith), distinct_range (a + 1) n)

-- the others are not the rank
pub others_differ : (m : Motion) (others : List ℕ) → AreOtherRanks m others → IsDistinct nat_eq (m.rank ∷ others)
others_differ m others ranks =
    let all = range_with_len 0 (rank_count m.grid) in
    IsDistinct-IsPermutation nat_eq eqb_flips all (m.rank ∷ others) (IsPermutation-sym (m.rank ∷ others) all ranks) (distinct_range 0 (rank_count m.grid))

pub other_not_own : (m : Motion) (others : List ℕ) → AreOtherRanks m others → (r : ℕ) → Contains others r → m.rank ≡ r → ⊥
unfolding IsDistinct
other_not_own m others ranks r h same =
    let apart = All-contains (λ y. nat_eq m.rank y ≡ false) others r (All-from_recursion (λ y. nat_eq m.rank y ≡ false) others (others_differ m others ranks).0) h in
    eqb-false m.rank r apart same

module _ (laws : Laws) (m : Motion) (motion : IsMotion m) (built : List Particle) (mine : IsPermutation built (particles_of m.grid m.particles m.rank)) (span : Span) (some : 1 ≤ span.len) (inside : span.first + span.len ≤ length built) where
  abbrev pub over : Entry → List ℕ → List Particle
  over e ranks = flat_map (members_now laws m motion built mine span some inside e) ranks

  -- those of all ranks are all present members
  pub over_all : (e : Entry) (others : List ℕ) → AreOtherRanks m others → IsPermutation (over e (m.rank ∷ others)) (present m.now (members_of m.theta (inner laws m motion built mine span some inside) m.particles e))
  over_all e others ranks =
      let all = range_with_len 0 (rank_count m.grid) in
      let back = IsPermutation-sym (m.rank ∷ others) all ranks in
      let once = others_differ m others ranks in
      let whole = laws.all_ranks m.grid m.particles (m.rank ∷ others) motion.division
      (λ r below.
      Contains-permutation all (m.rank ∷ others) r back
      (r, (let long = length-range_with_len 0 (rank_count m.grid) in omega arith), get_or-range_with_len 0 (rank_count m.grid) r r below ∙ zero-add r)) in
      let box = inner laws m motion built mine span some inside in
      IsPermutation-sym (present m.now (members_of m.theta box m.particles e)) (over e (m.rank ∷ others))
      (subst (λ (js : List Particle). IsPermutation (present m.now (members_of m.theta box js e)) (over e (m.rank ∷ others))) whole
      (laws.of_ranks m.theta box m.grid m.particles m.now e (m.rank ∷ others) motion.are_bodies.distinct once))

  pub moment_over_all : (e : Entry) (others : List ℕ) → AreOtherRanks m others → moment_of (over e (m.rank ∷ others)) ≡ moment_of (present m.now (members_of m.theta (inner laws m motion built mine span some inside) m.particles e))
  moment_over_all e others ranks = laws.order (over e (m.rank ∷ others)) (present m.now (members_of m.theta (inner laws m motion built mine span some inside) m.particles e)) (over_all e others ranks)

  pub few_now : length m.now ≤ 65536
  few_now =
      let same = length_permutation (map (λ (j : Particle). j.id) m.particles) (map (λ (j : Particle). j.id) m.now) motion.same_ids in
      let before = length-map m.particles (λ (j : Particle). j.id) in
      let after = length-map m.now (λ (j : Particle). j.id) in
      let few = motion.are_bodies.few in
      omega arith

  pub few_members : (e : Entry) (r : ℕ) → length (members_now laws m motion built mine span some inside e r) ≤ 65536
  few_members e r =
      let less : length (members_now laws m motion built mine span some inside e r) ≤ length m.now = length-filter-le _ m.now in
      let few = few_now in
      omega arith

  pub few_over : (e : Entry) (others : List ℕ) → AreOtherRanks m others → length (over e (m.rank ∷ others)) ≤ 65536
  few_over e others ranks =
      let members = present m.now (members_of m.theta (inner laws m motion built mine span some inside) m.particles e) in
      let same = length_permutation (over e (m.rank ∷ others)) members (over_all e others ranks) in
      let less : length members ≤ length m.now = length-filter-le _ m.now in
      let few = few_now in
      omega arith

  -- one rank more
  pub moment_next : (e : Entry) (ranks : List ℕ) (r : ℕ) → moment_of (over e (ranks ++ r ∷ [])) ≡ together (moment_of (over e ranks)) (moment_of (over e (r ∷ [])))
  moment_next e ranks r =
      ap moment_of (flat_map-append (members_now laws m motion built mine span some inside e) ranks (r ∷ [])) ∙ laws.add (over e ranks) (over e (r ∷ []))

  pub over_one : (e : Entry) (r : ℕ) → over e (r ∷ []) ≡ members_now laws m motion built mine span some inside e r
  over_one e r = append-nil (members_now laws m motion built mine span some inside e r)

  pub few_next : (e : Entry) (others : List ℕ) → AreOtherRanks m others → (n d : ℕ) → n < length others → (moment_of (over e (m.rank ∷ take n others))).count + (moment_of (members_now laws m motion built mine span some inside e (get_or others n d))).count ≤ 65536
  few_next e others ranks n d below =
      let f = members_now laws m motion built mine span some inside e in
      let front = length-flat_map-take f (m.rank ∷ others) (suc n) d (omega arith) in
      let few = few_over e others ranks in
      let one = counted (over e (m.rank ∷ take n others)) in
      let other = counted (f (get_or others n d)) in
      omega arith

  pub sum_next : (e : Entry) (others : List ℕ) (n d : ℕ) (a b : Totals) → n < length others → a ≡ moment_of (over e (m.rank ∷ take n others)) → b ≡ moment_of (members_now laws m motion built mine span some inside e (get_or others n d)) → together a b ≡ moment_of (over e (m.rank ∷ take (n + 1) others))
  sum_next e others n d a b below so_far one =
      let r = get_or others n d in
      (λ k. together (so_far k) ((one ∙ ap moment_of (sym (over_one e r))) k))
      ∙ sym (moment_next e (m.rank ∷ take n others) r)
      ∙ ap (λ (rs : List ℕ). moment_of (over e (m.rank ∷ rs))) (sym (take_more others n d below))
