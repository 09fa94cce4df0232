-- Entries of a build with the moments of where their members are later.
use Rattle.std.proofs.Common.{◌≡◌, ℕ, Bool, true, false, ◌||◌, List, [], ◌∷◌, ◌++◌, map, inl, inr, Option, Some, None, unwrap_or, refl, sym, ◌∙◌, ap, subst}
use Rattle.std.specs.List.{filter, flat_map, list_any, AllByRecursion, IsDistinct}
use Rattle.std.specs.List.Sorted.{IsPermutation}
use Rattle.std.specs.Prelude.{nat_eq}
use Rattle.std.proofs.lemmas.Bool.{eqb-true, eqb-false}
use Rattle.std.proofs.lemmas.List.Elements.{filter-append}
use Rattle.std.proofs.lemmas.List.Sorted.{IsPermutation-refl, IsPermutation-trans, IsPermutation-append_right}
use Rattle.pf_geom.specs.Bounds.{Bounds}
use Rattle.pf_model.specs.declared.entry.Entry.{Entry}
use Rattle.pf_model.specs.Particle.{Particle}
use Rattle.pf_model.specs.Particles.{HaveDistinctIds}
use Rattle.pf_model.specs.Criterion.{Criterion}
use Rattle.pf_model.specs.Division.{Division}
use Rattle.pf_model.specs.Domains.{owner, particles_of}
use Rattle.pf_model.specs.EssentialTree.{particles_of_ranks}
use Rattle.pf_model.specs.Sums.{moment_of, together}
use Rattle.pf_model.specs.Interaction.{level_of, leads_to, entry_at, comes_before, list_of, members_of}
use Rattle.pf_model.specs.Sufficiency.{entry_moment, moment_together, items_in}
use Rattle.pf_model.specs.Reuse.{present, present_entry, items_now}
use Rattle.model_laws.specs.MomentLaws.{MomentsIgnoreOrder}
use Rattle.model_laws.specs.DomainLaws.{RanksHaveTheirOwn}
use Rattle.model_laws.specs.ReuseLaws.{PresentMembersAreOfRanks, KeptEntriesAddUpItemsOfSome}
use Rattle.order_laws.proofs.OrderLemmas.{In, IsAscending, before_each}
use Rattle.order_laws.proofs.ElementLemmas.{in_from_contains, in_filter}
use Rattle.order_laws.proofs.PermutationLemmas.{IsPermutation-filter, either_filter}
use Rattle.pf_model.proofs.EntryLemmas.{comes_before-strict, same_from_id}
use Rattle.pf_model.proofs.MomentLemmas.{moment_of-append}
use Rattle.model_laws.proofs.ListLemmas.{list-sound, entry-unique}
use Rattle.model_laws.proofs.ReuseLemmas.{in_from_list_any, some_have_distinct_ids}
use Rattle.model_laws.proofs.SufficiencyLemmas.{Laws, AreNested, filter_none, only_leads, lead_to_items, items_ascend, items_are_items}
use Rattle.model_laws.proofs.PresentLemmas.{AreNow, are_now, some_are_now, found_among, present_of_one, present_permuted, AreApart, present-append}

some_in : (test : Particle → Bool) (js : List Particle) (j : Particle) → In j (filter test js) → In j js
some_in test js j i = (in_filter test j js i).0

-- an entry is now the present particles that led to it
moment_now_at : (t : Criterion) (box : Bounds) (js now : List Particle) → HaveDistinctIds js → AreNow js now → (j : Particle) (o : Option ℕ) → In j js → level_of t box j.at ≡ o →
    entry_moment (present_entry now (members_of t box js (entry_at t box js j o)) (entry_at t box js j o)) ≡ moment_of (present now (members_of t box js (entry_at t box js j o)))
moment_now_at t box js now distinct are j None i near =
    let q = are.there j i in
    ap (λ (o : Option Particle). moment_of (unwrap_or o j ∷ [])) (found_among now are.distinct j.id q.0 q.1 q.2)
    ∙ ap moment_of (sym (ap (present now) (only_leads t box js j distinct i near) ∙ present_of_one now are.distinct j q.0 q.1 q.2))
moment_now_at t box js now distinct are j (Some level) i e = refl

module _ (same_moment : MomentsIgnoreOrder) (t : Criterion) (box : Bounds) (js now : List Particle) (distinct : HaveDistinctIds js) (are : AreNow js now) where
  abbrev as_now : Entry → Entry
  as_now e = present_entry now (members_of t box js e) e

  moment_now : (e : Entry) → In e (list_of t box js) → entry_moment (as_now e) ≡ moment_of (present now (members_of t box js e))
  moment_now e i =
      let from = list-sound t box js e i in
      let P : Entry → Type 0 = λ v. entry_moment (present_entry now (members_of t box js v) v) ≡ moment_of (present now (members_of t box js v)) in
      subst P (sym from.2) (moment_now_at t box js now distinct are from.0 (level_of t box from.0.at) from.1 refl)

  -- so are some entries of a list
  moment_now_of_some : (es : List Entry) → IsAscending comes_before es → ((e : Entry) → In e es → In e (list_of t box js)) →
      moment_together (map as_now es) ≡ moment_of (present now (filter (λ j. list_any (λ e. leads_to t box e j) es) js))
  moment_now_of_some [] a some = ap moment_of (sym (ap (present now) (filter_none js) ∙ filter_none now))
  moment_now_of_some (e ∷ es) a some =
      let one = moment_now e (some e (inl refl)) in
      let rest = moment_now_of_some es a.1 (λ f i. some f (inr i)) in
      let leads = leads_to t box e in
      let others : Particle → Bool = λ j. list_any (λ f. leads_to t box f j) es in
      let own : List Particle = filter leads js in
      let theirs : List Particle = filter others js in
      let never_both : (j : Particle) → In j js → leads j ≡ true → others j ≡ true → ⊥ = λ j i h k.
      (let found = in_from_list_any (λ f. leads_to t box f j) es k in
      let same : e ≡ found.0 = entry-unique t box js distinct j i e (some e (inl refl)) h ∙ sym (entry-unique t box js distinct j i found.0 (some found.0 (inr found.1)) found.2) in
      let P : Entry → Type 0 = λ v. comes_before e v ≡ true in
      comes_before-strict.irreflexive e (subst P (sym same) (before_each comes_before e es found.0 found.1 a.0))) in
      let apart : AreApart own theirs = λ j k i h same.
      (let of_own = in_filter leads j js i in
      let of_theirs = in_filter others k js h in
      let one_particle : j ≡ k = same_from_id js distinct j k of_own.0 of_theirs.0 same in
      never_both j of_own.0 of_own.1 (ap others one_particle ∙ of_theirs.1)) in
      let all = present_permuted now (filter (λ j. leads j || others j) js) (own ++ theirs) (either_filter leads others js never_both) in
      let both = same_moment (present now (own ++ theirs)) (present now own ++ present now theirs) (present-append now own theirs apart) in
      (λ k. together (one k) (rest k)) ∙ sym (ap moment_of all ∙ both ∙ moment_of-append (present now own) (present now theirs))

-- of some particles ks of a build js
of_some : Laws → MomentsIgnoreOrder → (t : Criterion) (inner outer : Bounds) → AreNested inner outer → (ks js now : List Particle) → HaveDistinctIds ks → HaveDistinctIds js → ((j : Particle) → In j ks → In j js) → AreNow js now → (e : Entry) → In e (list_of t inner js) →
    moment_of (present now (members_of t inner ks e)) ≡ moment_together (items_now t outer ks now e)
of_some laws same_moment t inner outer n ks js now distinct_ks distinct some are e i =
    ap (λ l. moment_of (present now l)) (lead_to_items laws t inner outer n ks js distinct_ks distinct some e i)
    ∙ sym (moment_now_of_some same_moment t outer ks now distinct_ks (some_are_now ks js now some are) (items_in e (list_of t outer ks)) (items_ascend t outer ks e) (items_are_items t outer ks e))

pub kept_entries_add_up_items_of_some : Laws → MomentsIgnoreOrder → KeptEntriesAddUpItemsOfSome
kept_entries_add_up_items_of_some laws same_moment test t inner outer js now e inner_is outer_is within distinct same there =
    of_some laws same_moment t inner outer (record { inner_is = inner_is; outer_is = outer_is; within = within }) (filter test js) js now (some_have_distinct_ids test js distinct) distinct (some_in test js) (are_now js now distinct same) e (in_from_contains (list_of t inner js) e there)

not_among : (rank : ℕ) (ranks : List ℕ) → AllByRecursion (λ r. nat_eq rank r ≡ false) ranks → In rank ranks → ⊥
not_among rank [] apart i = i
not_among rank (r ∷ rs) apart (inl e) = eqb-false rank r apart.0 (sym e)
not_among rank (r ∷ rs) apart (inr h) = not_among rank rs apart.1 h

-- the members over some ranks
module _ (law : RanksHaveTheirOwn) (t : Criterion) (box : Bounds) (g : Division) (js now : List Particle) (e : Entry) (distinct : HaveDistinctIds js) where
  over_ranks : (ranks : List ℕ) → IsDistinct nat_eq ranks →
      IsPermutation (present now (members_of t box (particles_of_ranks g js ranks) e)) (flat_map (λ rank. present now (members_of t box (particles_of g js rank) e)) ranks)
  unfolding IsDistinct
  over_ranks [] once =
      let none : present now (members_of t box (particles_of_ranks g js []) e) ≡ [] = ap (λ l. present now (members_of t box l e)) (filter_none js) ∙ filter_none now in
      subst (λ (l : List Particle). IsPermutation l []) (sym none) (IsPermutation-refl [])
  over_ranks (rank ∷ ranks) once =
      let leads = leads_to t box e in
      let owned = λ (j : Particle). nat_eq (owner g js j.at) rank in
      let elsewhere = λ (j : Particle). list_any (nat_eq (owner g js j.at)) ranks in
      let own : List Particle = particles_of g js rank in
      let theirs : List Particle = particles_of_ranks g js ranks in
      let new = not_among rank ranks once.0 in
      let members = IsPermutation-filter leads (particles_of_ranks g js (rank ∷ ranks)) (own ++ theirs) (law g js rank ranks (λ h. new (in_from_contains ranks rank h))) in
      let all : present now (members_of t box (particles_of_ranks g js (rank ∷ ranks)) e) ≡ present now (filter leads own ++ filter leads theirs) =
      present_permuted now (filter leads (particles_of_ranks g js (rank ∷ ranks))) (filter leads (own ++ theirs)) members ∙ ap (present now) (filter-append leads own theirs) in
      let apart : AreApart (filter leads own) (filter leads theirs) = λ j k i h same.
      (let of_own = in_filter owned j js (some_in leads own j i) in
      let of_theirs = in_filter elsewhere k js (some_in leads theirs k h) in
      let one : j ≡ k = same_from_id js distinct j k of_own.0 of_theirs.0 same in
      let found = in_from_list_any (nat_eq (owner g js k.at)) ranks of_theirs.1 in
      let is : found.0 ≡ rank = sym (eqb-true (owner g js k.at) found.0 found.2) ∙ ap (λ (v : Particle). owner g js v.at) (sym one) ∙ eqb-true (owner g js j.at) rank of_own.1 in
      new (subst (λ (r : ℕ). In r ranks) is found.1)) in
      subst (λ (l : List Particle). IsPermutation l (present now (filter leads own) ++ flat_map (λ r. present now (members_of t box (particles_of g js r) e)) ranks)) (sym all)
      (IsPermutation-trans (present now (filter leads own ++ filter leads theirs)) (present now (filter leads own) ++ present now (filter leads theirs)) _
      (present-append now (filter leads own) (filter leads theirs) apart)
      (IsPermutation-append_right (present now (filter leads own)) (present now (filter leads theirs)) (flat_map (λ r. present now (members_of t box (particles_of g js r) e)) ranks) (over_ranks ranks once.1)))

pub present_members_are_of_ranks : RanksHaveTheirOwn → PresentMembersAreOfRanks
present_members_are_of_ranks law t box g js now e ranks distinct once = over_ranks law t box g js now e distinct ranks once
