-- A rank whose octree is moved, and then its lists renewed.
use Rattle.std.proofs.Common.{◌≡◌, ℕ, ◌+◌, ◌<◌, ◌≤◌, ◌==◌, not, zero, suc, List, [], ◌∷◌, ◌++◌, map, nat_eq, Result, Ok, Err, inl, inr, refl, ◌∙◌, ap, subst, arith}
use Rattle.std.specs.Prelude.{OnOk}
use Rattle.std.specs.List.{Contains, filter, range_with_len}
use Rattle.std.specs.List.Sorted.{IsPermutation}
use Rattle.std.proofs.lemmas.Bool.{cases_eq, cond-true, cond-false, eq-eqb, ne_eqb}
use Rattle.std.proofs.lemmas.List.Elements.{All-map}
use Rattle.std.proofs.lemmas.List.Sorted.{All-permutation, Contains-permutation, IsPermutation-cons, IsPermutation-filter_both, IsPermutation-map, IsPermutation-sym, IsPermutation-trans}
use Rattle.pf_model.specs.Criterion.{Criterion}
use Rattle.pf_model.specs.Division.{Division, rank_count}
use Rattle.pf_model.specs.Domains.{owner, particles_of}
use Rattle.pf_model.specs.Particle.{Particle}
use Rattle.pf_model.specs.Particles.{HaveDistinctIds, HaveSameIds}
use Rattle.pf_model.specs.Reuse.{as_in}
use Rattle.model_laws.specs.ReuseLaws.{PresentEntriesAreFound}
use Rattle.let_inbox.specs.Sources.{others}
use Rattle.morton_tree.specs.Tree.{Octree}
use Rattle.group_lists.specs.Listing.{Listing}
use Rattle.list_reuse.specs.Refreshing.{Renewal}
use Rattle.list_reuse.specs.Keeping.{Motion, AreValues, IsRenewal, values_from}
use Rattle.list_reuse.specs.Keeping as reuse
use Rattle.refresh_phase.specs.Exchange.{refresh_sent, refreshes_received}
use Rattle.refresh_phase.specs.Kept.{RankKept, seen_from}
use Rattle.refresh_phase.specs.Renewing.{CanRenew, IsKeptSince, IsRenewed, moved_to}
use Rattle.refresh_phase.proofs.FoundLemmas.{from_filter, moved_twice}

pub on_ok : {A E : Type 0} (r : Result A E) (P : Type 0) → P → OnOk r P
on_ok (Ok a) P p = p
on_ok (Err e) P p = tt

-- ---- the octree

module _ (law : PresentEntriesAreFound) (t : Criterion) (g : Division) (js now : List Particle) (rank : ℕ) (distinct : HaveDistinctIds js) (same : HaveSameIds js now) where
  -- bodies that moved since the build are found where they are now
  pub moved_now : (r : RankKept) → IsKeptSince t g js rank r → map (as_in now) r.tree.bodies ≡ map (as_in now) r.tree.built
  moved_now r since =
      let own = particles_of g js rank in
      let among : (p : Particle) → Contains r.tree.built p → Contains js p =
      λ p h. from_filter (λ (j : Particle). nat_eq (owner g js j.at) rank) js p (Contains-permutation r.tree.built own p (IsPermutation-sym own r.tree.built since.kept.groups.same) h) in
      ap (map (as_in now)) since.kept.present ∙ moved_twice law js now distinct same since.before r.tree.built among

  -- so the rank is moved
  pub rank_moved : (v r : RankKept) (tree : Octree) → v ≡ r → IsKeptSince t g js rank r → tree ≡ record { built = v.tree.built; bodies = map (as_in now) v.tree.bodies } → record v { tree = tree } ≡ moved_to now r
  rank_moved v r tree is since at =
      let bodies = moved_now r since in
      (λ i. record (is i) { tree = at i }) ∙ (λ i. record r { tree = record { built = (is i).tree.built; bodies = map (as_in now) (is i).tree.bodies } })
      ∙ (λ i. record r { tree = record { built = r.tree.built; bodies = bodies i } })

-- ---- the lists

-- what renews them
pub in_renewal : (t : Criterion) (g : Division) (js now : List Particle) (rank : ℕ) (r : RankKept) → CanRenew t g js now rank r → HaveSameIds js now → (parcels : List Renewal) → AreValues (seen_from t g js now rank) parcels → IsRenewal (seen_from t g js now rank) r.tree parcels
in_renewal t g js now rank r can same parcels values =
    let motion = can.lists.motion in
    record {
      motion = record { are_bodies = motion.are_bodies; within_limits = motion.within_limits; division = motion.division; same_ids = same };
      own = can.present;
      parcels_are = values;
    }

pub renewed : (m : Motion) (v before : RankKept) → v ≡ before → (new : Listing) → reuse.AreKept m new → new.built ≡ v.lists.built → map (λ l. l.span) new.groups ≡ map (λ l. l.span) v.lists.groups → IsRenewed m before (record v { lists = new })
renewed m v before is new kept built spans = record {
  tree = ap (λ (r : RankKept). r.tree) is;
  sent = ap (λ (r : RankKept). r.sent) is;
  lists = kept;
  built = built ∙ ap (λ (r : RankKept). r.lists.built) is;
  spans = spans ∙ ap (λ (r : RankKept). map (λ l. l.span) r.lists.groups) is;
  line = ap (λ (r : RankKept). r.line) is;
}

-- ---- what came

-- the ranks but one, and this one
own_past : (rank start n : ℕ) → rank < start → filter (λ s. s == rank) (range_with_len start n) ≡ []
own_past rank start zero past = refl
own_past rank start (suc n) past =
    cond-false (start == rank) (start ∷ filter (λ s. s == rank) (range_with_len (start + 1) n)) (filter (λ s. s == rank) (range_with_len (start + 1) n)) (ne_eqb start rank (λ e. omega arith))
    ∙ own_past rank (start + 1) n (omega arith)

own_once : (rank start n : ℕ) → start ≤ rank → rank < start + n → filter (λ s. s == rank) (range_with_len start n) ≡ rank ∷ []
own_once rank start zero from within = absurd (omega arith)
own_once rank start (suc n) from within =
    let rest : List ℕ = filter (λ s. s == rank) (range_with_len (start + 1) n) in
    elim (cases_eq start rank) [
      | inl same ↦ cond-true (start == rank) (start ∷ rest) rest (eq-eqb start rank same) ∙ (λ i. same i ∷ own_past rank (start + 1) n (omega arith) i)
      | inr other ↦ cond-false (start == rank) (start ∷ rest) rest (ne_eqb start rank other) ∙ own_once rank (start + 1) n (omega arith) (omega arith)
    ]

pub all_ranks : (rank ranks : ℕ) → rank < ranks → IsPermutation (rank ∷ others rank ranks) (range_with_len 0 ranks)
all_ranks rank ranks within =
    IsPermutation-sym (range_with_len 0 ranks) (rank ∷ others rank ranks)
    (subst (λ (l : List ℕ). IsPermutation (range_with_len 0 ranks) (l ++ others rank ranks)) (own_once rank 0 ranks (omega arith) (omega arith))
    (IsPermutation-filter_both (λ s. s == rank) (λ s. not (s == rank)) (λ s. refl) (range_with_len 0 ranks)))

pub sources_received : (t : Criterion) (g : Division) (js now : List Particle) (rank : ℕ) (srcs : List ℕ) → map (λ (r : Renewal). r.src) (map (λ src. refresh_sent t g js now src rank) srcs) ≡ srcs
sources_received t g js now rank [] = refl
sources_received t g js now rank (s ∷ ss) = ap (λ rest. s ∷ rest) (sources_received t g js now rank ss)

-- the refreshes for a rank, in whatever order, are the values that it asks for
pub values_came : (t : Criterion) (g : Division) (js now : List Particle) (rank ranks : ℕ) (carried parcels : List Renewal) → rank < ranks → ranks ≡ rank_count g →
    carried ≡ refreshes_received t g js now rank ranks → IsPermutation carried parcels → AreValues (seen_from t g js now rank) parcels
values_came t g js now rank ranks carried parcels within counted is same =
    let m = seen_from t g js now rank in
    let src : Renewal → ℕ = λ r. r.src in
    let received = refreshes_received t g js now rank ranks in
    let came : IsPermutation received parcels = subst (λ (l : List Renewal). IsPermutation l parcels) is same in
    let sources : IsPermutation (others rank ranks) (map src parcels) =
    subst (λ (l : List ℕ). IsPermutation l (map src parcels)) (sources_received t g js now rank (others rank ranks)) (IsPermutation-map src received parcels came) in
    record {
      ranks = subst (λ (n : ℕ). IsPermutation (rank ∷ map src parcels) (range_with_len 0 n)) counted
          (IsPermutation-trans (rank ∷ map src parcels) (rank ∷ others rank ranks) (range_with_len 0 ranks)
          (IsPermutation-cons rank (map src parcels) (others rank ranks) (IsPermutation-sym (others rank ranks) (map src parcels) sources)) (all_ranks rank ranks within));
      values = All-permutation (λ (r : Renewal). r.values ≡ values_from m r.src) received parcels came
          (All-map (λ (r : Renewal). r.values ≡ values_from m r.src) (λ s. refresh_sent t g js now s rank) (others rank ranks) (λ k d inside. refl));
    }
