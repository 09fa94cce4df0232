-- The essential trees that come for a rank.
use Rattle.std.proofs.Common.{◌≡◌, ℕ, suc, ◌<◌, List, [], ◌∷◌, ◌++◌, length, get_or, take, sym, ◌∙◌, ap, subst, arith}
use Rattle.std.proofs.lemmas.List.{length-map, get_or-map, length-take-le}
use Rattle.std.proofs.Math.Seq.{take-suc}
use Rattle.pf_model.specs.declared.limits.TheConstants.{MOST_RANKS}
use Rattle.pf_model.specs.Criterion.{Criterion}
use Rattle.pf_model.specs.Division.{Division, IsDivision, rank_count}
use Rattle.pf_model.specs.Particle.{Particle}
use Rattle.std.specs.List.{AllPairs}
use Rattle.let_inbox.specs.Sources.{others}
use Rattle.let_inbox.specs.Laws.{OthersAscend, OthersAreTheSources, OthersAreFew}
use Rattle.essential_tree.specs.declared.tree_parcel.TreeParcel.{TreeParcel}
use Rattle.group_lists.specs.Gathering.{Gathering, IsNewSource, with_source}
use Rattle.tree_phase.specs.Parcels.{tree_sent, trees_received}
use Rattle.tree_phase.proofs.OtherLemmas.{source_at, not_yet}

-- a gather with the sources before a place
abbrev pub gathered_to : Gathering → List ℕ → ℕ → Gathering
gathered_to gather sources k = record gather { absorbed = take k sources }

module _ (X : Type 0) (t : Criterion) (g : Division) (js : List Particle) (rank ranks : ℕ) where
  pub length_received : length (trees_received {X = X} t g js rank ranks) ≡ length (others rank ranks)
  length_received = length-map (others rank ranks) (λ src. tree_sent {X = X} t g js src rank)

  pub received_at : (k : ℕ) (d : TreeParcel X) → k < length (others rank ranks) → get_or (trees_received t g js rank ranks) k d ≡ tree_sent t g js (get_or (others rank ranks) k 0) rank
  received_at k d within = get_or-map (λ src. tree_sent {X = X} t g js src rank) (others rank ranks) k 0 d within

  pub received_rise : OthersAscend → AllPairs (λ p q. p.tree.src < q.tree.src) (trees_received {X = X} t g js rank ranks)
  received_rise law i j d less within =
      let long = length_received in
      let inside : j < length (others rank ranks) = omega arith in
      let first = ap (λ (p : TreeParcel X). p.tree.src) (received_at i d (omega arith)) in
      let second = ap (λ (p : TreeParcel X). p.tree.src) (received_at j d inside) in
      let rise = law rank 0 ranks i j 0 less inside in
      omega arith

  -- the parcel whose turn it is
  module _ (parcels : List (TreeParcel X)) (are : parcels ≡ trees_received t g js rank ranks) (place : ℕ) (p : TreeParcel X) (turn : (place < length parcels) × (p ≡ get_or parcels place p)) where
    pub turn_within : place < length (others rank ranks)
    turn_within = (let some = turn.0 in let same = ap length are in let long = length_received in omega arith)

    pub turn_is : p ≡ tree_sent t g js (get_or (others rank ranks) place 0) rank
    turn_is = turn.1 ∙ ap (λ (l : List (TreeParcel X)). get_or l place p) are ∙ received_at place p turn_within

-- the next source can be absorbed
module _ (g : Division) (gather before : Gathering) (k : ℕ) (is : gather ≡ gathered_to before (others before.rank (rank_count g)) k) (within : k < length (others before.rank (rank_count g))) where
  pub new_source : OthersAscend → OthersAreTheSources → (src : ℕ) → get_or (others before.rank (rank_count g)) k 0 ≡ src → IsNewSource g gather src
  new_source up are src at =
      subst (λ (v : Gathering). IsNewSource g v src) (sym is) (record {
        within = subst (λ (n : ℕ). n < rank_count g) at (source_at are before.rank (rank_count g) k within).0;
        new = not_yet up are before.rank (rank_count g) k src within at;
      })

  pub few_absorbed : OthersAreFew → IsDivision g → length gather.absorbed < MOST_RANKS
  few_absorbed law division =
      let same = ap (λ (v : Gathering). length v.absorbed) is in
      let long = length-take-le k (others before.rank (rank_count g)) (omega arith) in
      let few = law before.rank 0 (rank_count g) in
      let most = division.few in
      omega arith

  pub one_more : (after : Gathering) (src : ℕ) → get_or (others before.rank (rank_count g)) k 0 ≡ src → after ≡ with_source gather src → after ≡ gathered_to before (others before.rank (rank_count g)) (suc k)
  one_more after src at more =
      more ∙ ap (λ (v : Gathering). with_source v src) is
      ∙ ap (λ (l : List ℕ). record before { absorbed = l })
      (ap (λ (n : ℕ). take k (others before.rank (rank_count g)) ++ n ∷ []) (sym at) ∙ sym (take-suc (others before.rank (rank_count g)) k 0 within))
