-- Both phases: each particle comes to its owner.
use Rattle.std.proofs.Common.{◌≡◌, ℕ, zero, suc, ◌+◌, ◌<◌, List, [], ◌∷◌, ◌++◌, Vec, Global, length, get_or, map, take, nat_eq, refl, sym, ◌∙◌, ap, subst, arith}
use Rattle.std.specs.List.{All, filter, flat_map, range_with_len, zip}
use Rattle.std.specs.List.Sorted.{IsPermutation}
use Rattle.std.proofs.lemmas.List.{get_or-map, length-map, map-id}
use Rattle.std.proofs.lemmas.List.Elements.{Contains-get_or}
use Rattle.std.proofs.lemmas.List.Folds.{flat_map-map}
use Rattle.std.proofs.lemmas.List.FromFn.{length-range_with_len, get_or-range_with_len}
use Rattle.std.proofs.lemmas.List.Sorted.{length_permutation}
use Rattle.std.proofs.lemmas.Slice.Zip.{get_or-zip, length-zip}
use Rattle.pf_model.specs.Division.{Division, rank_count}
use Rattle.pf_model.specs.Domains.{Multisection, owner, particles_of, cuts_for}
use Rattle.pf_model.specs.Particle.{Particle}
use Rattle.pf_model.specs.Particles.{AreBodies, by_id}
use Rattle.let_inbox.specs.declared.inbox.Inbox.{Inbox}
use Rattle.let_inbox.specs.declared.tokens.Spent.{Spent}
use Rattle.let_inbox.specs.Sources.{others}
use Rattle.exchange.specs.States.{Holding, Package, left_with, owned_by, parcels_from}
use Rattle.exchange.specs.ExchangeLaws.{AreOfAllRanks, particles_held, parcels_to, HasItsOwn, EachRankHasItsOwn}
use Rattle.all_to_all.specs.declared.post.Post.{Post}
use Rattle.all_to_all.specs.Handed.{EachHasTokens, HasSentToAll, all_carried, sent_for}
use Rattle.all_to_all.specs.Laws.{EachOtherSentOne}
use Rattle.all_to_all.specs.Posts.{state_of, PostState}
use Rattle.exchange_phase.specs.declared.arriving.Due.{Due}
use Rattle.exchange_phase.specs.Packages.{src_of, dst_of, ArePosts, AreTokens}
use Rattle.exchange_phase.specs.Leaving.{HaveSent}
use Rattle.exchange_phase.specs.Arriving.{due_of, CanSettle, IsSettledFrom, AreSettledFrom}
use Rattle.exchange_phase.specs.Laws.{PhaseLaws}
use Rattle.exchange_phase.specs.Ranks.{HaveTogether, with_owners}
use Rattle.exchange_phase.proofs.Leave.{targets_by}
use Rattle.exchange_phase.proofs.Maps.{maps_agree, maps_long, at_maps, at_number, as_many, first_of, written}
use Rattle.exchange_phase.proofs.Sent.{came_for}

-- ---- what was sent

module _ (s : Multisection) (inboxes : List (Inbox Package)) (hs : List Holding) (posts : List (Post Package))
    (count : length inboxes ≡ rank_count s.grid) (ranks : AreOfAllRanks s hs) (sent : HaveSent s inboxes hs posts) (one : EachOtherSentOne dst_of) where
  posts_long : length posts ≡ length hs
  posts_long = maps_long (λ (p : Post Package). (state_of p).sent) (parcels_from s) posts hs sent.sent

  pub sent_to_all : All (HasSentToAll dst_of (length inboxes)) posts
  sent_to_all k p within =
      let long = posts_long in
      let h : Holding = record { rank = 0; bodies = [] } in
      let rank : (state_of (get_or posts k p)).rank ≡ k = at_number (λ (p : Post Package). (state_of p).rank) posts (length inboxes) sent.posts_are.ranks k p within in
      let number : (get_or hs k h).rank ≡ k = at_number (λ (h : Holding). h.rank) hs (rank_count s.grid) ranks k h (omega arith) in
      record {
        none_left = sent.none_left k p within;
        sent_to = targets_by s (get_or hs k h) (length inboxes) (state_of (get_or posts k p)).sent (others (state_of (get_or posts k p)).rank (length inboxes)) count
            (at_maps (λ (p : Post Package). (state_of p).sent) (parcels_from s) posts hs sent.sent k p h within)
            (ap (λ (n : ℕ). others n (length inboxes)) (rank ∙ sym number));
      }

  sent_for_rank : (rank : ℕ) → rank < rank_count s.grid → flat_map (sent_for dst_of rank) posts ≡ parcels_to s hs rank
  sent_for_rank rank below =
      let for_rank = λ (m : Package). nat_eq m.dst rank in
      sym (flat_map-map (filter for_rank) (λ (p : Post Package). (state_of p).sent) posts)
      ∙ ap (flat_map (filter for_rank)) sent.sent
      ∙ flat_map-map (filter for_rank) (parcels_from s) hs
      ∙ came_for one s hs ranks rank below

  module _ (lists : List (Vec (Spent Package) Global))
      (carried : map (λ l. all_carried l.items) lists ≡ map (λ rank. flat_map (sent_for dst_of rank) posts) (range_with_len 0 (length inboxes))) where
    lists_long : length lists ≡ length inboxes
    lists_long = maps_long (λ (l : Vec (Spent Package) Global). all_carried l.items) (λ rank. flat_map (sent_for dst_of rank) posts) lists (range_with_len 0 (length inboxes)) carried ∙ length-range_with_len 0 (length inboxes)

    carried_for : (k : ℕ) (l : Vec (Spent Package) Global) → k < length inboxes → all_carried (get_or lists k l).items ≡ parcels_to s hs k
    carried_for k l below =
        let long = lists_long in
        let place : get_or (range_with_len 0 (length inboxes)) k 0 ≡ k = get_or-range_with_len 0 (length inboxes) k 0 below ∙ omega arith in
        at_maps (λ (l : Vec (Spent Package) Global). all_carried l.items) (λ rank. flat_map (sent_for dst_of rank) posts) lists (range_with_len 0 (length inboxes)) carried k l 0 (omega arith)
        ∙ ap (λ rank. flat_map (sent_for dst_of rank) posts) place ∙ sent_for_rank k (omega arith)

    module _ (left : List Holding) (left_is : left ≡ map (left_with s) hs) (after : List (Post Package)) (after_are : ArePosts inboxes after)
        (emptied : map state_of after ≡ map (λ p. record (state_of p) { sent = [] }) posts)
        (tokens : EachHasTokens src_of inboxes (length inboxes) (map (λ l. l.items) lists))
        (law : EachRankHasItsOwn) (bodies : AreBodies (particles_held hs)) where
      abbrev ts : List ((Holding × Post Package) × Vec (Spent Package) Global)
      ts = zip (zip left after) lists

      hs_long : length hs ≡ length inboxes
      hs_long = as_many (λ (h : Holding). h.rank) hs (rank_count s.grid) ranks ∙ sym count

      left_long : length left ≡ length inboxes
      left_long = ap length left_is ∙ length-map hs (left_with s) ∙ hs_long

      after_long : length after ≡ length inboxes
      after_long = as_many (λ (p : Post Package). (state_of p).rank) after (length inboxes) after_are.ranks

      pairs_long : length (zip left after) ≡ length inboxes
      pairs_long = length-zip left after ∙ (let a = left_long in let b = after_long in omega arith)

      ts_long : length ts ≡ length inboxes
      ts_long = length-zip (zip left after) lists ∙ (let a = pairs_long in let b = lists_long in omega arith)

      abbrev at : ℕ → (Holding × Post Package) × Vec (Spent Package) Global → (Holding × Post Package) × Vec (Spent Package) Global
      at k t = ((left_with s (get_or hs k t.0.0), get_or after k t.0.1), get_or lists k t.1)

      ts_are : (k : ℕ) (t : (Holding × Post Package) × Vec (Spent Package) Global) → k < length inboxes → get_or ts k t ≡ at k t
      ts_are k t below =
          let a = left_long in let b = after_long in let c = pairs_long in let d = lists_long in let e = hs_long in
          let pair : get_or (zip left after) k t.0 ≡ (get_or left k t.0.0, get_or after k t.0.1) = get_or-zip left after k t.0 (omega arith) (omega arith) in
          let state : get_or left k t.0.0 ≡ left_with s (get_or hs k t.0.0) = ap (λ (l : List Holding). get_or l k t.0.0) left_is ∙ get_or-map (left_with s) hs k t.0.0 t.0.0 (omega arith) in
          get_or-zip (zip left after) lists k t (omega arith) (omega arith) ∙ (λ i. (pair i, get_or lists k t.1)) ∙ (λ i. ((state i, get_or after k t.0.1), get_or lists k t.1))

      own : (k : ℕ) (h : Holding) (l : Vec (Spent Package) Global) → k < length inboxes → (parcels : List Package) → IsPermutation (all_carried (get_or lists k l).items) parcels → HasItsOwn s hs (get_or hs k h) parcels
      own k h l below parcels come =
          let long = hs_long in
          let number : (get_or hs k h).rank ≡ k = at_number (λ (h : Holding). h.rank) hs (rank_count s.grid) ranks k h (omega arith) in
          law s hs (get_or hs k h) parcels ranks bodies (Contains-get_or hs k h (omega arith))
          (subst (λ (ps : List Package). IsPermutation ps parcels) (carried_for k l below ∙ ap (parcels_to s hs) (sym number)) come)

      pub can_settle : All (λ t. CanSettle inboxes (due_of t)) ts
      can_settle k t within =
          let below : k < length inboxes = (let long = ts_long in omega arith) in
          let a = after_long in let b = posts_long in let c = hs_long in let d = lists_long in
          let p = t.0.1 in
          let rank : (state_of (get_or after k p)).rank ≡ k = at_number (λ (p : Post Package). (state_of p).rank) after (length inboxes) after_are.ranks k p (omega arith) in
          let emptied_at : state_of (get_or after k p) ≡ record (state_of (get_or posts k p)) { sent = [] } = at_maps state_of (λ p. record (state_of p) { sent = [] }) after posts emptied k p p (omega arith) in
          let list : get_or (map (λ (l : Vec (Spent Package) Global). l.items) lists) k [] ≡ (get_or lists k t.1).items = get_or-map (λ (l : Vec (Spent Package) Global). l.items) lists k t.1 [] (omega arith) in
          subst (λ (x : (Holding × Post Package) × Vec (Spent Package) Global). CanSettle inboxes (due_of x)) (sym (ts_are k t below)) (record {
            post = after_are.each k p (omega arith);
            unsettled = ap (λ (x : PostState Package). x.settled) emptied_at ∙ sent.unsettled k p (omega arith);
            tokens = subst (λ n. AreTokens inboxes n (get_or lists k t.1).items) (sym rank) (subst (AreTokens inboxes k) list (tokens.each k below));
            bodies = λ parcels come. (own k t.0.0 t.1 below parcels come).are_bodies;
          })

      owned_rank : ℕ → Holding
      owned_rank rank = record { rank = rank; bodies = by_id (owned_by s rank (particles_held hs)) }

      pub all_own : (settled_ranks : List Holding) → AreSettledFrom (map due_of ts) settled_ranks →
          settled_ranks ≡ map (λ rank. record { rank = rank; bodies = by_id (owned_by s rank (particles_held hs)) }) (range_with_len 0 (rank_count s.grid))
      unfolding owned_rank
      all_own settled_ranks are =
          let long = ts_long in let many = length-map ts due_of in let total = are.all in let hl = hs_long in
          let numbers = length-range_with_len 0 (rank_count s.grid) in
          sym (map-id settled_ranks)
          ∙ maps_agree (λ (h : Holding). h) owned_rank settled_ranks (range_with_len 0 (rank_count s.grid)) (omega arith)
          (λ k h n within.
          let below : k < length inboxes = omega arith in
          let la = after_long in let ll = lists_long in
          let l = first_of lists (omega arith) in
          let t : (Holding × Post Package) × Vec (Spent Package) Global = ((h, first_of after (omega arith)), l) in
          let d : get_or (map due_of ts) k (due_of t) ≡ due_of (at k t) = get_or-map due_of ts k t (due_of t) (omega arith) ∙ ap due_of (ts_are k t below) in
          let from : IsSettledFrom (due_of (at k t)) (get_or settled_ranks k h) = subst (λ (x : Due). IsSettledFrom x (get_or settled_ranks k h)) d (are.each k (due_of t) h (omega arith)) in
          let has = own k h l below from.parcels from.come in
          let number : (get_or hs k h).rank ≡ k = at_number (λ (h : Holding). h.rank) hs (rank_count s.grid) ranks k h (omega arith) in
          let place : get_or (range_with_len 0 (rank_count s.grid)) k n ≡ k = get_or-range_with_len 0 (rank_count s.grid) k n (omega arith) ∙ omega arith in
          from.after_is ∙ (λ i. record { rank = (get_or hs k h).rank; bodies = has.ordered i }) ∙ ap owned_rank (number ∙ sym place))

-- ---- the definition of the build

agree_on_ranks : {Y : Type 0} (f g : ℕ → Y) (start len : ℕ) → ((n : ℕ) → f n ≡ g n) → map f (range_with_len start len) ≡ map g (range_with_len start len)
agree_on_ranks f g start zero each = refl
agree_on_ranks f g start (suc len) each = (λ i. each start i ∷ agree_on_ranks f g (start + 1) len each i)

module _ (laws : PhaseLaws) (g : Division) (js : List Particle) (hs : List Holding) (bodies : AreBodies js) (have : HaveTogether g js hs) where
  pub held_bodies : AreBodies (particles_held hs)
  held_bodies = record {
    few = (let same = length_permutation js (particles_held hs) have.all in let few = bodies.few in omega arith);
    distinct = laws.kept js (particles_held hs) have.all bodies.distinct;
  }

  -- what a rank owns of all that ranks have is what it owns of the particles
  owns_same : (rank : ℕ) → by_id (owned_by (cuts_for g js) rank (particles_held hs)) ≡ by_id (particles_of g js rank)
  unfolding owner
  owns_same rank =
      let held : List Particle = particles_held hs in
      let same = laws.cuts g js held bodies.distinct have.all in
      let parts = (laws.domains g js held bodies.distinct have.all).2 rank in
      ap (λ (s : Multisection). by_id (owned_by s rank held)) same
      ∙ sym (laws.by_ids (particles_of g js rank) (particles_of g held rank) (laws.some (λ j. nat_eq (owner g js j.at) rank) js bodies.distinct) parts)

  holding : ℕ → List Particle → Holding
  holding rank owned = record { rank = rank; bodies = owned }

  of_all_ranks : AreOfAllRanks (cuts_for g js) hs
  unfolding cuts_for
  of_all_ranks = have.by_number

  owned_is : map (λ rank. record { rank = rank; bodies = by_id (owned_by (cuts_for g js) rank (particles_held hs)) }) (range_with_len 0 (rank_count (cuts_for g js).grid)) ≡ with_owners g js
  unfolding cuts_for holding
  owned_is =
      agree_on_ranks (λ rank. holding rank (by_id (owned_by (cuts_for g js) rank (particles_held hs)))) (λ rank. holding rank (by_id (particles_of g js rank))) 0 (rank_count g)
      (λ rank. ap (holding rank) (owns_same rank))

  -- by these cuts ranks are those of the grid, and own what the definition gives them
  pub record OwnBy (s : Multisection) : Type 0 where
    pub ranks : AreOfAllRanks s hs
    pub owners : map (λ rank. record { rank = rank; bodies = by_id (owned_by s rank (particles_held hs)) }) (range_with_len 0 (rank_count s.grid)) ≡ with_owners g js

  pub own_by : (s : Multisection) → s ≡ cuts_for g js → OwnBy s
  own_by s by = subst OwnBy (sym by) (record { ranks = of_all_ranks; owners = owned_is })

-- ---- what is handed from phase to phase

-- what is settled
pub record Arrives (g : Division) (js : List Particle) (inboxes : List (Inbox Package)) (ts : List ((Holding × Post Package) × Vec (Spent Package) Global)) : Type 0 where
  pub can : All (λ t. CanSettle inboxes (due_of t)) ts
  pub owners : (ranks : List Holding) → AreSettledFrom (map due_of ts) ranks → ranks ≡ with_owners g js

module _ (laws : PhaseLaws) (g : Division) (js : List Particle) (hs : List Holding) (bodies : AreBodies js) (have : HaveTogether g js hs) (s : Multisection) (by : s ≡ cuts_for g js)
    (inboxes : List (Inbox Package)) (count : length inboxes ≡ rank_count s.grid) (posts : List (Post Package)) (sent : HaveSent s inboxes hs posts) where
  pub each_sent_to_all : (lent_inboxes : List (Inbox Package)) (lent : List (Post Package)) → inboxes ≡ lent_inboxes → lent ≡ posts → All (HasSentToAll dst_of (length lent_inboxes)) lent
  each_sent_to_all lent_inboxes lent same of =
      subst (All (HasSentToAll dst_of (length lent_inboxes))) (sym of)
      (subst (λ (is : List (Inbox Package)). All (HasSentToAll dst_of (length is)) posts) same (sent_to_all s inboxes hs posts count (own_by laws g js hs bodies have s by).ranks sent laws.sent))

  pub arrives : (left : List Holding) → left ≡ map (left_with s) hs → (after : List (Post Package)) → ArePosts inboxes after → map state_of after ≡ map (λ p. record (state_of p) { sent = [] }) posts →
      (lists : List (Vec (Spent Package) Global)) → EachHasTokens src_of inboxes (length inboxes) (map (λ l. l.items) lists) →
      map (λ l. all_carried l.items) lists ≡ map (λ rank. flat_map (sent_for dst_of rank) posts) (range_with_len 0 (length inboxes)) →
      (n : ℕ) (rest : List (Post Package)) → n ≡ length after → Arrives g js inboxes (zip (zip left (take n (after ++ rest))) lists)
  arrives left left_is after after_are emptied lists tokens carried n rest long =
      let home = own_by laws g js hs bodies have s by in
      let held = held_bodies laws g js hs bodies have in
      subst (λ (ps : List (Post Package)). Arrives g js inboxes (zip (zip left ps) lists)) (sym (written n after rest long)) (record {
        can = can_settle s inboxes hs posts count home.ranks sent laws.sent lists carried left left_is after after_are emptied tokens laws.own held;
        owners = λ ranks are. all_own s inboxes hs posts count home.ranks sent laws.sent lists carried left left_is after after_are emptied tokens laws.own held ranks are ∙ home.owners;
      })
