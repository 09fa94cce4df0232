-- The phase Leave, over all ranks.
use Rattle.std.proofs.Common.{◌≡◌, ℕ, zero, suc, ◌<◌, false, List, [], ◌∷◌, ◌++◌, length, get_or, map, refl, sym, ◌∙◌, ap, subst, arith}
use Rattle.std.specs.List.{All, range_with_len, zip}
use Rattle.std.proofs.lemmas.List.{get_or-map, length-map, map-append}
use Rattle.std.proofs.lemmas.List.Elements.{All-map, All-append}
use Rattle.std.proofs.lemmas.Simd.{map-map}
use Rattle.std.proofs.lemmas.Slice.Zip.{get_or-zip, length-zip}
use Rattle.pf_model.specs.Division.{rank_count}
use Rattle.pf_model.specs.Domains.{Multisection}
use Rattle.let_inbox.specs.declared.inbox.Inbox.{Inbox}
use Rattle.let_inbox.specs.Sources.{others}
use Rattle.exchange.specs.States.{Holding, Package, left_with, parcel_for, parcels_from}
use Rattle.all_to_all.specs.declared.post.Post.{Post}
use Rattle.all_to_all.specs.Posts.{state_of, fresh_state, PostState}
use Rattle.exchange_phase.specs.declared.leaving.Leaver.{Leaver}
use Rattle.exchange_phase.specs.Packages.{ArePosts, IsPost}
use Rattle.exchange_phase.specs.Leaving.{leaver_of, CanLeave, IsGone, HaveLeft, HaveSent, ArePartsOf}
use Rattle.exchange_phase.proofs.Maps.{maps_agree, at_maps, at_number, as_many}

module _ (s : Multisection) (inboxes : List (Inbox Package)) (hs : List Holding) (posts : List (Post Package))
    (numbers : map (λ h. h.rank) hs ≡ range_with_len 0 (length inboxes)) (are : ArePosts inboxes posts)
    (fresh : map state_of posts ≡ map (λ rank. fresh_state rank (length inboxes)) (range_with_len 0 (length inboxes))) where
  abbrev ns : List ℕ
  ns = range_with_len 0 (length inboxes)

  ranks_long : length hs ≡ length inboxes
  ranks_long = as_many (λ h. h.rank) hs (length inboxes) numbers

  posts_long : length posts ≡ length inboxes
  posts_long = as_many (λ p. (state_of p).rank) posts (length inboxes) are.ranks

  pairs_long : length (zip hs posts) ≡ length inboxes
  pairs_long = length-zip hs posts ∙ (let a = ranks_long in let b = posts_long in omega arith)

  pair : (k : ℕ) (d : Holding × Post Package) → k < length (zip hs posts) → get_or (zip hs posts) k d ≡ (get_or hs k d.0, get_or posts k d.1)
  pair k d within = let a = ranks_long in let b = posts_long in let c = pairs_long in get_or-zip hs posts k d (omega arith) (omega arith)

  pub can_leave : length inboxes ≡ rank_count s.grid → All (CanLeave s inboxes) (map leaver_of (zip hs posts))
  can_leave count =
      All-map (CanLeave s inboxes) leaver_of (zip hs posts)
      (λ k d within.
      let long = pairs_long in
      let a = ranks_long in let b = posts_long in
      let number : (get_or hs k d.0).rank ≡ k = at_number (λ (h : Holding). h.rank) hs (length inboxes) numbers k d.0 (omega arith) in
      let state : state_of (get_or posts k d.1) ≡ fresh_state (get_or ns k 0) (length inboxes) = at_maps state_of (λ rank. fresh_state rank (length inboxes)) posts ns fresh k d.1 0 (omega arith) in
      let rank : (state_of (get_or posts k d.1)).rank ≡ k = at_number (λ (p : Post Package). (state_of p).rank) posts (length inboxes) are.ranks k d.1 (omega arith) in
      let place : get_or ns k 0 ≡ k = sym (ap (λ (t : PostState Package). t.rank) state) ∙ rank in
      subst (λ (p : Holding × Post Package). CanLeave s inboxes (leaver_of p)) (sym (pair k d within)) (record {
        count = count;
        post = are.each k d.1 (omega arith);
        fresh = state ∙ ap (λ (n : ℕ). fresh_state {M = Package} n (length inboxes)) (place ∙ sym number);
      }))

  module _ (after : List Leaver) (have : HaveLeft s inboxes (map leaver_of (zip hs posts)) after) (found : All (λ l. l.refused ≡ false) after) where
    after_long : length after ≡ length hs
    after_long = have.all ∙ length-map (zip hs posts) leaver_of ∙ pairs_long ∙ sym ranks_long

    gone : (k : ℕ) (l : Leaver) (h : Holding) → k < length after → IsGone s inboxes (get_or hs k h) (get_or after k l).state (get_or after k l).post
    gone k l h within =
        let long = after_long in
        let pairs = pairs_long in
        let ranks = ranks_long in
        let many = length-map (zip hs posts) leaver_of in
        let before : get_or (map leaver_of (zip hs posts)) k l ≡ leaver_of (get_or hs k h, get_or posts k l.post) =
        get_or-map leaver_of (zip hs posts) k (h, l.post) l (omega arith) ∙ ap leaver_of (pair k (h, l.post) (omega arith)) in
        subst (λ (b : Leaver). IsGone s inboxes b.state (get_or after k l).state (get_or after k l).post) before (have.each k l (omega arith) (found k l within))

    pub all_left : map (λ l. l.state) after ≡ map (left_with s) hs
    all_left = maps_agree (λ (l : Leaver). l.state) (left_with s) after hs after_long (λ k l h within. (gone k l h within).left)

    pub all_sent : HaveSent s inboxes hs (map (λ l. l.post) after)
    all_sent = record {
      posts_are = record {
        each = All-map (IsPost inboxes) (λ (l : Leaver). l.post) after (λ k l within. (gone k l l.state within).post_is);
        ranks = map-map (λ (p : Post Package). (state_of p).rank) (λ (l : Leaver). l.post) after
            ∙ maps_agree (λ (l : Leaver). (state_of l.post).rank) (λ (h : Holding). h.rank) after hs after_long (λ k l h within. (gone k l h within).rank) ∙ numbers;
      };
      sent = map-map (λ (p : Post Package). (state_of p).sent) (λ (l : Leaver). l.post) after
          ∙ maps_agree (λ (l : Leaver). (state_of l.post).sent) (parcels_from s) after hs after_long (λ k l h within. (gone k l h within).sent);
      none_left = All-map (λ (p : Post Package). (state_of p).unsent ≡ []) (λ (l : Leaver). l.post) after (λ k l within. (gone k l l.state within).none_left);
      unsettled = All-map (λ (p : Post Package). (state_of p).settled ≡ []) (λ (l : Leaver). l.post) after (λ k l within. (gone k l l.state within).unsettled);
    }

-- the parcels of a rank are for the other ranks, and from it
targets_are : (s : Multisection) (h : Holding) (ns : List ℕ) → map (λ p. p.dst) (map (parcel_for s h) ns) ≡ ns
targets_are s h [] = refl
targets_are s h (n ∷ ns) = ap (λ rest. n ∷ rest) (targets_are s h ns)

pub targets_by : (s : Multisection) (h : Holding) (n : ℕ) (ps : List Package) (unsent : List ℕ) → n ≡ rank_count s.grid → ps ≡ parcels_from s h → unsent ≡ others h.rank n → map (λ p. p.dst) ps ≡ unsent
targets_by s h n ps unsent count is for = ap (map (λ (p : Package). p.dst)) is ∙ targets_are s h (others h.rank (rank_count s.grid)) ∙ ap (others h.rank) (sym count) ∙ sym for

pub sources_by : (s : Multisection) (h : Holding) (rank : ℕ) (ps : List Package) → ps ≡ parcels_from s h → rank ≡ h.rank → All (λ p. p.src ≡ rank) ps
sources_by s h rank ps is of =
    subst (All (λ (p : Package). p.src ≡ rank)) (sym is) (All-map (λ (p : Package). p.src ≡ rank) (parcel_for s h) (others h.rank (rank_count s.grid)) (λ k d within. sym of))

found_alone : (l : Leaver) → l.refused ≡ false → All (λ (x : Leaver). x.refused ≡ false) (l ∷ [])
found_alone l found zero d within = found
found_alone l found (suc k) d within = absurd (omega arith)

pub one_more_part : (ls : List Leaver) (l : Leaver) (states states_now : List Holding) (posts posts_now : List (Post Package)) → ArePartsOf ls states posts →
    l.refused ≡ false → states_now ≡ states ++ l.state ∷ [] → posts_now ≡ posts ++ l.post ∷ [] → ArePartsOf (ls ++ l ∷ []) states_now posts_now
one_more_part ls l states states_now posts posts_now parts found state post = record {
  found = All-append (λ (x : Leaver). x.refused ≡ false) ls (l ∷ []) parts.found (found_alone l found);
  states_are = state ∙ ap (λ (hs : List Holding). hs ++ l.state ∷ []) parts.states_are ∙ sym (map-append (λ (x : Leaver). x.state) ls (l ∷ []));
  posts_are = post ∙ ap (λ (ps : List (Post Package)). ps ++ l.post ∷ []) parts.posts_are ∙ sym (map-append (λ (x : Leaver). x.post) ls (l ∷ []));
}
