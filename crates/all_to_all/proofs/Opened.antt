-- Inboxes that are opened one after another.
use Rattle.std.proofs.Common.{◌≡◌, ℕ, zero, suc, ◌+◌, ◌-◌, ◌<◌, ◌≤◌, List, [], ◌∷◌, ◌++◌, length, map, map-id, flat_map, reverse, drop, get_or, Some, vec_capacity, refl, ap, sym, ◌∙◌, subst, arith, length-append}
use mathlib.Core.Logic.{dite}
use native.Mathlib.Decide.{dec_lt}
use Rattle.std.specs.List.{slice_get, range_with_len}
use Rattle.std.proofs.lemmas.List.{map-append, length-map, get_or-map}
use Rattle.std.proofs.lemmas.List.FromFn.{length-range_with_len, get_or-range_with_len}
use Rattle.std.proofs.lemmas.List.Elements.{All-nil, All-same, All-push, All-weaker, All-get_or}
use Rattle.std.proofs.lemmas.Option.{same_Some, slice_get_within}
use Rattle.let_inbox.specs.declared.inbox.Inbox.{Inbox}
use Rattle.let_inbox.specs.Sources.{others_from}
use Rattle.let_inbox.specs.Tokens.{rank_of, ranks_of, carried}
use Rattle.all_to_all.specs.declared.opening.Column.{Column}
use Rattle.all_to_all.specs.declared.outgoing.ToSend.{ToSend}
use Rattle.all_to_all.specs.declared.outgoing.Token.{Token}
use Rattle.all_to_all.specs.declared.post.Post.{Post}
use Rattle.all_to_all.specs.Outgoing.{AtRank, AreInboxes, unsent_of, IsPutterFrom, IsTokenFrom}
use Rattle.all_to_all.specs.Posts.{state_of, fresh_state, PostState, FitsInboxes, ArePostsOf}
use Rattle.all_to_all.specs.Opening.{IsColumnOf, IsUnused, IsOpenTo, IsHandedOut}
use Rattle.all_to_all.proofs.OtherRanks.{ranks_more}

module _ {M : Type 0} where
  get_before : (xs ys : List (Inbox M)) (k : ℕ) → k < length xs → slice_get (xs ++ ys) k ≡ slice_get xs k
  get_before [] ys k within = absurd (omega arith)
  get_before (x ∷ xs) ys zero within = refl
  get_before (x ∷ xs) ys (suc k) within = get_before xs ys k (omega arith)

  get_last : (xs : List (Inbox M)) (i : Inbox M) → slice_get (xs ++ i ∷ []) (length xs) ≡ Some i
  get_last [] i = refl
  get_last (x ∷ xs) i = get_last xs i

  at_before : (xs ys : List (Inbox M)) (k : ℕ) (P : Inbox M → Type 0) → k < length xs → AtRank xs k P → AtRank (xs ++ ys) k P
  at_before xs ys k P within holds = λ i there. holds i (sym (get_before xs ys k within) ∙ there)

  pub at_last : (xs : List (Inbox M)) (i : Inbox M) (k : ℕ) (P : Inbox M → Type 0) → length xs ≡ k → P i → AtRank (xs ++ i ∷ []) k P
  at_last xs i k P last holds = λ j there. subst P (same_Some i j (sym (ap (slice_get (xs ++ i ∷ [])) (sym last) ∙ get_last xs i) ∙ there)) holds

  one_more : (xs : List (Inbox M)) (i : Inbox M) → length (xs ++ i ∷ []) ≡ length xs + 1
  one_more xs i = let e = length-append xs (i ∷ []) in omega arith

  inboxes_more : (ranks : ℕ) (xs : List (Inbox M)) (i : Inbox M) → AreInboxes ranks xs → rank_of i ≡ length xs → ranks_of i ≡ ranks → AreInboxes ranks (xs ++ i ∷ [])
  inboxes_more ranks xs i are rank all = record {
    place = λ k. dite (dec_lt k (length xs))
        (λ within. at_before xs (i ∷ []) k (λ j. (rank_of j ≡ k) × (ranks_of j ≡ ranks)) within (are.place k))
        (λ past j there.
        let within = slice_get_within (xs ++ i ∷ []) k j there in
        let long = one_more xs i in
        let last : length xs ≡ k = omega arith in
        at_last xs i k (λ j. (rank_of j ≡ k) × (ranks_of j ≡ ranks)) last (rank ∙ last, all) j there);
  }

  column_more : (ranks : ℕ) (xs : List (Inbox M)) (i : Inbox M) (c : Column M) → IsColumnOf ranks xs c → IsColumnOf ranks (xs ++ i ∷ []) c
  column_more ranks xs i c was = record {
    within = let long = one_more xs i in let within = was.within in omega arith;
    putters = at_before xs (i ∷ []) c.target _ was.within was.putters;
    sources = was.sources;
  }

  module _ (source target : M → ℕ) (has_terms : M → Type 0) where
    unused_more : (ranks : ℕ) (xs : List (Inbox M)) (i : Inbox M) (p : Post M) → IsUnused source target has_terms ranks xs p → IsUnused source target has_terms ranks (xs ++ i ∷ []) p
    unused_more ranks xs i p was = record {
      within = let long = one_more xs i in let within = was.within in omega arith;
      incoming = at_before xs (i ∷ []) p.rank _ was.within was.incoming;
      sources = was.sources;
      unsent = was.unsent;
      tokens = was.tokens;
      received = was.received;
      settled = was.settled;
      room = was.room;
    }

    pub opens_next : (ranks : ℕ) (inboxes : List (Inbox M)) (posts : List (Post M)) (columns : List (Column M)) (rank : ℕ) (i : Inbox M) (p : Post M) (c : Column M)
        → IsOpenTo source target has_terms rank ranks inboxes posts columns → rank_of i ≡ rank → ranks_of i ≡ ranks → p.rank ≡ rank → c.target ≡ rank
        → IsUnused source target has_terms ranks (inboxes ++ i ∷ []) p → IsColumnOf ranks (inboxes ++ i ∷ []) c
        → IsOpenTo source target has_terms (rank + 1) ranks (inboxes ++ i ∷ []) (posts ++ p ∷ []) (columns ++ c ∷ [])
    opens_next ranks inboxes posts columns rank i p c was i_rank i_ranks p_rank c_rank unused column = record {
      count = let long = one_more inboxes i in let count = was.count in omega arith;
      are = inboxes_more ranks inboxes i was.are (i_rank ∙ sym was.count) i_ranks;
      posts_fit = All-push (IsUnused source target has_terms ranks (inboxes ++ i ∷ [])) posts p
          (All-weaker (IsUnused source target has_terms ranks inboxes) _ (unused_more ranks inboxes i) posts was.posts_fit) unused;
      posts_are = map-append (λ (p : Post M). p.rank) posts (p ∷ []) ∙ (λ k. was.posts_are k ++ p_rank k ∷ []) ∙ sym (ranks_more rank);
      columns_fit = All-push (IsColumnOf ranks (inboxes ++ i ∷ [])) columns c
          (All-weaker (IsColumnOf ranks inboxes) _ (column_more ranks inboxes i) columns was.columns_fit) column;
      columns_are = map-append (λ (c : Column M). c.target) columns (c ∷ []) ∙ (λ k. was.columns_are k ++ c_rank k ∷ []) ∙ sym (ranks_more rank);
    }

    fits_unused : (inboxes : List (Inbox M)) (p : Post M) → AreInboxes (length inboxes) inboxes → IsUnused source target has_terms (length inboxes) inboxes p
        → FitsInboxes source target has_terms (length inboxes) inboxes p
    fits_unused inboxes p are unused = record {
      within = unused.within;
      incoming = unused.incoming;
      outgoing = record {
        inboxes_are = are;
        within = All-same (λ s. s.target < length inboxes) _ [] unused.unsent (All-nil (λ (s : ToSend M). s.target < length inboxes));
        putters = All-same (IsPutterFrom inboxes p.rank) _ [] unused.unsent (All-nil (IsPutterFrom inboxes p.rank));
        tokens = All-same (IsTokenFrom source target inboxes p.rank) _ [] unused.tokens (All-nil (IsTokenFrom source target inboxes p.rank));
        room = let a = ap length unused.unsent in let b = ap length unused.tokens in let d = p.outgoing.unsent.ok in let e = p.outgoing.tokens.ok in omega arith;
      };
      sources = record { arrivals = unused.sources.arrivals; taken = unused.sources.taken };
    }

    -- the posts when all inboxes are open
    all_open : (inboxes : List (Inbox M)) (posts : List (Post M)) (columns : List (Column M)) → IsOpenTo source target has_terms (length inboxes) (length inboxes) inboxes posts columns
        → IsHandedOut source target has_terms (length inboxes) inboxes posts
    all_open inboxes posts columns was =
        let n = length inboxes in
        let rank_of_post : Post M → ℕ = λ p. p.rank in
        let count : length posts ≡ n = sym (length-map posts rank_of_post) ∙ ap length was.posts_are ∙ length-range_with_len 0 n in
        record {
          count = count;
          fit = All-weaker (IsUnused source target has_terms n inboxes) _ (λ p unused. fits_unused inboxes p was.are unused) posts was.posts_fit;
          room = All-weaker (IsUnused source target has_terms n inboxes) (λ p. (p.outgoing.tokens.items ≡ []) × (n ≤ vec_capacity p.outgoing.tokens)) (λ p unused. (unused.tokens, unused.room)) posts was.posts_fit;
          are = λ rank d in_ranks.
              let p = get_or posts rank d in
              let unused = All-get_or (IsUnused source target has_terms n inboxes) posts rank d (omega arith) was.posts_fit in
              let at = get_or-map rank_of_post posts rank d 0 (omega arith) in
              let there = get_or-range_with_len 0 n rank 0 in_ranks in
              let read = ap (λ ranks. get_or ranks rank 0) was.posts_are in
              let is : p.rank ≡ rank = omega arith in
              let nought : n - n ≡ 0 = omega arith in
              let left : unsent_of p.outgoing ≡ others_from rank n (n - n) = ap (λ ss. reverse (map (λ (s : ToSend M). s.target) ss)) unused.unsent ∙ sym (ap (others_from rank n) nought) in
              let sent = ap (λ ts. flat_map (λ (t : Token M). carried t.spent) ts) unused.tokens in
              λ k. record { rank = is k; unsent = left k; sent = sent k; received = unused.received k; settled = unused.settled k };
        }

    pub none_handed : (ranks : ℕ) (inboxes : List (Inbox M)) (posts : List (Post M)) (columns : List (Column M))
        → IsOpenTo source target has_terms ranks ranks inboxes posts columns → IsHandedOut source target has_terms ranks inboxes posts
    none_handed ranks inboxes posts columns was =
        subst (λ k. IsHandedOut source target has_terms k inboxes posts) was.count
        (all_open inboxes posts columns (subst (λ k. IsOpenTo source target has_terms k k inboxes posts columns) (sym was.count) was))

-- two lists that agree at each number
pub same_at_each : {A X : Type 0} (f : A → X) (g : ℕ → X) (first : ℕ) (xs : List A) → ((k : ℕ) (d : A) → k < length xs → f (get_or xs k d) ≡ g (first + k))
    → map f xs ≡ map g (range_with_len first (length xs))
same_at_each f g first [] agree = refl
same_at_each f g first (x ∷ xs) agree =
    let here : f x ≡ g first = agree 0 x (omega arith) ∙ ap g (let e : first + 0 ≡ first = omega arith in e) in
    let rest = same_at_each f g (first + 1) xs (λ k d within. agree (suc k) d (omega arith) ∙ ap g (let e : first + suc k ≡ (first + 1) + k = omega arith in e)) in
    λ i. here i ∷ rest i

-- lists that end alike
pub snoc_same : (xs ys : List ℕ) (x y : ℕ) → length xs ≡ length ys → xs ++ x ∷ [] ≡ ys ++ y ∷ [] → (xs ≡ ys) × (x ≡ y)
snoc_same [] [] x y long same = (refl, cc)
snoc_same [] (b ∷ ys) x y long same = absurd (omega arith)
snoc_same (a ∷ xs) [] x y long same = absurd (omega arith)
snoc_same (a ∷ xs) (b ∷ ys) x y long same =
    let h : a ≡ b = cc in
    let r = snoc_same xs ys x y (omega arith) (ap (drop 1) same) in
    (λ i. h i ∷ r.0 i, r.1)

module _ {M : Type 0} where
  -- the putters of the last inbox
  pub column_last : (before left : List (Column M)) (c : Column M) → before ≡ left ++ c ∷ [] → map (λ (c : Column M). c.target) before ≡ range_with_len 0 (length before)
      → (c.target ≡ length left) × (map (λ (c : Column M). c.target) left ≡ range_with_len 0 (length left)) × (length before ≡ length left + 1)
  column_last before left c is are =
      let target : Column M → ℕ = λ c. c.target in
      let long : length before ≡ length left + 1 = let a = ap length is in let b = length-append left (c ∷ []) in omega arith in
      let same : map target left ++ c.target ∷ [] ≡ range_with_len 0 (length left) ++ length left ∷ [] =
      sym (map-append target left (c ∷ [])) ∙ sym (ap (map target) is) ∙ are ∙ ap (range_with_len 0) long ∙ ranks_more (length left) in
      let parts = snoc_same (map target left) (range_with_len 0 (length left)) c.target (length left) (length-map left target ∙ sym (length-range_with_len 0 (length left))) same in
      (parts.1, parts.0, long)

  module _ (source target : M → ℕ) (has_terms : M → Type 0) where
    -- the posts when all putters are handed out
    pub all_handed : (ranks first : ℕ) (inboxes : List (Inbox M)) (posts : List (Post M)) → first ≡ 0 → length inboxes ≡ ranks → IsHandedOut source target has_terms first inboxes posts
        → ArePostsOf source target has_terms inboxes posts × (map state_of posts ≡ map (λ rank. fresh_state rank ranks) (range_with_len 0 ranks))
    all_handed ranks first inboxes posts none all handed =
        let n = length inboxes in
        let count = handed.count in
        let from : (k : ℕ) (d : Post M) → k < length posts → state_of (get_or posts k d) ≡ fresh_state (0 + k) ranks = λ k d within.
        let is : k ≡ 0 + k = omega arith in
        let many : n - first ≡ ranks = omega arith in
        handed.are k d (omega arith) ∙ (λ i. record { rank = is i; unsent = others_from (is i) (none i) (many i); sent = []; received = []; settled = [] }) in
        let ranks_are : map (λ (p : Post M). p.rank) posts ≡ range_with_len 0 (length posts) =
        same_at_each (λ (p : Post M). p.rank) (λ x. x) 0 posts (λ k d within. ap (λ (s : PostState M). s.rank) (from k d within)) ∙ map-id (range_with_len 0 (length posts)) in (
          record { each = handed.fit; ranks = ranks_are ∙ ap (range_with_len 0) count },
          same_at_each state_of (λ rank. fresh_state rank ranks) 0 posts from ∙ ap (λ k. map (λ rank. fresh_state rank ranks) (range_with_len 0 k)) (count ∙ all),
        )
