-- The posts of ranks that send one parcel to each other, from phase to phase.
use Rattle.std.proofs.Common.{◌≡◌, ℕ, ◌<◌, ◌==◌, List, [], ◌∷◌, length, get_or, map, Bool, refl, sym, ◌∙◌, ap, subst, arith}
use Rattle.std.specs.Prelude.{Vec}
use Rattle.std.specs.Global.{Global}
use Rattle.std.specs.List.{All, filter, flat_map, range_with_len}
use Rattle.std.proofs.lemmas.List.{length-map, get_or-map, same_lists}
use Rattle.std.proofs.lemmas.List.Folds.{flat_map-map}
use Rattle.std.proofs.lemmas.List.FromFn.{get_or-map-range_with_len, get_or-range_with_len, length-map-range_with_len, length-range_with_len}
use Rattle.let_inbox.specs.declared.inbox.Inbox.{Inbox}
use Rattle.let_inbox.specs.declared.tokens.Spent.{Spent}
use Rattle.let_inbox.specs.Sources.{others}
use Rattle.all_to_all.specs.declared.post.Post.{Post}
use Rattle.all_to_all.specs.Exchanging.{EachByRank, IsFresh, HasSent, HaveAllSent, CanAllSettle}
use Rattle.all_to_all.specs.Handed.{AreTokensFor, EachHasTokens, HasSentToAll, all_carried, sent_for}
use Rattle.all_to_all.specs.Laws.{EachOtherSentOne}
use Rattle.all_to_all.specs.Posts.{PostState, state_of, fresh_state, ArePostsOf}

some_of : {X : Type 0} (xs : List X) (k : ℕ) → k < length xs → X
some_of [] k within = absurd (omega arith)
some_of (x ∷ xs) k within = x

module _ {M : Type 0} (source target : M → ℕ) (has_terms : M → Type 0) where
  -- ---- posts that are opened

  module _ (inboxes : List (Inbox M)) (posts : List (Post M)) (n : ℕ) (counted : length inboxes ≡ n)
      (are : ArePostsOf source target has_terms inboxes posts) where
    pub posts_counted : length posts ≡ n
    posts_counted =
        sym (length-map posts (λ (p : Post M). (state_of p).rank)) ∙ ap length are.ranks ∙ length-range_with_len 0 (length inboxes) ∙ counted

    pub posts_fresh : map state_of posts ≡ map (λ rank. fresh_state rank n) (range_with_len 0 n) → EachByRank (IsFresh source target has_terms inboxes) posts
    posts_fresh fresh rank x within = record {
      of_inboxes = are.each rank x within;
      fresh =
          (let long = posts_counted in
          sym (get_or-map state_of posts rank x (state_of x) within)
          ∙ ap (λ (l : List (PostState M)). get_or l rank (state_of x)) fresh
          ∙ get_or-map-range_with_len (λ r. fresh_state r n) 0 n rank rank (state_of x) (omega arith) (omega arith)
          ∙ ap (fresh_state rank) (sym counted));
    }

  -- ---- posts that have sent

  module _ (parcel : ℕ → ℕ → M) (inboxes : List (Inbox M)) (posts : List (Post M)) (counted : length posts ≡ length inboxes)
      (all : HaveAllSent source target has_terms parcel inboxes posts) where
    sent : EachByRank (HasSent source target has_terms parcel inboxes) posts
    sent = all.each

    targets_of : (rank : ℕ) (dsts : List ℕ) → map target (map (parcel rank) dsts) ≡ dsts
    targets_of rank [] = refl
    targets_of rank (x ∷ xs) = (λ i. all.targets rank x i ∷ targets_of rank xs i)

    pub are_posts : ArePostsOf source target has_terms inboxes posts
    are_posts = record {
      each = λ k d within. (sent k d within).of_inboxes;
      ranks =
          same_lists (map (λ (p : Post M). (state_of p).rank) posts) (range_with_len 0 (length inboxes))
          (length-map posts (λ (p : Post M). (state_of p).rank) ∙ counted ∙ sym (length-range_with_len 0 (length inboxes)))
          (λ k d within.
          let inside : k < length posts = (let long = length-map posts (λ (p : Post M). (state_of p).rank) in omega arith) in
          let p = some_of posts k inside in
          get_or-map (λ (p : Post M). (state_of p).rank) posts k p d inside ∙ (sent k p inside).number
          ∙ (let at = get_or-range_with_len 0 (length inboxes) k d (omega arith) in let e : k ≡ get_or (range_with_len 0 (length inboxes)) k d = omega arith in e));
    }

    pub have_sent : All (HasSentToAll target (length inboxes)) posts
    have_sent k d within =
        let here = sent k d within in
        record {
          sent_to =
              ap (map target) here.sent ∙ targets_of k (others k (length inboxes))
              ∙ ap (λ (n : ℕ). others n (length inboxes)) (sym here.number);
          none_left = here.unsent;
        }

    abbrev for_rank : ℕ → M → Bool
    for_rank rank m = target m == rank

    all_sent : map (λ (p : Post M). (state_of p).sent) posts ≡ map (λ q. map (parcel q) (others q (length inboxes))) (range_with_len 0 (length inboxes))
    all_sent =
        same_lists (map (λ (p : Post M). (state_of p).sent) posts) (map (λ q. map (parcel q) (others q (length inboxes))) (range_with_len 0 (length inboxes)))
        (length-map posts (λ (p : Post M). (state_of p).sent) ∙ counted ∙ sym (length-map-range_with_len (λ q. map (parcel q) (others q (length inboxes))) 0 (length inboxes)))
        (λ k d within.
        let inside : k < length posts = (let long = length-map posts (λ (p : Post M). (state_of p).sent) in omega arith) in
        let p = some_of posts k inside in
        get_or-map (λ (p : Post M). (state_of p).sent) posts k p d inside ∙ (sent k p inside).sent
        ∙ sym (get_or-map-range_with_len (λ q. map (parcel q) (others q (length inboxes))) 0 (length inboxes) k k d (omega arith) (omega arith)))

    carried_for : EachOtherSentOne target → (rank : ℕ) → rank < length inboxes → flat_map (sent_for target rank) posts ≡ map (λ q. parcel q rank) (others rank (length inboxes))
    carried_for law rank within =
        sym (flat_map-map (filter (for_rank rank)) (λ (p : Post M). (state_of p).sent) posts)
        ∙ ap (flat_map (filter (for_rank rank))) all_sent
        ∙ flat_map-map (filter (for_rank rank)) (λ q. map (parcel q) (others q (length inboxes))) (range_with_len 0 (length inboxes))
        ∙ law parcel (length inboxes) rank all.targets within

    module _ (law : EachOtherSentOne target) (after : List (Post M)) (tokens : List (Vec (Spent M) Global))
        (are : ArePostsOf source target has_terms inboxes after)
        (states : map state_of after ≡ map (λ (p : Post M). record (state_of p) { sent = [] }) posts)
        (each : EachHasTokens source inboxes (length inboxes) (map (λ l. l.items) tokens))
        (carried : map (λ l. all_carried l.items) tokens ≡ map (λ rank. flat_map (sent_for target rank) posts) (range_with_len 0 (length inboxes))) where
      pub after_counted : length after ≡ length inboxes
      after_counted =
          sym (length-map after state_of) ∙ ap length states ∙ length-map posts (λ (p : Post M). record (state_of p) { sent = [] }) ∙ counted

      pub tokens_counted : length tokens ≡ length inboxes
      tokens_counted = sym (length-map tokens (λ l. l.items)) ∙ each.all

      state_at : (rank : ℕ) (p q : Post M) → rank < length posts → state_of (get_or after rank p) ≡ record (state_of (get_or posts rank q)) { sent = [] }
      state_at rank p q within =
          let long = after_counted in
          let inside : rank < length after = omega arith in
          sym (get_or-map state_of after rank p (state_of p) inside)
          ∙ ap (λ (l : List (PostState M)). get_or l rank (state_of p)) states
          ∙ get_or-map (λ (p : Post M). record (state_of p) { sent = [] }) posts rank q (state_of p) within

      pub can_settle : CanAllSettle source target has_terms parcel inboxes after tokens
      can_settle = record {
        each = λ rank p s within.
            (let long = after_counted in
            let many = tokens_counted in
            let before : rank < length posts = omega arith in
            let inside : rank < length inboxes = omega arith in
            let there : rank < length tokens = omega arith in
            let q = some_of posts rank before in
            let state = state_at rank p q before in
            let had = sent rank q before in
            record {
              of_inboxes = are.each rank p within;
              number = ap (λ (v : PostState M). v.rank) state ∙ had.number;
              settled = ap (λ (v : PostState M). v.settled) state ∙ had.settled;
              tokens_are = subst (AreTokensFor source inboxes rank) (get_or-map (λ l. l.items) tokens rank s [] there) (each.each rank inside);
              carried =
                  sym (get_or-map (λ (l : Vec (Spent M) Global). all_carried l.items) tokens rank s [] there)
                  ∙ ap (λ (l : List (List M)). get_or l rank []) carried
                  ∙ get_or-map-range_with_len (λ r. flat_map (sent_for target r) posts) 0 (length inboxes) rank rank [] inside (omega arith)
                  ∙ carried_for law rank inside;
            });
      }
