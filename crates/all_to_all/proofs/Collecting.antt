-- How the tokens of all posts are collected, one post after another.
use Rattle.std.proofs.Common.{◌≡◌, ◌≢◌, ℕ, zero, suc, ◌+◌, ◌<◌, ◌≤◌, List, [], ◌∷◌, ◌++◌, length, map, flat_map, take, get_or, set, All, refl, ap, sym, ◌∙◌, subst, arith, append-nil}
use mathlib.Core.Logic.{dite}
use native.Mathlib.Decide.{ℕ_discrete}
use Rattle.std.specs.List.{range_with_len}
use Rattle.std.proofs.lemmas.List.{length-map, length-set, get_or-map, get_or-set_same, get_or-set_other, take_more, take_all}
use Rattle.std.proofs.lemmas.List.FromFn.{length-range_with_len, get_or-range_with_len, get_or-map-range_with_len}
use Rattle.std.proofs.lemmas.List.Elements.{All-nil, All-same, All-set}
use Rattle.std.proofs.lemmas.Grind.{flat_map-append}
use Rattle.let_inbox.specs.declared.inbox.Inbox.{Inbox}
use Rattle.let_inbox.specs.declared.tokens.Spent.{Spent}
use Rattle.let_inbox.specs.Tokens.{spent_source, IsSpentOf}
use Rattle.all_to_all.specs.declared.post.Post.{Post}
use Rattle.all_to_all.specs.Posts.{state_of, PostState, IsPostOf, ArePostsOf}
use Rattle.all_to_all.proofs.Opened.{same_at_each}
use Rattle.all_to_all.specs.Handed.{EachHasTokens, all_carried, tokens_at, sent_for, with_sent}

same_read : {A : Type 0} (xs : List A) (k : ℕ) (d e : A) → k < length xs → get_or xs k d ≡ get_or xs k e
same_read [] k d e within = absurd (omega arith)
same_read (x ∷ xs) zero d e within = refl
same_read (x ∷ xs) (suc k) d e within = same_read xs k d e (omega arith)

same_lists : {A X : Type 0} (f g : A → X) (xs ys : List A) → length xs ≡ length ys → ((k : ℕ) (d : A) → k < length xs → f (get_or xs k d) ≡ g (get_or ys k d)) → map f xs ≡ map g ys
same_lists f g [] [] long agree = refl
same_lists f g [] (y ∷ ys) long agree = absurd (omega arith)
same_lists f g (x ∷ xs) [] long agree = absurd (omega arith)
same_lists f g (x ∷ xs) (y ∷ ys) long agree =
    let here : f x ≡ g y = agree 0 x (omega arith) in
    let rest = same_lists f g xs ys (omega arith) (λ k d within. agree (suc k) d (omega arith)) in
    λ i. here i ∷ rest i

-- the elements of lists, when each is seen as a list
pub map_both : {A B X : Type 0} (f : B → X) (g : A → B) (xs : List A) → map f (map g xs) ≡ map (λ x. f (g x)) xs
map_both f g [] = refl
map_both f g (x ∷ xs) = ap (λ ys. f (g x) ∷ ys) (map_both f g xs)

module _ {M : Type 0} (source : M → ℕ) where
  -- lists without tokens
  pub none_below : (inboxes : List (Inbox M)) (lists : List (List (Spent M))) → length lists ≡ length inboxes → All (λ list. list ≡ []) lists → EachHasTokens source inboxes 0 lists
  none_below inboxes lists long empty =
      let none : (rank : ℕ) → rank < length inboxes → tokens_at lists rank ≡ [] = λ rank within. empty rank [] (omega arith) in
      record {
        all = long;
        each = λ rank within. record {
          of_inbox = λ i _. All-same (IsSpentOf source i) _ _ (none rank within) (All-nil (IsSpentOf source i));
          sources = ap (map spent_source) (none rank within);
        };
      }

module _ {M : Type 0} (source target : M → ℕ) (has_terms : M → Type 0) where
  -- a post whose tokens were handed over
  abbrev pub without_sent : Post M → PostState M
  without_sent p = record (state_of p) { sent = [] }

  -- the tokens of the posts below an index were handed over
  pub record HasCollected (inboxes : List (Inbox M)) (before : List (Post M)) (index : ℕ) (posts : List (Post M)) (lists : List (List (Spent M))) : Type 0 where
    pub count : length posts ≡ length before
    pub fit : All (IsPostOf source target has_terms inboxes) posts
    pub handed : (k : ℕ) (d : Post M) → k < index → k < length posts → state_of (get_or posts k d) ≡ without_sent (get_or before k d)
    pub not_yet : (k : ℕ) (d : Post M) → index ≤ k → get_or posts k d ≡ get_or before k d
    pub tokens : EachHasTokens source inboxes index lists
    pub carried : (rank : ℕ) → rank < length inboxes → all_carried (tokens_at lists rank) ≡ flat_map (sent_for target rank) (take index before)

  pub rank_at : (inboxes : List (Inbox M)) (before : List (Post M)) (k : ℕ) (d : Post M) → ArePostsOf source target has_terms inboxes before → k < length before → (get_or before k d).rank ≡ k
  rank_at inboxes before k d are within =
      let rank : Post M → ℕ = λ p. p.rank in
      let at = get_or-map rank before k d 0 within in
      let read = ap (λ ranks. get_or ranks k 0) are.ranks in
      let long = sym (length-map before rank) ∙ ap length are.ranks ∙ length-range_with_len 0 (length inboxes) in
      let there = get_or-range_with_len 0 (length inboxes) k 0 (omega arith) in
      omega arith

  pub rank_now : (inboxes : List (Inbox M)) (before : List (Post M)) (index : ℕ) (posts : List (Post M)) (lists : List (List (Spent M))) (item : Post M)
      → HasCollected inboxes before index posts lists → ArePostsOf source target has_terms inboxes before → index < length posts → (get_or posts index item).rank ≡ index
  rank_now inboxes before index posts lists item was are within =
      let count = was.count in
      ap (λ (p : Post M). p.rank) (was.not_yet index item (omega arith)) ∙ rank_at inboxes before index item are (omega arith)

  pub collects_none : (inboxes : List (Inbox M)) (before : List (Post M)) (lists : List (List (Spent M))) → ArePostsOf source target has_terms inboxes before
      → EachHasTokens source inboxes 0 lists → All (λ list. list ≡ []) lists → HasCollected inboxes before 0 before lists
  collects_none inboxes before lists are tokens empty = record {
    count = refl;
    fit = are.each;
    handed = λ k d early _. absurd (omega arith);
    not_yet = λ k d _. refl;
    tokens = tokens;
    carried = λ rank within. let all = tokens.all in ap all_carried (empty rank [] (omega arith));
  }

  pub collects_more : (inboxes : List (Inbox M)) (before : List (Post M)) (index : ℕ) (posts : List (Post M)) (lists lists' : List (List (Spent M))) (item after : Post M)
      → HasCollected inboxes before index posts lists → ArePostsOf source target has_terms inboxes before → index < length posts
      → IsPostOf source target has_terms inboxes after → state_of after ≡ without_sent (get_or posts index item)
      → EachHasTokens source inboxes ((get_or posts index item).rank + 1) lists'
      → map all_carried lists' ≡ map (with_sent target (get_or posts index item) lists) (range_with_len 0 (length inboxes))
      → HasCollected inboxes before (index + 1) (set posts index after) lists'
  collects_more inboxes before index posts lists lists' item after was are within fits state tokens carried =
      let count = was.count in
      let in_before : index < length before = omega arith in
      let is : get_or posts index item ≡ get_or before index item = was.not_yet index item (omega arith) in
      let rank : (get_or posts index item).rank ≡ index = ap (λ (p : Post M). p.rank) is ∙ rank_at inboxes before index item are in_before in
      let now : EachHasTokens source inboxes (index + 1) lists' = subst (λ k. EachHasTokens source inboxes (k + 1) lists') rank tokens in
      record {
        count = length-set posts index after ∙ was.count;
        fit = All-set (IsPostOf source target has_terms inboxes) posts index after fits was.fit;
        handed = λ k d early in_posts. dite (ℕ_discrete k index)
            (λ here. subst (λ j. state_of (get_or (set posts index after) j d) ≡ without_sent (get_or before j d)) (sym here)
            (ap state_of (get_or-set_same posts index after d within) ∙ state ∙ ap without_sent (is ∙ same_read before index item d in_before)))
            (λ other. let long = length-set posts index after in ap state_of (get_or-set_other posts index k after d other) ∙ was.handed k d (omega arith) (omega arith));
        not_yet = λ k d late. let other : k ≢ index = omega arith in get_or-set_other posts index k after d other ∙ was.not_yet k d (omega arith);
        tokens = now;
        carried = λ r in_ranks.
            let all = now.all in
            let at = get_or-map all_carried lists' r [] [] (omega arith) in
            let there = get_or-map-range_with_len (with_sent target (get_or posts index item) lists) 0 (length inboxes) r r [] in_ranks (omega arith) in
            sym at ∙ ap (λ ms. get_or ms r []) carried ∙ there
            ∙ (λ i. was.carried r in_ranks i ++ sent_for target r (is i))
            ∙ sym (ap (λ ps. flat_map (sent_for target r) ps) (take_more before index item in_before)
            ∙ flat_map-append (sent_for target r) (take index before) (get_or before index item ∷ [])
            ∙ ap (λ ms. flat_map (sent_for target r) (take index before) ++ ms) (append-nil (sent_for target r (get_or before index item))));
      }

  -- when the tokens of all posts were handed over
  pub all_collected : (inboxes : List (Inbox M)) (before : List (Post M)) (index : ℕ) (posts : List (Post M)) (lists : List (List (Spent M)))
      → HasCollected inboxes before index posts lists → ArePostsOf source target has_terms inboxes before → index ≡ length posts
      → ArePostsOf source target has_terms inboxes posts × (map state_of posts ≡ map without_sent before) × EachHasTokens source inboxes (length inboxes) lists
      × (map all_carried lists ≡ map (λ rank. flat_map (sent_for target rank) before) (range_with_len 0 (length inboxes)))
  all_collected inboxes before index posts lists was are all =
      let rank : Post M → ℕ = λ p. p.rank in
      let count = was.count in
      let many : length before ≡ length inboxes = sym (length-map before rank) ∙ ap length are.ranks ∙ length-range_with_len 0 (length inboxes) in
      let states = same_lists state_of without_sent posts before was.count (λ k d within. was.handed k d (omega arith) within) in
      let ranks = same_lists rank rank posts before was.count (λ k d within. ap (λ (s : PostState M). s.rank) (was.handed k d (omega arith) within)) in
      let full : take index before ≡ before = take_all index before (omega arith) in
      let same : index ≡ length inboxes = omega arith in
      let tokens = subst (λ k. EachHasTokens source inboxes k lists) same was.tokens in (
        record { each = was.fit; ranks = ranks ∙ are.ranks },
        states,
        tokens,
        same_at_each all_carried (λ rank. flat_map (sent_for target rank) before) 0 lists
            (λ k d within.
            let long = tokens.all in
            let is : k ≡ 0 + k = omega arith in
            ap all_carried (same_read lists k d [] within) ∙ was.carried k (omega arith) ∙ ap (λ ps. flat_map (sent_for target k) ps) full ∙ ap (λ r. flat_map (sent_for target r) before) is)
            ∙ ap (λ n. map (λ rank. flat_map (sent_for target rank) before) (range_with_len 0 n)) tokens.all,
      )
