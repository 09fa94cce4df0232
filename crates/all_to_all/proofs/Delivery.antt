-- How the tokens of one post are added to the lists of the ranks that they are for.
use Rattle.std.proofs.Common.{◌≡◌, ℕ, ◌+◌, ◌<◌, ◌==◌, cond, true, false, Bool, List, [], ◌∷◌, ◌++◌, length, map, filter, flat_map, get_or, set, All, Some, refl, ap, sym, ◌∙◌, subst, arith, eq-eqb, ne_eqb, eqb-true, append-nil, append_assoc}
use mathlib.Core.Logic.{dite}
use native.Mathlib.Decide.{ℕ_discrete}
use Rattle.std.specs.List.{slice_get}
use Rattle.std.proofs.lemmas.Grind.{flat_map-append}
use Rattle.std.proofs.lemmas.List.{map-append, length-map, get_or-set_same, get_or-set_other, get_or-map}
use Rattle.std.proofs.lemmas.List.Elements.{All-head, All-tail, All-append, All-map, All-filter, All-same, filter-append, filter_passes}
use Rattle.let_inbox.specs.declared.inbox.Inbox.{Inbox}
use Rattle.let_inbox.specs.declared.tokens.Spent.{Spent}
use Rattle.let_inbox.specs.Sources.{others}
use Rattle.let_inbox.specs.Tokens.{carried, spent_source, IsSpentOf}
use Rattle.all_to_all.specs.declared.outgoing.Token.{Token}
use Rattle.all_to_all.specs.Outgoing.{AtRank, IsTokenFrom}
use Rattle.all_to_all.specs.Handed.{EachHasTokens, all_carried, tokens_at}
use Rattle.std.proofs.lemmas.List.Elements.{Contains-get_or}
use Rattle.let_inbox.specs.Laws.{OthersAreTheSources, OthersStandInTurn, OthersGrow}
use Rattle.all_to_all.proofs.Picking.{picked, picked_keys}

module _ {M : Type 0} where
  -- of tokens, those for a rank
  abbrev pub tokens_for_rank : ℕ → List (Token M) → List (Spent M)
  tokens_for_rank rank tokens = map (λ t. t.spent) (filter (λ t. t.target == rank) tokens)

  one_at_end : (rank : ℕ) (t : Token M) (b : Bool) → t.target == rank ≡ b → tokens_for_rank rank (t ∷ []) ≡ cond b (t.spent ∷ []) []
  one_at_end rank t true is = ap (λ (b : Bool). map (λ (t : Token M). t.spent) (cond b (t ∷ []) [])) is
  one_at_end rank t false is = ap (λ (b : Bool). map (λ (t : Token M). t.spent) (cond b (t ∷ []) [])) is

  for_rank-more : (rank : ℕ) (ts : List (Token M)) (t : Token M) → tokens_for_rank rank (ts ++ t ∷ []) ≡ tokens_for_rank rank ts ++ tokens_for_rank rank (t ∷ [])
  for_rank-more rank ts t = ap (map (λ (t : Token M). t.spent)) (filter-append (λ (t : Token M). t.target == rank) ts (t ∷ []))
      ∙ map-append (λ (t : Token M). t.spent) (filter (λ (t : Token M). t.target == rank) ts) (filter (λ (t : Token M). t.target == rank) (t ∷ []))

  -- one more token goes to the end of the list of its rank
  pub delivered-more : (first lists : List (List (Spent M))) (ts : List (Token M)) (t : Token M) (list : List (Spent M)) → t.target < length lists
      → list ≡ get_or lists t.target [] ++ t.spent ∷ []
      → ((rank : ℕ) → tokens_at lists rank ≡ tokens_at first rank ++ tokens_for_rank rank ts)
      → (rank : ℕ) → tokens_at (set lists t.target list) rank ≡ tokens_at first rank ++ tokens_for_rank rank (ts ++ t ∷ [])
  delivered-more first lists ts t list within is before rank =
      let all = before rank in
      let split : tokens_at first rank ++ tokens_for_rank rank (ts ++ t ∷ []) ≡ (tokens_at first rank ++ tokens_for_rank rank ts) ++ tokens_for_rank rank (t ∷ []) =
      ap (λ xs. tokens_at first rank ++ xs) (for_rank-more rank ts t) ∙ sym (append_assoc (tokens_at first rank) (tokens_for_rank rank ts) (tokens_for_rank rank (t ∷ []))) in
      dite (ℕ_discrete t.target rank)
      (λ here.
      let last = one_at_end rank t true (eq-eqb t.target rank here) in
      ap (λ r. get_or (set lists t.target list) r []) (sym here)
      ∙ get_or-set_same lists t.target list [] within
      ∙ is
      ∙ (λ i. get_or lists (here i) [] ++ t.spent ∷ [])
      ∙ (λ i. all i ++ sym last i)
      ∙ sym split)
      (λ apart.
      let none = one_at_end rank t false (ne_eqb t.target rank apart) in
      get_or-set_other lists t.target rank list [] (λ e. apart (sym e))
      ∙ all
      ∙ sym (append-nil (tokens_at first rank ++ tokens_for_rank rank ts))
      ∙ (λ i. (tokens_at first rank ++ tokens_for_rank rank ts) ++ sym none i)
      ∙ sym split)

  module _ (source target : M → ℕ) (inboxes : List (Inbox M)) (q : ℕ) where
    -- tokens for a rank are of its inbox
    of_rank : (rank : ℕ) (tokens : List (Token M)) → All (IsTokenFrom source target inboxes q) tokens → AtRank inboxes rank (λ i. All (IsSpentOf source i) (tokens_for_rank rank tokens))
    of_rank rank tokens all = λ i there.
        let ts : List (Token M) = filter (λ t. t.target == rank) tokens in
        let from = All-filter (λ (t : Token M). t.target == rank) (IsTokenFrom source target inboxes q) tokens all in
        let for = filter_passes (λ (t : Token M). t.target == rank) tokens in
        All-map (IsSpentOf source i) (λ (t : Token M). t.spent) ts
        (λ k d within. (from k d within).spent i (subst (λ r. slice_get inboxes r ≡ Some i) (sym (eqb-true _ rank (for k d within))) there))

    from_q : (ts : List (Token M)) → All (IsTokenFrom source target inboxes q) ts → map (λ (t : Token M). spent_source t.spent) ts ≡ map (λ (k : ℕ). q) (map (λ (t : Token M). t.target) ts)
    from_q [] all = refl
    from_q (t ∷ ts) all =
        let here = (All-head (IsTokenFrom source target inboxes q) t ts all).from_rank in
        let rest = from_q ts (All-tail (IsTokenFrom source target inboxes q) t ts all) in
        λ i. here i ∷ rest i

    map_twice : (ts : List (Token M)) → map spent_source (map (λ (t : Token M). t.spent) ts) ≡ map (λ (t : Token M). spent_source t.spent) ts
    map_twice [] = refl
    map_twice (t ∷ ts) = ap (λ xs. spent_source t.spent ∷ xs) (map_twice ts)

    source_once : (rank : ℕ) (b : Bool) → map (λ (k : ℕ). q) (cond b [] (rank ∷ [])) ≡ cond b [] (q ∷ [])
    source_once rank true = refl
    source_once rank false = refl

    -- where q put one parcel for each other rank, those for a rank name q once
    names_for : OthersStandInTurn → (rank ranks : ℕ) (tokens : List (Token M)) → rank < ranks → All (IsTokenFrom source target inboxes q) tokens → map (λ (t : Token M). t.target) tokens ≡ others q ranks
        → map spent_source (tokens_for_rank rank tokens) ≡ cond (q == rank) [] (q ∷ [])
    names_for turn rank ranks tokens within all to =
        let key : Token M → ℕ = λ t. t.target in
        let ts : List (Token M) = filter (λ t. t.target == rank) tokens in
        let from = All-filter (λ (t : Token M). t.target == rank) (IsTokenFrom source target inboxes q) tokens all in
        map_twice ts ∙ from_q ts from
        ∙ ap (map (λ (k : ℕ). q)) (picked_keys key rank tokens ∙ ap (filter (λ y. y == rank)) to ∙ picked turn q rank ranks within)
        ∙ source_once rank (q == rank)

    kept_at : (rank : ℕ) (b : Bool) (t : Token M) → flat_map carried (map (λ (t : Token M). t.spent) (cond b (t ∷ []) [])) ≡ cond b (carried t.spent) []
    kept_at rank true t = append-nil (carried t.spent)
    kept_at rank false t = refl

    kept_of : (rank p : ℕ) (ms : List M) → map target ms ≡ p ∷ [] → filter (λ m. target m == rank) ms ≡ cond (p == rank) ms []
    kept_of rank p [] is = cc
    kept_of rank p (m ∷ []) is = let e : target m ≡ p = cc in ap (λ (k : ℕ). cond {A = List M} (k == rank) (m ∷ []) []) e
    kept_of rank p (m ∷ (n ∷ ms)) is = cc

    -- the tokens for a rank carry the parcels for it
    pub carried_for : (rank : ℕ) (tokens : List (Token M)) → All (IsTokenFrom source target inboxes q) tokens
        → flat_map carried (tokens_for_rank rank tokens) ≡ filter (λ m. target m == rank) (flat_map (λ (t : Token M). carried t.spent) tokens)
    carried_for rank [] all = refl
    carried_for rank (t ∷ ts) all =
        let here = (All-head (IsTokenFrom source target inboxes q) t ts all).for_target in
        let rest = carried_for rank ts (All-tail (IsTokenFrom source target inboxes q) t ts all) in
        let spent : Token M → Spent M = λ t. t.spent in
        let passes : Token M → Bool = λ t. t.target == rank in
        let keeps : M → Bool = λ m. target m == rank in
        ap (flat_map carried) (ap (map spent) (filter-append passes (t ∷ []) ts) ∙ map-append spent (filter passes (t ∷ [])) (filter passes ts))
        ∙ flat_map-append carried (map spent (filter passes (t ∷ []))) (map spent (filter passes ts))
        ∙ (λ i. (kept_at rank (t.target == rank) t ∙ sym (kept_of rank t.target (carried t.spent) here)) i ++ rest i)
        ∙ sym (filter-append keeps (carried t.spent) (flat_map (λ (t : Token M). carried t.spent) ts))

    -- the targets of tokens are those of the parcels that they carry
    pub targets_carried : (tokens : List (Token M)) → All (IsTokenFrom source target inboxes q) tokens → map target (flat_map (λ (t : Token M). carried t.spent) tokens) ≡ map (λ (t : Token M). t.target) tokens
    targets_carried [] all = refl
    targets_carried (t ∷ ts) all =
        let here = (All-head (IsTokenFrom source target inboxes q) t ts all).for_target in
        let rest = targets_carried ts (All-tail (IsTokenFrom source target inboxes q) t ts all) in
        map-append target (carried t.spent) (flat_map (λ (t : Token M). carried t.spent) ts) ∙ (λ i. here i ++ rest i)

    -- each rank has the tokens of one more source
    pub each_has : OthersStandInTurn → OthersGrow → (first lists : List (List (Spent M))) (tokens : List (Token M)) → length lists ≡ length first
        → ((rank : ℕ) → tokens_at lists rank ≡ tokens_at first rank ++ tokens_for_rank rank tokens)
        → EachHasTokens source inboxes q first → All (IsTokenFrom source target inboxes q) tokens → map (λ (t : Token M). t.target) tokens ≡ others q (length inboxes)
        → EachHasTokens source inboxes (q + 1) lists
    each_has turn grow first lists tokens long delivered before all to = record {
      all = long ∙ before.all;
      each = λ rank within.
          let was = before.each rank within in
          record {
            of_inbox = λ i there. All-same (IsSpentOf source i) _ _ (delivered rank) (All-append (IsSpentOf source i) _ _ (was.of_inbox i there) (of_rank rank tokens all i there));
            sources = ap (map spent_source) (delivered rank)
                ∙ map-append spent_source (tokens_at first rank) (tokens_for_rank rank tokens)
                ∙ (λ i. was.sources i ++ names_for turn rank (length inboxes) tokens within all to i)
                ∙ sym (grow rank q);
          };
    }

    -- what the tokens for a rank carry, with those of one more source
    pub carried_more : (first lists : List (List (Spent M))) (tokens : List (Token M)) → ((rank : ℕ) → tokens_at lists rank ≡ tokens_at first rank ++ tokens_for_rank rank tokens)
        → All (IsTokenFrom source target inboxes q) tokens
        → (rank : ℕ) → all_carried (tokens_at lists rank) ≡ all_carried (tokens_at first rank) ++ filter (λ m. target m == rank) (flat_map (λ (t : Token M). carried t.spent) tokens)
    carried_more first lists tokens delivered all rank =
        ap (flat_map carried) (delivered rank)
        ∙ flat_map-append carried (tokens_at first rank) (tokens_for_rank rank tokens)
        ∙ ap (λ ms. all_carried (tokens_at first rank) ++ ms) (carried_for rank tokens all)

    pub targets_are : (ranks : ℕ) (tokens : List (Token M)) → All (IsTokenFrom source target inboxes q) tokens → map target (flat_map (λ (t : Token M). carried t.spent) tokens) ≡ others q ranks
        → map (λ (t : Token M). t.target) tokens ≡ others q ranks
    targets_are ranks tokens all sent = sym (targets_carried tokens all) ∙ sent

    pub target_within : OthersAreTheSources → (ranks : ℕ) (tokens : List (Token M)) → All (IsTokenFrom source target inboxes q) tokens → map target (flat_map (λ (t : Token M). carried t.spent) tokens) ≡ others q ranks
        → (k : ℕ) (t : Token M) → k < length tokens → t ≡ get_or tokens k t → t.target < ranks
    target_within sources ranks tokens all sent k t within is =
        let key : Token M → ℕ = λ t. t.target in
        let to = targets_are ranks tokens all sent in
        let below : All (λ s. s < ranks) (map key tokens) = All-same (λ s. s < ranks) (map key tokens) (others q ranks) to (λ k d inside. (((sources q ranks).1 (get_or (others q ranks) k d)).0 (Contains-get_or (others q ranks) k d inside)).0) in
        let long = length-map tokens key in
        let there = below k 0 (omega arith) in
        let at = get_or-map key tokens k t 0 within in
        let same = ap key is in omega arith
