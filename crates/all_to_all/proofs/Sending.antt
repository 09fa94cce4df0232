-- Parcels that are put one after another.
use Rattle.std.proofs.Common.{◌≡◌, ℕ, zero, suc, ◌+◌, ◌<◌, List, [], ◌∷◌, ◌++◌, length, map, flat_map, reverse, drop, drop-drop, get_or, All, refl, ap, sym, ◌∙◌, subst, arith}
use Rattle.std.proofs.lemmas.List.{map-append, reverse-append}
use Rattle.std.proofs.lemmas.List.Elements.{All-head, All-tail}
use Rattle.std.proofs.lemmas.Option.{slice_get_read, same_Some}
use Rattle.let_inbox.specs.declared.inbox.Inbox.{Inbox}
use Rattle.let_inbox.specs.declared.tokens.Spent.{Spent}
use Rattle.let_inbox.specs.Tokens.{carried, spent_source, IsSpentOf}
use Rattle.all_to_all.specs.declared.outgoing.ToSend.{ToSend}
use Rattle.all_to_all.specs.Outgoing.{AtRank}

-- the next target is that of the last putter
pub next_target : {M : Type 0} (xs ys : List (ToSend M)) (s : ToSend M) → xs ≡ ys ++ s ∷ [] → reverse (map (λ s. s.target) xs) ≡ s.target ∷ reverse (map (λ s. s.target) ys)
next_target {M} xs ys s is =
    let target : ToSend M → ℕ = λ s. s.target in
    ap (λ zs. reverse (map target zs)) is ∙ ap reverse (map-append target ys (s ∷ [])) ∙ reverse-append (map target ys) (s.target ∷ [])

-- what holds of the inbox of a rank, from the inbox that is read there
pub at_rank : {M : Type 0} (inboxes : List (Inbox M)) (rank : ℕ) (P : Inbox M → Type 0) (i : Inbox M) → rank < length inboxes → i ≡ get_or inboxes rank i → P i → AtRank inboxes rank P
at_rank inboxes rank P i within is holds = λ j there. subst P (same_Some i j (sym (slice_get_read inboxes (length inboxes) rank i refl within is) ∙ there)) holds

module _ {M : Type 0} (target : M → ℕ) where
  -- the targets that are left, when as many parcels were put
  pub target_left : (all : List M) (n : ℕ) (m : M) → n < length all → get_or all n m ≡ m → drop n (map target all) ≡ target m ∷ drop 1 (drop n (map target all))
  target_left [] n m within is = absurd (omega arith)
  target_left (x ∷ xs) zero m within is = ap (λ y. target y ∷ map target xs) is
  target_left (x ∷ xs) (suc n) m within is = target_left xs n m (omega arith) is

  pub none_left : (all : List M) → drop (length all) (map target all) ≡ []
  none_left [] = refl
  none_left (x ∷ xs) = none_left xs

  pub one_dropped : (xs : List ℕ) (n : ℕ) → drop 1 (drop n xs) ≡ drop (n + 1) xs
  one_dropped xs n = drop-drop 1 n xs

-- tokens name the sources of the parcels that they carry
pub carried_sources : {M : Type 0} (source : M → ℕ) (i : Inbox M) (tokens : List (Spent M)) → All (IsSpentOf source i) tokens → map source (flat_map carried tokens) ≡ map spent_source tokens
carried_sources source i [] all = refl
carried_sources source i (x ∷ xs) all =
    map-append source (carried x) (flat_map carried xs)
    ∙ ap (λ ys. ys ++ map source (flat_map carried xs)) (All-head (IsSpentOf source i) x xs all).names
    ∙ ap (λ ys. spent_source x ∷ ys) (carried_sources source i xs (All-tail (IsSpentOf source i) x xs all))
