-- What a taker knows once the tokens of all sources were settled.
use Rattle.std.proofs.Common.{◌≡◌, ℕ, ◌+◌, ◌<◌, List, [], ◌∷◌, ◌++◌, map, flat_map, length, All, refl, ap, ◌∙◌, subst, arith}
use Rattle.std.proofs.lemmas.List.{map-append}
use Rattle.std.proofs.lemmas.List.Elements.{All-head, All-tail}
use Rattle.let_inbox.specs.declared.inbox.Inbox.{Inbox}
use Rattle.let_inbox.specs.declared.tokens.Spent.{Spent}
use Rattle.let_inbox.specs.declared.tokens.Taker.{Taker}
use Rattle.let_inbox.specs.Sources.{IsSource, times}
use Rattle.let_inbox.specs.Tokens.{carried, spent_source, settled_by, IsSpentOf, IsTakerOf, IsSettled}
use Rattle.let_inbox.proofs.Sources.{times-append}

pub no_more : {A : Type 0} (xs : List A) → length xs ≡ 0 → xs ≡ []
no_more [] none = refl
no_more (x ∷ xs) none = absurd (omega arith)

module _ {M : Type 0} (source : M → ℕ) (i : Inbox M) where
  carried_sources : (spent : List (Spent M)) → All (IsSpentOf source i) spent → map source (flat_map carried spent) ≡ map spent_source spent
  carried_sources [] all = refl
  carried_sources (x ∷ xs) all =
      map-append source (carried x) (flat_map carried xs)
      ∙ ap (λ ys. ys ++ map source (flat_map carried xs)) (All-head (IsSpentOf source i) x xs all).names
      ∙ ap (λ ys. x.source ∷ ys) (carried_sources xs (All-tail (IsSpentOf source i) x xs all))

  pub every_settled : (t : Taker M) (spent : List (Spent M)) (before : List M) → IsTakerOf source i t → All (IsSpentOf source i) spent
      → ((s : ℕ) → IsSource i.dst i.ranks s → 0 < times s (map spent_source spent)) → settled_by t ≡ flat_map carried spent ++ before → IsSettled source t
  every_settled t spent before taker tokens every all s is =
      let there = every s (subst (λ (z : ℕ × ℕ). IsSource z.0 z.1 s) (λ k. (taker.place.0 k, taker.place.1 k)) is) in
      let a : times s (map source (settled_by t)) ≡ times s (map spent_source spent) + times s (map source before) =
      ap (λ ys. times s (map source ys)) all
      ∙ ap (times s) (map-append source (flat_map carried spent) before)
      ∙ times-append s (map source (flat_map carried spent)) (map source before)
      ∙ ap (λ ys. times s ys + times s (map source before)) (carried_sources spent tokens) in
      omega arith
