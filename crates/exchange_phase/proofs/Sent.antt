-- What the ranks put, as one other rank sees it.
use Rattle.std.proofs.Common.{◌≡◌, ℕ, ◌<◌, Bool, true, false, cond, not, List, [], ◌∷◌, length, get_or, map, nat_eq, refl, sym, ◌∙◌, ap, arith}
use Rattle.std.specs.List.{filter, flat_map, range_with_len}
use Rattle.std.proofs.lemmas.List.{get_or_default, same_lists}
use Rattle.std.proofs.lemmas.List.Folds.{flat_map-map}
use Rattle.std.proofs.lemmas.List.FromFn.{get_or-map-range_with_len, length-map-range_with_len}
use Rattle.std.proofs.lemmas.Simd.{map-map}
use Rattle.pf_model.specs.Division.{rank_count}
use Rattle.pf_model.specs.Domains.{Multisection}
use Rattle.let_inbox.specs.Sources.{others}
use Rattle.exchange.specs.States.{Holding, Package, parcel_for, parcels_from}
use Rattle.exchange.specs.ExchangeLaws.{AreOfAllRanks, parcels_to}
use Rattle.all_to_all.specs.Laws.{EachOtherSentOne}
use Rattle.exchange_phase.specs.Packages.{dst_of}
use Rattle.exchange_phase.proofs.Maps.{as_many, at_number}

kept_of_map : {X Y : Type 0} (f : X → Y) (b : Bool) (x : X) (xs : List X) → cond b (f x ∷ map f xs) (map f xs) ≡ map f (cond b (x ∷ xs) xs)
kept_of_map f true x xs = refl
kept_of_map f false x xs = refl

filter-map : {X Y : Type 0} (f : X → Y) (test : Y → Bool) (xs : List X) → filter test (map f xs) ≡ map f (filter (λ x. test (f x)) xs)
filter-map f test [] = refl
filter-map f test (x ∷ xs) =
    ap (λ rest. cond (test (f x)) (f x ∷ rest) rest) (filter-map f test xs) ∙ kept_of_map f (test (f x)) x (filter (λ y. test (f y)) xs)

module _ (s : Multisection) (hs : List Holding) (ranks : AreOfAllRanks s hs) where
  -- what the rank of a number has
  abbrev numbered : ℕ → Holding
  numbered q = record { rank = q; bodies = (get_or hs q (record { rank = q; bodies = [] })).bodies }

  by_number : map numbered (range_with_len 0 (rank_count s.grid)) ≡ hs
  by_number =
      let count = rank_count s.grid in
      let many = as_many (λ (h : Holding). h.rank) hs count ranks in
      let long = length-map-range_with_len numbered 0 count in
      same_lists (map numbered (range_with_len 0 count)) hs (long ∙ sym many)
      (λ k d within.
      let inside : k < length hs = omega arith in
      let number : (get_or hs k d).rank ≡ k = at_number (λ (h : Holding). h.rank) hs count ranks k d inside in
      let same : get_or hs k (record { rank = k; bodies = [] }) ≡ get_or hs k d = get_or_default hs k (record { rank = k; bodies = [] }) d inside in
      get_or-map-range_with_len numbered 0 count k k d (omega arith) (omega arith) ∙ (λ i. record { rank = sym number i; bodies = (same i).bodies }))

-- what lies in the inbox of a rank when all have put their parcels: one of each other rank
pub came_for : EachOtherSentOne dst_of → (s : Multisection) (hs : List Holding) → AreOfAllRanks s hs → (rank : ℕ) → rank < rank_count s.grid →
    flat_map (λ h. filter (λ p. nat_eq p.dst rank) (parcels_from s h)) hs ≡ parcels_to s hs rank
came_for law s hs ranks rank below =
    let count = rank_count s.grid in
    let ns : List ℕ = range_with_len 0 count in
    let at : ℕ → Holding = numbered s hs ranks in
    let is = by_number s hs ranks in
    let sent = λ (h : Holding). filter (λ (p : Package). nat_eq p.dst rank) (parcels_from s h) in
    let parcel = λ (q p : ℕ). parcel_for s (at q) p in
    ap (flat_map sent) (sym is)
    ∙ flat_map-map sent at ns
    ∙ law parcel count rank (λ q p. refl) below
    ∙ sym (map-map (λ (h : Holding). parcel_for s h rank) at (others rank count))
    ∙ ap (map (λ (h : Holding). parcel_for s h rank)) (sym (filter-map at (λ (h : Holding). not (nat_eq h.rank rank)) ns))
    ∙ ap (λ (ks : List Holding). parcels_to s ks rank) is
