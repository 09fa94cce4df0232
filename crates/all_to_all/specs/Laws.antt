-- What each rank is sent, where each sends one parcel to each other.
use Rattle.std.specs.Prelude.{◌≡◌, ℕ, ◌<◌, ◌==◌, map, filter, flat_map}
use Rattle.std.specs.List.{range_with_len}
use Rattle.let_inbox.specs.Sources.{others}

module _ {M : Type 0} (target : M → ℕ) where
  -- where rank q sends the parcels `parcel q p` for the other ranks p, those for a rank are one from each other
  abbrev pub EachOtherSentOne : Type 0
  EachOtherSentOne =
      (parcel : ℕ → ℕ → M) (ranks rank : ℕ) → ((q p : ℕ) → target (parcel q p) ≡ p) → rank < ranks →
      flat_map (λ q. filter (λ m. target m == rank) (map (parcel q) (others q ranks))) (range_with_len 0 ranks)
      ≡ map (λ q. parcel q rank) (others rank ranks)
