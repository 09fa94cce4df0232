-- Two ranks that leave and settle.
use Rattle.std.proofs.Common.{◌≡◌, ℕ, List, [], ◌∷◌, ◌++◌, map, filter, nat_eq, not, refl, sym, ap, subst, arith}
use Rattle.std.specs.List.{range_with_len}
use Rattle.std.specs.List.Sorted.{IsPermutation}
use Rattle.std.proofs.lemmas.List.Sorted.{IsPermutation-refl}
use Rattle.pf_model.specs.Particle.{Particle}
use Rattle.pf_model.specs.Particles.{AreBodies}
use Rattle.pf_model.specs.Division.{rank_count}
use Rattle.pf_model.specs.Domains.{Multisection}
use Rattle.exchange.specs.States.{Holding, left_with, parcel_for, parcels_from, joined}
use Rattle.exchange.specs.ExchangeLaws.{parcels_to, EachRankHasItsOwn}

abbrev one_of : ℕ → List Particle → Holding
one_of rank js = record { rank = rank; bodies = js }

-- what each has and gets are bodies
pub first_settles : EachRankHasItsOwn → (s : Multisection) (js ks : List Particle) → rank_count s.grid ≡ 2 → AreBodies (js ++ (ks ++ [])) →
    AreBodies (joined (left_with s (one_of 0 js)).bodies (parcels_from s (one_of 1 ks)))
first_settles law s js ks two bodies =
    let hs : List Holding = one_of 0 js ∷ one_of 1 ks ∷ [] in
    let come : parcels_to s hs 0 ≡ parcels_from s (one_of 1 ks) = ap (λ (n : ℕ). map (parcel_for s (one_of 1 ks)) (filter (λ dst. not (nat_eq dst 1)) (range_with_len 0 n))) (sym two) in
    (law s hs (one_of 0 js) (parcels_from s (one_of 1 ks)) (ap (range_with_len 0) (sym two)) bodies (0, omega arith, refl)
    (subst (IsPermutation (parcels_to s hs 0)) come (IsPermutation-refl (parcels_to s hs 0)))).are_bodies

pub second_settles : EachRankHasItsOwn → (s : Multisection) (js ks : List Particle) → rank_count s.grid ≡ 2 → AreBodies (js ++ (ks ++ [])) →
    AreBodies (joined (left_with s (one_of 1 ks)).bodies (parcels_from s (one_of 0 js)))
second_settles law s js ks two bodies =
    let hs : List Holding = one_of 0 js ∷ one_of 1 ks ∷ [] in
    let come : parcels_to s hs 1 ≡ parcels_from s (one_of 0 js) = ap (λ (n : ℕ). map (parcel_for s (one_of 0 js)) (filter (λ dst. not (nat_eq dst 0)) (range_with_len 0 n))) (sym two) in
    (law s hs (one_of 1 ks) (parcels_from s (one_of 0 js)) (ap (range_with_len 0) (sym two)) bodies (1, omega arith, refl)
    (subst (IsPermutation (parcels_to s hs 1)) come (IsPermutation-refl (parcels_to s hs 1)))).are_bodies
