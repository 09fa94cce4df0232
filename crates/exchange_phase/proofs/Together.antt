-- What ranks have by number.
use Rattle.std.proofs.Common.{◌≡◌, ℕ, List, [], ◌∷◌, ◌++◌, map, refl, sym, ap, subst}
use Rattle.std.specs.List.{flat_map, range_with_len}
use Rattle.std.specs.List.Sorted.{IsPermutation}
use Rattle.pf_model.specs.Division.{rank_count}
use Rattle.pf_model.specs.Particle.{Particle}
use Rattle.exchange.specs.States.{Holding}
use Rattle.exchange.specs.ExchangeLaws.{particles_held}
use Rattle.exchange_phase.specs.Ranks.{RanksByNumberHaveTogether}

abbrev rank_with : (ℕ → List Particle) → ℕ → Holding
rank_with part rank = record { rank = rank; bodies = part rank }

numbers_of : (part : ℕ → List Particle) (ns : List ℕ) → map (λ (h : Holding). h.rank) (map (rank_with part) ns) ≡ ns
numbers_of part [] = refl
numbers_of part (n ∷ ns) = ap (λ rest. n ∷ rest) (numbers_of part ns)

held_by : (part : ℕ → List Particle) (ns : List ℕ) → particles_held (map (rank_with part) ns) ≡ flat_map part ns
held_by part [] = refl
held_by part (n ∷ ns) = ap (λ rest. part n ++ rest) (held_by part ns)

pub ranks_by_number_have_together : RanksByNumberHaveTogether
ranks_by_number_have_together g js part all =
    let ranks : List ℕ = range_with_len 0 (rank_count g) in
    record { by_number = numbers_of part ranks; all = subst (IsPermutation js) (sym (held_by part ranks)) all }
