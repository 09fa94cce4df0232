-- All ranks together have all particles, each once.
use Rattle.std.proofs.Common.{ℕ, List, nat_eq}
use Rattle.std.specs.List.{flat_map, range_with_len}
use Rattle.std.proofs.lemmas.List.Sorted.{IsPermutation-refl, IsPermutation-trans}
use Rattle.pf_model.specs.Particle.{Particle}
use Rattle.pf_model.specs.Particles.{by_id}
use Rattle.model_laws.specs.ParticleLaws.{SomeHaveDistinctIds}
use Rattle.model_laws.specs.IdLaws.{OrdersByIdHaveAll}
use Rattle.order_laws.specs.OrderLaws.{PartsByKeyAreAll, PartsKeepPermutations}
use Rattle.pf_model.specs.Division.{rank_count}
use Rattle.pf_model.specs.Domains.{owner_by}
use Rattle.model_laws.specs.DomainLaws.{OwnersByCutsAreRanks}
use Rattle.exchange.specs.States.{owned_by}
use Rattle.exchange.specs.ExchangeLaws.{RanksTogetherHaveAll}

pub ranks_together_have_all : OwnersByCutsAreRanks → SomeHaveDistinctIds → PartsByKeyAreAll Particle → OrdersByIdHaveAll → PartsKeepPermutations ℕ Particle → RanksTogetherHaveAll
ranks_together_have_all law some parts by_ids kept s js cuts distinct =
    let owned = λ (rank : ℕ). owned_by s rank js in
    let ranks : List ℕ = range_with_len 0 (rank_count s.grid) in
    IsPermutation-trans js (flat_map owned ranks) (flat_map (λ rank. by_id (owned rank)) ranks)
    (parts (λ j. owner_by s j.at) (rank_count s.grid) js (λ j. law s j.at cuts))
    (kept owned (λ rank. by_id (owned rank)) ranks ranks (λ rank. by_ids (owned rank) (some (λ j. nat_eq (owner_by s j.at) rank) js distinct)) (IsPermutation-refl ranks))
