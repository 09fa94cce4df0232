-- The particles that ranks have at a build.
use Rattle.std.specs.Prelude.{◌≡◌, ℕ, List, map, IsPermutation}
use Rattle.std.specs.List.{range_with_len, flat_map}
use Rattle.pf_model.specs.Division.{Division, rank_count}
use Rattle.pf_model.specs.Domains.{particles_of}
use Rattle.pf_model.specs.Particle.{Particle}
use Rattle.pf_model.specs.Particles.{by_id}
use Rattle.exchange.specs.States.{Holding}
use Rattle.exchange.specs.ExchangeLaws.{particles_held}

-- the ranks of the grid, by number, have together these particles, each once
pub record HaveTogether (g : Division) (js : List Particle) (ranks : List Holding) : Type 0 where
  pub by_number : map (λ h. h.rank) ranks ≡ range_with_len 0 (rank_count g)
  pub all : IsPermutation js (particles_held ranks)

-- ranks by number, each with its part, have together what the parts are in turn
abbrev pub RanksByNumberHaveTogether : Type 0
RanksByNumberHaveTogether =
    (g : Division) (js : List Particle) (part : ℕ → List Particle) →
    IsPermutation js (flat_map part (range_with_len 0 (rank_count g))) →
    HaveTogether g js (map (λ rank. record { rank = rank; bodies = part rank }) (range_with_len 0 (rank_count g)))

-- the ranks at a build on these particles: each particle is with its owner
abbrev pub with_owners : Division → List Particle → List Holding
with_owners g js =
    map (λ rank. record { rank = rank; bodies = by_id (particles_of g js rank) }) (range_with_len 0 (rank_count g))
