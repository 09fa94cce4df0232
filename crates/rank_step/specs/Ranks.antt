-- The particles that each rank has, from build to build.
use Rattle.std.specs.Prelude.{◌%◌, ℕ, List, map, filter, nat_eq}
use Rattle.std.specs.List.{range_with_len, enumerate_from}
use Rattle.pf_model.specs.Division.{Division, rank_count}
use Rattle.pf_model.specs.Particle.{Particle}
use Rattle.pf_model.specs.Reuse.{as_in}
use Rattle.exchange.specs.States.{Holding}
pub use Rattle.exchange_phase.specs.Ranks.{HaveTogether, with_owners}

-- the particles at the places k of a list with k mod count = rank
abbrev pub dealt_to : ℕ → List Particle → ℕ → List Particle
dealt_to count js rank = map (λ n. n.1) (filter (λ n. nat_eq (n.0 % count) rank) (enumerate_from 0 js))

-- the ranks before the first step, over the particles by id: the one at place k belongs to rank k mod R
abbrev pub first_ranks : Division → List Particle → List Holding
first_ranks g js =
    map (λ rank. record { rank = rank; bodies = dealt_to (rank_count g) js rank }) (range_with_len 0 (rank_count g))

-- what a rank has, as it is now
abbrev pub held_now : List Particle → Holding → Holding
held_now now h = record { rank = h.rank; bodies = map (as_in now) h.bodies }
