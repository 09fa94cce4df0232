-- Prefix sums over a list of particles, or of moments.
use Rattle.std.specs.Prelude.{◌≡◌, ℕ, ◌+◌, ◌≤◌, List, [], ◌∷◌, length, take, map, sum_by, All}
use Rattle.std.specs.List.{range_with_len}
use Rattle.pf_model.specs.declared.limits.TheConstants.{MOST_PARTICLES}
use Rattle.pf_model.specs.Particle.{Particle}
use Rattle.pf_model.specs.Totals.{Totals, IsTotals}
use Rattle.pf_model.specs.Sums.{moment_of, all_together}

-- the moments of the first particles, for each count of them from none to all
abbrev pub prefix_moments : List Particle → List Totals
prefix_moments js = map (λ k. moment_of (take k js)) (range_with_len 0 (length js + 1))

-- the moment of this one particle keeps the limits
abbrev pub HasLimitedMoment : Particle → Type 0
HasLimitedMoment j = IsTotals (moment_of (j ∷ []))

-- the sums of the first of these moments, for each count of them from none to all
abbrev pub prefix_sums : List Totals → List Totals
prefix_sums ms = map (λ k. all_together (take k ms)) (range_with_len 0 (length ms + 1))

-- how many particles they are of
abbrev pub particle_count : List Totals → ℕ
particle_count ms = sum_by (λ m. m.count) ms

-- the sums of few enough moments, of few enough particles together
pub record IsPrefixOf (ms sums : List Totals) : Type 0 where
  pub few : length ms ≤ MOST_PARTICLES
  pub few_particles : particle_count ms ≤ MOST_PARTICLES
  pub limits : All IsTotals ms
  pub summed : sums ≡ prefix_sums ms

-- sums that a `Prefix` can hold
abbrev pub IsPrefix : List Totals → Type 0
IsPrefix sums = (ms : List Totals) × IsPrefixOf ms sums
