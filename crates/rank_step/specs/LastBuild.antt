-- What is kept of the last build.
use Rattle.std.specs.Prelude.{◌≡◌, ◌%◌, ◌⊎◌, ℕ, zero, suc, List, map, nat_eq, if◌then◌else◌}
use Rattle.pf_model.specs.Criterion.{Criterion}
use Rattle.pf_model.specs.Division.{Division}
use Rattle.pf_model.specs.Domains.{owner}
use Rattle.pf_model.specs.Particle.{Particle}
use Rattle.pf_model.specs.Particles.{by_id}
use Rattle.refresh_phase.specs.Kept.{RankKept, AreKept}
use Rattle.run_model.specs.Setup.{Setup}
use Rattle.rank_step.specs.declared.last_build.LastBuild.{LastBuild}
use Rattle.rank_step.specs.Ranks.{HaveTogether, first_ranks, with_owners}

-- the ranks have their trees and lists of a build, as the particles were at some later time
abbrev pub AreKeptSince : ℕ → Criterion → Division → List Particle → List RankKept → Type 0
AreKeptSince limit t g built ranks = (before : List Particle) × AreKept limit t g built before ranks

-- What a world keeps before each step: the particles with these ids as they were at the last build, or as they were
-- read, all of which the ranks have together, and the lists of the ranks where the step doesn't build.
pub record IsLastFor (g : Division) (t : Criterion) (limit reuse due : ℕ) (ids : List ℕ) (last : LastBuild)
    : Type 0 where
  pub same : map (λ p. p.id) last.bodies.items ≡ ids
  pub together : HaveTogether g last.bodies.items last.ranks.items
  pub kept : (due % reuse ≡ 0) ⊎ AreKeptSince limit t g last.bodies.items last.kept.items

-- the particles of the last build from a step on, which come to be these
abbrev pub built_from : ℕ → ℕ → List Particle → List Particle → List Particle
built_from reuse due now built = if nat_eq (due % reuse) 0 then now else built

-- the owner of each particle of a build
abbrev pub owners_of : Division → List Particle → List ℕ
owners_of g built = map (λ p. owner g built p.at) built

-- the owners at a build of the run, and the ranks: each particle is with its owner
pub record IsBuildOf (u : Setup) (last : LastBuild) : Type 0 where
  pub owners : last.owners.items ≡ owners_of u.grid last.bodies.items
  pub ranks : last.ranks.items ≡ with_owners u.grid last.bodies.items

-- what is kept before this step: the particles dealt out as they were read, or the last build
abbrev pub IsLastBefore : Setup → ℕ → LastBuild → Type 0
IsLastBefore u zero last = last.ranks.items ≡ first_ranks u.grid (by_id u.particles)
IsLastBefore u (suc s) last = IsBuildOf u last
