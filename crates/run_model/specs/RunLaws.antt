-- Laws of runs.
use Rattle.std.specs.Prelude.{◌≡◌, ℕ, ℤ, ◌<◌, ◌≤◌, ◌↔◌, List, [], ◌∷◌, length, map, flat_map, Option, Some, None, IsSome, All, Contains, IsPermutation, slice_index_or}
use Rattle.pf_geom.specs.Position.{Position}
use Rattle.pf_model.specs.declared.entry.Entry.{Entry}
use Rattle.pf_model.specs.Division.{Division, IsDivision, rank_count}
use Rattle.pf_model.specs.Domains.{owner}
use Rattle.pf_model.specs.Particle.{Particle, IsParticle}
use Rattle.pf_model.specs.Particles.{HaveDistinctIds, by_id}
use Rattle.pf_model.specs.Interaction.{list_of, members_of}
use Rattle.pf_model.specs.Group.{particles_in, group_of, box_of, group_cells}
use Rattle.pf_model.specs.Groups.{RankGroup, group_list}
use Rattle.run_model.specs.declared.step_text.BodyLine.{BodyLine}
use Rattle.run_model.specs.Setup.{Setup}
use Rattle.run_model.specs.Run.{State, list_for, entry_count, state, first_fault, end_of}
use Rattle.run_model.specs.Text.{cells_in, particles_within, ranks, rank_counts, told, text}

-- a run that ends at step e: this step has a fault, the steps before it have states, and it and those after it
-- have none
pub record EndsAt (u : Setup) (e : ℕ) : Type 0 where
  pub within : e ≤ u.steps
  pub fault : IsSome (first_fault u e)
  pub before : (s : ℕ) → s < e → IsSome (state u s)
  pub after : (s : ℕ) → e ≤ s → state u s ≡ None

-- a run that goes to its last step
pub record GoesThrough (u : Setup) : Type 0 where
  pub states : (s : ℕ) → s ≤ u.steps → IsSome (state u s)
  pub no_fault : (s : ℕ) → s ≤ u.steps → first_fault u s ≡ None

abbrev pub EndsOrGoesThrough : Setup → Option ℕ → Type 0
EndsOrGoesThrough u None = GoesThrough u
EndsOrGoesThrough u (Some e) = EndsAt u e

-- a state exists exactly for the steps before the end
abbrev pub StatesStandBeforeTheEnd : Type 0
StatesStandBeforeTheEnd = (u : Setup) → EndsOrGoesThrough u (end_of u)

-- the ids of the particles in order
abbrev pub ids_of : Setup → List ℕ
ids_of u = map (λ p. p.id) (by_id u.particles)

-- a state has the particles of the run, now and at the last build
pub record HasAll (u : Setup) (now : State) : Type 0 where
  pub bodies : map (λ b. b.body.id) now.bodies ≡ ids_of u
  pub built : map (λ p. p.id) now.built ≡ ids_of u

-- no particle is lost, gained or moved in the order by ids
abbrev pub StatesKeepTheParticles : Type 0
StatesKeepTheParticles = (u : Setup) (s : ℕ) (now : State) → state u s ≡ Some now → HasAll u now

-- nor do they leave the limits of particles
pub record StaysWithinLimits (now : State) : Type 0 where
  pub bodies : All (λ b. IsParticle b.body) now.bodies
  pub built : All IsParticle now.built

abbrev pub StatesKeepTheLimits : Type 0
StatesKeepTheLimits =
    (u : Setup) (s : ℕ) (now : State) → All IsParticle u.particles → state u s ≡ Some now → StaysWithinLimits now

-- a run whose particles were read in another order
abbrev pub with_particles : Setup → List Particle → Setup
with_particles u js = record u { particles = js }

-- the order in which particles are read changes no state, fault or text
pub record IsSameRun (u v : Setup) : Type 0 where
  pub states : (s : ℕ) → state u s ≡ state v s
  pub faults : (s : ℕ) → first_fault u s ≡ first_fault v s
  pub texts : (s : ℕ) → text u s ≡ text v s

abbrev pub RunsIgnoreTheOrderRead : Type 0
RunsIgnoreTheOrderRead =
    (u : Setup) (js : List Particle) → HaveDistinctIds u.particles → IsPermutation u.particles js →
    IsSameRun u (with_particles u js)

-- of the entries of a group's list at the last build, exactly one has the particle as a member
abbrev pub EachIsInOneEntryOfEachList : Type 0
EachIsInOneEntryOfEachList =
    (u : Setup) (s : ℕ) (now : State) (group : RankGroup) (j : Particle) → state u s ≡ Some now → Contains now.built j →
    let entries = group_list u.theta now.built group in
    (k : ℕ) × (k < length entries) × ((i : ℕ) (e : Entry) → i < length entries →
    Contains (members_of u.theta (box_of group.members) now.built (slice_index_or entries i e)) j ↔ (i ≡ k))

-- a run whose ranks divide the cube otherwise
abbrev pub on_grid : Setup → Division → Setup
on_grid u g = record u { grid = g }

-- what a particle's line tells but for its owner
abbrev pub but_for_owner : BodyLine → ℕ × Position × List ℤ × List ℤ
but_for_owner line = (line.id, line.at, line.vel, line.forces)

-- two runs that differ in who owns what alone
pub record IsSameButForOwners (u v : Setup) : Type 0 where
  pub states : (s : ℕ) → state u s ≡ state v s
  pub faults : (s : ℕ) → first_fault u s ≡ first_fault v s
  pub ends : end_of u ≡ end_of v
  pub lines : (s : ℕ) (now : State) → map but_for_owner (told u s now).rows ≡ map but_for_owner (told v s now).rows

-- Grid independence: for groups of one particle, grids change owners alone
abbrev pub GridsChangeOwnersAlone : Type 0
GridsChangeOwnersAlone =
    (u : Setup) (g : Division) → IsDivision u.grid → IsDivision g → u.group ≡ 1 → All IsParticle u.particles →
    IsSameButForOwners u (on_grid u g)

-- the list of the group of a particle, where one rank has all particles
abbrev pub lone_list : Setup → List Particle → Particle → List Entry
lone_list u js i = list_of u.theta (box_of (group_of u.group js i)) js

-- the lists of all its groups, joined
abbrev pub lone_lists : Setup → List Particle → List Entry
lone_lists u js = flat_map (λ c. list_of u.theta (box_of (particles_in c js)) js) (group_cells u.group js)

-- what a build on these particles is, where one rank has them all
pub record IsLoneBuild (u : Setup) (js : List Particle) : Type 0 where
  pub ranks : ranks u ≡ 0 ∷ []
  pub owners : (p : Position) → owner u.grid js p ≡ 0
  pub lists : (i : Particle) → Contains js i → list_for u js js i ≡ lone_list u js i
  pub entries : entry_count u js ≡ length (lone_lists u js)
  pub counts : rank_counts u js 0 ≡ record {
    particles = length js;
    groups = length (group_cells u.group js);
    cells = 0;
    parts = 0;
    listcells = cells_in (lone_lists u js);
    listparts = particles_within (lone_lists u js);
  }

-- where there is one rank, every build is this
abbrev pub LoneRanksBuildSo : Type 0
LoneRanksBuildSo =
    (u : Setup) (js : List Particle) → IsDivision u.grid → rank_count u.grid ≡ 1 → HaveDistinctIds js → IsLoneBuild u js
