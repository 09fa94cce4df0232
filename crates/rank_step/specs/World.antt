-- A world: all particles of a run, and the ranks that have them, before its next step.
use Rattle.std.specs.Prelude.{◌≡◌, ◌≤◌, ℕ, zero, suc, List, length, map, Some, None, option_map}
use Rattle.std.specs.List.Sorted.{IsStrictlyIncreasing}
use Rattle.pf_model.specs.declared.limits.TheConstants.{MOST_GROUP, MOST_PARTICLES}
use Rattle.pf_model.specs.Criterion.{Criterion}
use Rattle.pf_model.specs.Division.{Division}
use Rattle.pf_model.specs.Particle.{Particle}
use Rattle.pf_model.specs.Particles.{AreBodies, by_id}
use Rattle.kern_tree.specs.declared.kernel.Kernel.{Kernel}
use Rattle.run_model.specs.declared.step_text.StepText.{StepText}
use Rattle.run_model.specs.Setup.{Setup}
use Rattle.run_model.specs.Run.{WithForces, state, first_fault}
use Rattle.run_model.specs.Text.{told}
use Rattle.rank_step.specs.declared.course.Course.{Course}
use Rattle.rank_step.specs.declared.last_build.LastBuild.{LastBuild}
use Rattle.rank_step.specs.LastBuild.{IsLastFor, IsLastBefore}

-- a world as clauses see it: what its steps follow, the number of the next one, the particles with the forces on them
-- by ascending id, and what is kept of the last build
pub record Standing : Type 0 where
  pub kernel : Kernel
  pub grid : Division
  pub theta : Criterion
  pub group : ℕ
  pub dt : ℕ
  pub reuse : ℕ
  pub due : ℕ
  pub bodies : List WithForces
  pub last : LastBuild

-- a limit of groups, and few particles in the order of their ids
pub record IsStanding (group : ℕ) (bodies : List WithForces) : Type 0 where
  pub some : 1 ≤ group
  pub most : group ≤ MOST_GROUP
  pub few : length bodies ≤ MOST_PARTICLES
  pub ascending : IsStrictlyIncreasing (map (λ b. b.body.id) bodies)

-- what each world keeps
pub record IsSound (g : Division) (t : Criterion) (group reuse due : ℕ) (bodies : List WithForces) (last : LastBuild)
    : Type 0 where
  pub standing : IsStanding group bodies
  pub some_steps : 1 ≤ reuse
  pub last_build : IsLastFor g t group reuse due (map (λ b. b.body.id) bodies) last

-- a run that these steps follow
pub record Follows (c : Course) (u : Setup) : Type 0 where
  pub kernel : u.kernel ≡ c.kernel
  pub grid : u.grid ≡ c.grid
  pub theta : u.theta ≡ c.theta
  pub group : u.group ≡ c.group
  pub dt : u.dt ≡ c.dt
  pub reuse : u.reuse ≡ c.reuse

-- these are the particles of the run before this step, and as they were at the last build: as they were read, or as
-- the step before left them
abbrev pub IsBefore : Setup → ℕ → List WithForces → List Particle → Type 0
IsBefore u zero bodies built = (map (λ b. b.body) bodies ≡ by_id u.particles) × (built ≡ by_id u.particles)
IsBefore u (suc s) bodies built = state u s ≡ Some (record { bodies = bodies; built = built })

-- the world is that of this run
pub record StandsFor (w : Standing) (u : Setup) : Type 0 where
  pub kernel : u.kernel ≡ w.kernel
  pub grid : u.grid ≡ w.grid
  pub theta : u.theta ≡ w.theta
  pub group : u.group ≡ w.group
  pub dt : u.dt ≡ w.dt
  pub reuse : u.reuse ≡ w.reuse
  pub particles : AreBodies u.particles
  pub before : IsBefore u w.due w.bodies w.last.bodies.items
  pub last : IsLastBefore u w.due w.last

-- the step has a state, which the text tells, and the new world stands for the run after it
pub record Steps (u : Setup) (s : ℕ) (after : Standing) (text : StepText) : Type 0 where
  pub no_fault : first_fault u s ≡ None
  pub told : option_map (told u s) (state u s) ≡ Some text
  pub due : after.due ≡ suc s
  pub stands : StandsFor after u
