-- Runs and their states as plain executors have them.
use Rattle.std.specs.Prelude.{◌≡◌, ◌≤◌, ℕ, ℤ, List, [], length, map, Option, Some, None, nat_eq, if◌then◌else◌}
use Rattle.std.specs.List.{flat_map, range_with_len}
use Rattle.pf_model.specs.Particle.{Particle}
use Rattle.pf_model.specs.Particles.{AreBodies}
use Rattle.order_laws.specs.Order.{first_some}
use Rattle.pf_model.specs.Criterion.{Criterion}
use Rattle.pf_model.specs.Division.{Division, rank_count}
use Rattle.pf_model.specs.Domains.{particles_of}
use Rattle.pf_model.specs.Groups.{groups_of_rank, group_list}
use Rattle.pf_model.specs.EssentialTree.{essential_tree}
use Rattle.run_model.specs.declared.step_text.BodyLine.{BodyLine}
use Rattle.run_model.specs.declared.step_text.RankLine.{RankLine}
use Rattle.run_model.specs.Setup.{Setup}
use Rattle.run_model.specs.Text.{cells_in, particles_within}
use Rattle.run_model.specs.Force.{first_given, force_row}
use Rattle.run_model.specs.Run.{Stop, WithForces, State}
use Rattle.run_model.specs.Run as runs
use Rattle.plain_run.specs.Lists.{HaveOneOrder}

-- what each setup keeps: few particles of distinct ids, and a build at least at the start
pub record IsRunnable (particles : List Particle) (reuse : ℕ) : Type 0 where
  pub bodies : AreBodies particles
  pub some : 1 ≤ reuse

-- what each state keeps: few particles of distinct ids, at the build and now in one order
pub record IsStill (bodies : List WithForces) (built : List Particle) : Type 0 where
  pub few : AreBodies built
  pub same : HaveOneOrder built (map (λ b. b.body) bodies)

-- the counts of a rank, by what decides on them
abbrev pub counts_by : Division → Criterion → ℕ → List Particle → ℕ → RankLine
counts_by g t limit built rank =
    let received =
    flat_map (λ src. if nat_eq src rank then [] else essential_tree t g built src rank)
    (range_with_len 0 (rank_count g))
    in
    let lists = flat_map (group_list t built) (groups_of_rank limit g built rank) in
    record {
      particles = length (particles_of g built rank);
      groups = length (groups_of_rank limit g built rank);
      cells = cells_in received;
      parts = particles_within received;
      listcells = cells_in lists;
      listparts = particles_within lists;
    }

-- ---- the parts of a step, and their first faults

-- a particle with the forces on it
abbrev pub forced_by : Setup → List Particle → List Particle → Particle → WithForces
forced_by u built now i =
    record { body = i; forces = force_row u.theta.edge u.kernel (runs.list_for u built now i) i }

-- the state that a build and the particles where they are make
abbrev pub state_taken : Setup → List Particle → List Particle → State
state_taken u built now =
    record { bodies = map (runs.kicked_again u) (runs.with_forces u built now); built = built }

-- of the forces, and then of the second half kick
abbrev pub forces_and_kick_fault : Setup → List Particle → List Particle → Option Stop
forces_and_kick_fault u built now =
    first_some (first_given (runs.forces_fault u built now) now)
    (first_given (runs.kick_fault u) (runs.with_forces u built now))

-- of a build
abbrev pub build_fault : Setup → ℕ → State → Option Stop
build_fault u s before = if runs.is_build u s then runs.lists_fault u (runs.built_at u s before) else None

-- of what comes after the first moves
abbrev pub later_fault : Setup → ℕ → State → Option Stop
later_fault u s before =
    first_some (build_fault u s before) (forces_and_kick_fault u (runs.built_at u s before) (runs.moved u before))

-- the line of a particle of this owner
abbrev pub body_line_of : Particle → ℕ → List ℤ → BodyLine
body_line_of p owner forces = record { id = p.id; owner = owner; at = p.at; vel = p.vel; forces = forces }
