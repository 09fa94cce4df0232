-- The forces of a step by the lists of a build, on particles by ascending id.
use Rattle.std.specs.Prelude.{◌≡◌, Bool, List, [], map, Option, None, if◌then◌else◌}
use Rattle.pf_geom.specs.declared.edge.Edge.{Edge}
use Rattle.group_lists.specs.Whole.{GroupList}
use Rattle.kern_tree.specs.declared.kernel.Kernel.{Kernel}
use Rattle.order_laws.specs.Order.{first_some}
use Rattle.pf_model.specs.Particle.{Particle}
use Rattle.force_phase.specs.declared.phase.IdRow.{IdRow}
use Rattle.run_model.specs.declared.step_text.RankLine.{RankLine}
use Rattle.run_model.specs.Force.{first_given}
use Rattle.run_model.specs.Setup.{Setup}
use Rattle.run_model.specs.Run.{Stop, WithForces, with_forces, lists_fault, forces_fault}
use Rattle.run_model.specs.Text.{ranks as all_ranks, rank_counts}
use Rattle.rank_step.specs.Build.{AreListsOf}

-- a run that takes the forces of this kernel on these particles by these lists
pub record TakesFrom (k : Kernel) (e : Edge) (built now : List Particle) (all : List GroupList) (u : Setup)
    : Type 0 where
  pub kernel : u.kernel ≡ k
  pub edge : u.theta.edge ≡ e
  pub lists : AreListsOf u built now all

-- the first fault of the forces on particles by the lists of a build: at the build first that of the lists, then by id
-- the forces
abbrev pub taking_fault : Setup → Bool → List Particle → List Particle → Option Stop
taking_fault u builds built now =
    first_some (if builds then lists_fault u built else None) (first_given (forces_fault u built now) now)

-- the particles with the forces on them by the lists of a build, which have no fault, and what it tells of each rank
pub record Takes (u : Setup) (builds : Bool) (built now : List Particle) (bodies : List WithForces)
    (lines : List RankLine) : Type 0 where
  pub no_fault : taking_fault u builds built now ≡ None
  pub forces : bodies ≡ with_forces u built now
  pub counts : lines ≡ map (rank_counts u built) (all_ranks u)

-- a particle and the row of numbers that it gets
abbrev pub with_row : Particle × IdRow → WithForces
with_row pair = record { body = pair.0; forces = pair.1.row }

-- a particle before forces were taken on it
abbrev pub without_forces : Particle → WithForces
without_forces p = record { body = p; forces = [] }
