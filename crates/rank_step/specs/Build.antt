-- The build of a step: what it follows, and what it gives.
use Rattle.std.specs.Prelude.{◌≡◌, ℕ, List, flat_map, All, Some, IsPermutation}
use Rattle.pf_model.specs.Criterion.{Criterion}
use Rattle.pf_model.specs.Division.{Division}
use Rattle.pf_model.specs.Particle.{Particle}
use Rattle.group_lists.specs.Whole.{GroupList}
use Rattle.run_model.specs.Setup.{Setup}
use Rattle.run_model.specs.Run.{list_for, lists_fault}
use Rattle.run_model.specs.Run as stop
use Rattle.run_model.specs.declared.fault.StepFault.{StepFault}
use Rattle.run_model.specs.declared.fault.StepFault.TheVariants.{Numeric, Lists, Memory}

-- a run that builds on this grid, by this criterion and this limit of a group
pub record BuildsBy (g : Division) (t : Criterion) (limit : ℕ) (u : Setup) : Type 0 where
  pub grid : u.grid ≡ g
  pub theta : u.theta ≡ t
  pub group : u.group ≡ limit

-- the groups of a build with their lists, as its particles are now: together they have each particle once, and a
-- group's list is that of each of its particles
pub record AreListsOf (u : Setup) (built now : List Particle) (lists : List GroupList) : Type 0 where
  pub all : IsPermutation now (flat_map (λ l. l.bodies) lists)
  pub each : All (λ l. All (λ i. l.entries ≡ list_for u built now i) l.bodies) lists

-- the lists of a build have more entries than the limit, namely so many, or memory ran out
abbrev pub IsTooMany : Setup → List Particle → StepFault → Type 0
IsTooMany u built (Numeric fault) = ⊥
IsTooMany u built (Lists count) = lists_fault u built ≡ Some (stop.Lists count)
IsTooMany u built Memory = Unit {0}
