-- Run: the states of a run, step by step, and the first fault of each step.
use Rattle.std.specs.Prelude.{ℤ, ℕ, zero, suc, ◌%◌, ◌^◌, Bool, List, length, map, sum_by, Option, Some, None, option_map, option_and_then, is_some, nat_eq, nat_lt, if◌then◌else◌}
use Rattle.pf_model.specs.declared.entry.Entry.{Entry}
use Rattle.pf_model.specs.Particle.{Particle}
use Rattle.pf_model.specs.Particles.{by_id}
use Rattle.order_laws.specs.Order.{first_some, least_below}
use Rattle.pf_model.specs.Groups.{all_groups, group_with, group_list}
use Rattle.pf_model.specs.Reuse.{as_in, kept_group_list}
use Rattle.run_model.specs.declared.fault.Fault.{Fault}
use Rattle.run_model.specs.declared.fault.What.{What}
use Rattle.run_model.specs.declared.fault.What.TheVariants.{Fast, Escaped}
use Rattle.run_model.specs.Setup.{Setup}
use Rattle.run_model.specs.Leapfrog.{fast_axis, after_kick, escape_axis, after_drift}
use Rattle.run_model.specs.Force.{first_given, force_row, force_fault, acceleration}

-- a particle and the forces on it
pub record WithForces : Type 0 where
  pub body : Particle
  pub forces : List ℤ

-- The particles after a step by ascending id, with their forces, and as they were at the last build. Owners,
-- groups, lists and members are those that the particles of the build make.
pub record State : Type 0 where
  pub bodies : List WithForces
  pub built : List Particle

-- why a step has no state: a particle's fault, or too many entries in all lists together
pub data Stop : Type 0 where
  Numeric : Fault → Stop
  Lists : ℕ → Stop

-- ---- forces at present positions, over the lists of a build

-- the list of a particle's group at the build, with the members of the build where they are now
abbrev pub list_for : Setup → List Particle → List Particle → Particle → List Entry
list_for u built now i = kept_group_list u.theta built now (group_with u.group u.grid built (as_in built i))

-- the particles with their forces
abbrev pub with_forces : Setup → List Particle → List Particle → List WithForces
with_forces u built now =
    map (λ i. record { body = i; forces = force_row u.theta.edge u.kernel (list_for u built now i) i }) now

-- ---- the moves of a step

-- a particle after half a kick by the forces on it
abbrev pub kicked_body : Setup → WithForces → Particle
kicked_body u b = after_kick u.dt (acceleration u.kernel b.forces) b.body

-- after the first half kick and the drift
abbrev pub moved_body : Setup → WithForces → Particle
moved_body u b = after_drift u.theta.edge u.dt (kicked_body u b)

-- after the second half kick
abbrev pub kicked_again : Setup → WithForces → WithForces
kicked_again u b = record { body = kicked_body u b; forces = b.forces }

-- ---- the particles at a step

-- where the particles of step s are when its forces are taken
abbrev pub moved : Setup → State → List Particle
moved u before = map (moved_body u) before.bodies

abbrev pub is_build : Setup → ℕ → Bool
is_build u s = nat_eq (s % u.reuse) 0

-- the particles of the last build, from step s on
abbrev pub built_at : Setup → ℕ → State → List Particle
built_at u s before = if is_build u s then moved u before else before.built

-- state(0), where it has no fault: a build on the particles as read, and forces
abbrev pub state_at_start : Setup → State
state_at_start u =
    let read = by_id u.particles in
    record { bodies = with_forces u read read; built = read }

-- state(s) after state(s - 1), where it has no fault: half a kick, a drift, a build where it is due, forces, and
-- half a kick
abbrev pub state_after : Setup → ℕ → State → State
state_after u s before =
    let built = built_at u s before in
    record { bodies = map (kicked_again u) (with_forces u built (moved u before)); built = built }

-- ---- faults

abbrev pub numeric : ℕ → What → Stop
numeric id what = Numeric (record { id = id; what = what })

-- by the half kick on x, y and z
abbrev pub kick_fault : Setup → WithForces → Option Stop
kick_fault u b =
    option_map (λ axis. numeric b.body.id (Fast axis)) (fast_axis u.dt (acceleration u.kernel b.forces) b.body)

-- by the drift after it on x, y and z
abbrev pub drift_fault : Setup → WithForces → Option Stop
drift_fault u b =
    option_map (λ axis. numeric b.body.id (Escaped axis)) (escape_axis u.theta.edge u.dt (kicked_body u b))

-- by the half kick, and then by the drift
abbrev pub move_fault : Setup → WithForces → Option Stop
move_fault u b = first_some (kick_fault u b) (drift_fault u b)

-- the entries of all lists of a build
abbrev pub entry_count : Setup → List Particle → ℕ
entry_count u built = sum_by (λ group. length (group_list u.theta built group)) (all_groups u.group u.grid built)

-- too many of them
abbrev pub lists_fault : Setup → List Particle → Option Stop
lists_fault u built = if nat_lt (2 ^ 24) (entry_count u built) then Some (Lists (entry_count u built)) else None

-- by the forces on a particle
abbrev pub forces_fault : Setup → List Particle → List Particle → Particle → Option Stop
forces_fault u built now i = option_map (numeric i.id) (force_fault u.theta.edge u.kernel (list_for u built now i) i)

-- the first fault of step 0: the lists, then by id the forces
abbrev pub fault_at_start : Setup → Option Stop
fault_at_start u =
    let read = by_id u.particles in
    first_some (lists_fault u read) (first_given (forces_fault u read read) read)

-- the first fault of step s after state(s - 1): by id the first moves; at a build the lists; by id the forces; by
-- id the second half kick
abbrev pub fault_after : Setup → ℕ → State → Option Stop
fault_after u s before =
    let built = built_at u s before in
    let now = moved u before in
    first_some (first_given (move_fault u) before.bodies)
    (first_some (if is_build u s then lists_fault u built else None)
    (first_some (first_given (forces_fault u built now) now)
    (first_given (kick_fault u) (with_forces u built now))))

-- ---- the run

-- the value, where nothing stops it
abbrev pub unless_stopped : {X : Type 0} → Option Stop → X → Option X
unless_stopped None x = Some x
unless_stopped (Some stop) x = None

-- state(s), if there is one
unfoldable pub state : Setup → ℕ → Option State
state u zero = unless_stopped (fault_at_start u) (state_at_start u)
state u (suc s) =
    option_and_then (λ before. unless_stopped (fault_after u (suc s) before) (state_after u (suc s) before)) (state u s)

-- first(s), if step s has a state before it and a fault
unfoldable pub first_fault : Setup → ℕ → Option Stop
first_fault u zero = fault_at_start u
first_fault u (suc s) = option_and_then (fault_after u (suc s)) (state u s)

-- the least step that has a fault, if there is one
abbrev pub end_of : Setup → Option ℕ
end_of u = least_below (λ s. is_some (first_fault u s)) (suc u.steps)
