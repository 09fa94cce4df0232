-- The forces of a step: those on the particles of all groups, by their lists, or the least fault.
use Rattle.std.specs.Prelude.{◌≤◌, List, Option, map, flat_map, option_map, All, Contains}
use Rattle.std.specs.List.{filter_map}
use Rattle.pf_geom.specs.declared.edge.Edge.{Edge}
use Rattle.pf_model.specs.Particle.{Particle}
use Rattle.kern_tree.specs.declared.kernel.Kernel.{Kernel}
use Rattle.group_lists.specs.Whole.{GroupList}
use Rattle.run_model.specs.declared.fault.Fault.{Fault}
use Rattle.run_model.specs.Force.{force_row, force_fault}
use Rattle.force_phase.specs.Found.{in_order_of_id}
use Rattle.force_phase.specs.declared.phase.IdRow.{IdRow}
use Rattle.run_model.specs.declared.fault.PhaseFault.{PhaseFault}
use Rattle.run_model.specs.declared.fault.PhaseFault.TheVariants.{Numeric, Memory}

-- the particles of all groups
abbrev pub bodies_in : List GroupList → List Particle
bodies_in groups = flat_map (λ g. g.bodies) groups

-- the forces on each of them, group by group
abbrev pub rows_in : Edge → Kernel → List GroupList → List IdRow
rows_in edge kernel groups =
    flat_map (λ g. map (λ i. record { id = i.id; row = force_row edge kernel g.entries i }) g.bodies) groups

-- and by ascending id
abbrev pub rows_by_id : Edge → Kernel → List GroupList → List IdRow
rows_by_id edge kernel groups = in_order_of_id (rows_in edge kernel groups)

-- the fault of a particle, by its list
abbrev pub fault_of : Edge → Kernel → GroupList → Particle → Option Fault
fault_of edge kernel g i = option_map (λ what. record { id = i.id; what = what }) (force_fault edge kernel g.entries i)

-- the faults of all groups
abbrev pub faults_in : Edge → Kernel → List GroupList → List Fault
faults_in edge kernel groups = flat_map (λ g. filter_map (fault_of edge kernel g) g.bodies) groups

-- the least fault by id, or want of memory
abbrev pub StopsPhase : Edge → Kernel → List GroupList → PhaseFault → Type 0
StopsPhase edge kernel groups (Numeric fault) =
    Contains (faults_in edge kernel groups) fault × All (λ other. fault.id ≤ other.id) (faults_in edge kernel groups)
StopsPhase edge kernel groups Memory = Unit {0}
