-- What the particles of one group give: their forces, or the least of their faults.
use Rattle.std.specs.Prelude.{◌≡◌, ◌≤◌, ℕ, ℤ, List, [], Option, Some, Result, Ok, Err}
use Rattle.std.specs.Prelude.{length, map, sum_by, slice_get, All, Contains}
use Rattle.std.specs.List.{filter_map}
use Rattle.pf_geom.specs.declared.edge.Edge.{Edge}
use Rattle.kern_tree.specs.declared.kernel.Kernel.{Kernel}
use Rattle.kern_types.specs.declared.force_var.ForceVar.{ForceVar}
use Rattle.kern_types.specs.Declarations.{forces_of}
use Rattle.group_lists.specs.Whole.{GroupList}
use Rattle.run_model.specs.declared.fault.Fault.{Fault as AFault}
use Rattle.run_model.specs.declared.fault.What.{What}
use Rattle.run_model.specs.Force.{axes_of, force_row}
use Rattle.force_phase.specs.declared.force.Work.{Work}
use Rattle.force_phase.specs.declared.group_out.GroupOut.{GroupOut}
use Rattle.force_phase.specs.declared.group_out.Outcome.{Outcome}
use Rattle.force_phase.specs.declared.group_out.Outcome.TheVariants.{Done, Fault}
use Rattle.force_phase.specs.Found.{lesser}
use Rattle.force_phase.specs.Gathered.{IsReady}
use Rattle.force_phase.specs.Partner.{partner_of}
use Rattle.force_phase.specs.Phase.{fault_of}

-- how many numbers all FORCE variables have
abbrev pub row_width : List ForceVar → ℕ
row_width forces = sum_by (λ v. length (axes_of v.kind)) forces

-- made for the pairs of a kernel
abbrev pub IsWorkFor : Kernel → Work → Type 0
IsWorkFor kernel w = IsReady kernel w.room.scratch w.room.targets.items (length w.room.tallies.items)

-- made for the forces on a group: its partners, and a row for each of its particles
pub record HasRoomFor (kernel : Kernel) (g : GroupList) (out : GroupOut) : Type 0 where
  pub partners : out.partners.items ≡ map partner_of g.entries
  pub rows : length out.rows.items ≡ length g.bodies
  pub widths : All (λ row. length row ≡ row_width (forces_of kernel.decls)) out.rows.items

-- made for the group of this number
abbrev pub IsOutFor : Kernel → List GroupList → ℕ → GroupOut → Type 0
IsOutFor kernel lists n out = (g : GroupList) → slice_get lists n ≡ Some g → HasRoomFor kernel g out

-- the least fault so far, after a particle of this id
abbrev pub with_stop : {X : Type 0} → Option AFault → ℕ → Result X What → Option AFault
with_stop least id (Ok x) = least
with_stop least id (Err what) = Some (lesser least (record { id = id; what = what }))

-- the faults of a group
abbrev pub faults_of : Edge → Kernel → GroupList → List AFault
faults_of edge kernel g = filter_map (fault_of edge kernel g) g.bodies

-- one of these faults, by the least id
pub record IsLeast (faults : List AFault) (least : AFault) : Type 0 where
  pub among : Contains faults least
  pub below : All (λ other. least.id ≤ other.id) faults

-- the forces on all particles of a group, which have no fault, or the least of their faults
abbrev pub IsOutcome : Edge → Kernel → GroupList → List (List ℤ) → Outcome → Type 0
IsOutcome edge kernel g rows Done =
    (faults_of edge kernel g ≡ []) × (rows ≡ map (force_row edge kernel g.entries) g.bodies)
IsOutcome edge kernel g rows (Fault fault) = IsLeast (faults_of edge kernel g) fault

-- of the group of this number
abbrev pub IsOutcomeAt : Edge → Kernel → List GroupList → ℕ → List (List ℤ) → Outcome → Type 0
IsOutcomeAt edge kernel lists n rows outcome =
    (g : GroupList) → slice_get lists n ≡ Some g → IsOutcome edge kernel g rows outcome
