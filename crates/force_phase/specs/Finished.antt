-- What is found of groups that are finished.
use Rattle.std.specs.Prelude.{◌≡◌, List, [], Option, Some, None}
use Rattle.pf_geom.specs.declared.edge.Edge.{Edge}
use Rattle.kern_tree.specs.declared.kernel.Kernel.{Kernel}
use Rattle.group_lists.specs.Whole.{GroupList}
use Rattle.run_model.specs.declared.fault.Fault.{Fault}
use Rattle.force_phase.specs.Found.{FoundSoFar}
use Rattle.force_phase.specs.Outcome.{IsLeast}
use Rattle.force_phase.specs.Phase.{rows_in, faults_in}

-- the least of these faults, where there is one
abbrev pub IsLeastOrNone : List Fault → Option Fault → Type 0
IsLeastOrNone faults None = faults ≡ []
IsLeastOrNone faults (Some fault) = IsLeast faults fault

-- the least fault of these groups, and where there is none all their rows, in their order
pub record IsFoundIn (edge : Edge) (kernel : Kernel) (groups : List GroupList) (found : FoundSoFar) : Type 0 where
  pub least : IsLeastOrNone (faults_in edge kernel groups) found.least
  pub rows : found.least ≡ None → found.rows ≡ rows_in edge kernel groups
