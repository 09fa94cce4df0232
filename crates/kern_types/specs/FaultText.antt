-- A fault as it is shown.
use Rattle.std.specs.Prelude.{ℕ, List, ◌++◌, codes}
use Rattle.std.specs.Fmt.{decimal}
use Rattle.kern_types.specs.declared.fault.TypeFault.{TypeFault}
use Rattle.kern_types.specs.declared.fault.TypeFault.TheVariants as faults

-- the fault's name and its place
abbrev pub type_fault_text : TypeFault → List ℕ
type_fault_text (faults.Unknown place) = codes "Unknown at " ++ decimal place
type_fault_text (faults.Twice place) = codes "Twice at " ++ decimal place
type_fault_text (faults.Kind place) = codes "Kind at " ++ decimal place
type_fault_text (faults.Scale place) = codes "Scale at " ++ decimal place
type_fault_text (faults.Unassigned place) = codes "Unassigned at " ++ decimal place
type_fault_text (faults.NoAcc place) = codes "NoAcc at " ++ decimal place
type_fault_text faults.Memory = codes "out of memory"
