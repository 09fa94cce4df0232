-- A fault as it is shown.
use Rattle.std.specs.Prelude.{ℕ, List, ◌++◌, codes}
use Rattle.std.specs.Fmt.{decimal}
use Rattle.particle_file.specs.declared.fault.PartFault.{PartFault}
use Rattle.particle_file.specs.declared.fault.PartFault.TheVariants as faults

-- the fault's name, its line and its column
abbrev pub particle_fault_text : PartFault → List ℕ
particle_fault_text faults.Header = codes "Header"
particle_fault_text faults.Count = codes "Count"
particle_fault_text faults.TooMany = codes "TooMany"
particle_fault_text (faults.Field line column) =
    codes "Field line " ++ decimal line ++ codes " column " ++ decimal column
particle_fault_text (faults.Range line column) =
    codes "Range line " ++ decimal line ++ codes " column " ++ decimal column
particle_fault_text (faults.Short line) = codes "Short line " ++ decimal line
particle_fault_text (faults.Trailing line) = codes "Trailing line " ++ decimal line
particle_fault_text (faults.DuplicateId line) = codes "DuplicateId line " ++ decimal line
particle_fault_text faults.Memory = codes "out of memory"
