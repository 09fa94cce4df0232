-- A fault as it is shown.
use Rattle.std.specs.Prelude.{ℕ, List, ◌++◌, codes}
use Rattle.std.specs.Fmt.{decimal}
use Rattle.kern_token.specs.declared.fault.KernFault.{KernFault}
use Rattle.kern_token.specs.declared.fault.KernFault.TheVariants as faults

-- the fault's name and its place
abbrev pub kernel_fault_text : KernFault → List ℕ
kernel_fault_text (faults.BadByte place) = codes "BadByte at " ++ decimal place
kernel_fault_text (faults.NumberTooLarge place) = codes "NumberTooLarge at " ++ decimal place
kernel_fault_text (faults.Unexpected place) = codes "Unexpected at " ++ decimal place
kernel_fault_text (faults.TooDeep place) = codes "TooDeep at " ++ decimal place
kernel_fault_text (faults.TooManyNodes place) = codes "TooManyNodes at " ++ decimal place
kernel_fault_text faults.Memory = codes "out of memory"
