-- A fault as it is shown.
use Rattle.std.specs.Prelude.{ℕ, List, ◌++◌, codes}
use Rattle.std.specs.Fmt.{decimal}
use Rattle.deck_file.specs.declared.fault.DeckFault.{DeckFault}
use Rattle.deck_file.specs.declared.fault.DeckFault.TheVariants as faults
use Rattle.deck_file.specs.declared.fault.Key.{Key}
use Rattle.deck_file.specs.declared.fault.Key.TheVariants as keys

abbrev pub key_text : Key → List ℕ
key_text keys.Kernel = codes "kernel"
key_text keys.Particles = codes "particles"
key_text keys.Out = codes "out"

-- the fault's name, and the line or the key
abbrev pub deck_fault_text : DeckFault → List ℕ
deck_fault_text (faults.UnknownKey line) = codes "UnknownKey line " ++ decimal line
deck_fault_text (faults.Twice line) = codes "Twice line " ++ decimal line
deck_fault_text (faults.Value line) = codes "Value line " ++ decimal line
deck_fault_text (faults.Missing key) = codes "Missing " ++ key_text key
deck_fault_text faults.Reuse = codes "Reuse"
deck_fault_text faults.Memory = codes "out of memory"
