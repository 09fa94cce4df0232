-- A kernel is well typed or has one first fault.
use Rattle.std.specs.Prelude.{◌≡◌, ◌⊎◌}
use Rattle.kern_tree.specs.declared.kernel.Kernel.{Kernel}
use Rattle.kern_types.specs.declared.fault.TypeFault.{TypeFault}
use Rattle.kern_types.specs.WellTyped.{HasFirstTypeFault, WellTyped}

abbrev pub SomeTyping : Type 0
SomeTyping = (kernel : Kernel) → WellTyped kernel ⊎ ((fault : TypeFault) × HasFirstTypeFault kernel fault)

abbrev pub OneTyping : Type 0
OneTyping = (kernel : Kernel) (fault : TypeFault) → WellTyped kernel → HasFirstTypeFault kernel fault → ⊥

abbrev pub OneTypeFault : Type 0
OneTypeFault = (kernel : Kernel) (a b : TypeFault) → HasFirstTypeFault kernel a → HasFirstTypeFault kernel b → a ≡ b
