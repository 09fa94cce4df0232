-- Kernels that are well typed, and the first fault of those that aren't.
use Rattle.std.specs.Prelude.{◌≡◌, ℕ, List, [], Ok, Err}
use Rattle.kern_tree.specs.declared.kernel.Kernel.{Kernel}
use Rattle.kern_tree.specs.Parsed.{IsParsed}
use Rattle.kern_types.specs.declared.fault.TypeFault.{TypeFault}
use Rattle.kern_types.specs.Scopes.{Scope}
use Rattle.kern_types.specs.declared.force_var.ForceVar.{ForceVar}
use Rattle.kern_types.specs.Declarations.{all_decls_check, forces_of}
use Rattle.kern_types.specs.Statements.{stmts_after, slots_in}
use Rattle.kern_types.specs.Steps.{OrFault, ◌>>◌}

-- nothing is assigned at the start
abbrev pub at_start : Scope
at_start = record { earlier = []; certain = [] }

-- the scope at the end of a kernel, or its first fault
abbrev pub kernel_after : Kernel → OrFault Scope
kernel_after kernel = do
  all_decls_check kernel.decls
  stmts_after kernel.decls kernel.body at_start

abbrev pub WellTyped : Kernel → Type 0
WellTyped kernel = (scope : Scope) × (kernel_after kernel ≡ Ok scope)

abbrev pub HasFirstTypeFault : Kernel → TypeFault → Type 0
HasFirstTypeFault kernel fault = kernel_after kernel ≡ Err fault

-- what a typed kernel keeps: its FORCE variables and the number of its contributions beside it
pub record IsTyped (kernel : Kernel) (forces : List ForceVar) (slots : ℕ) : Type 0 where
  pub parsed : IsParsed kernel
  pub typed : WellTyped kernel
  pub forces_are : forces ≡ forces_of kernel.decls
  pub slots_are : slots ≡ slots_in kernel.body
