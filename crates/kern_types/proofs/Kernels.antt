-- A kernel's answer by its declarations and its statements.
use Rattle.std.proofs.Common.{◌≡◌, ◌⊎◌, inl, inr, refl, Ok, Err, ap, ◌∙◌, sym}
use Rattle.kern_tree.specs.declared.kernel.Kernel.{Kernel}
use Rattle.kern_types.specs.declared.fault.TypeFault.{TypeFault}
use Rattle.kern_types.specs.Scopes.{Scope}
use Rattle.kern_types.specs.Declarations.{all_decls_check}
use Rattle.kern_types.specs.Statements.{stmts_after}
use Rattle.kern_types.specs.OneTyping.{SomeTyping, OneTyping, OneTypeFault}
use Rattle.kern_types.specs.Steps.{OrFault, ◌>>◌}
use Rattle.kern_types.specs.WellTyped.{HasFirstTypeFault, WellTyped, at_start, kernel_after}

module _ (kernel : Kernel) (decls_fit : Ok tt ≡ all_decls_check kernel.decls) where
  after_decls : kernel_after kernel ≡ stmts_after kernel.decls kernel.body at_start
  after_decls = ap (λ first. first >> stmts_after kernel.decls kernel.body at_start) (sym decls_fit)

  pub well_typed : (scope : Scope) → stmts_after kernel.decls kernel.body at_start ≡ Ok scope → WellTyped kernel
  well_typed scope e = (scope, after_decls ∙ e)

-- ---- one answer

sorted : (kernel : Kernel) (answer : OrFault Scope) → kernel_after kernel ≡ answer → WellTyped kernel ⊎ ((fault : TypeFault) × HasFirstTypeFault kernel fault)
sorted kernel (Ok scope) e = inl (scope, e)
sorted kernel (Err fault) e = inr (fault, e)

pub some_typing : SomeTyping
some_typing kernel = sorted kernel (kernel_after kernel) refl

not_ok : (scope : Scope) (fault : TypeFault) (answer : OrFault Scope) → answer ≡ Ok scope → answer ≡ Err fault → ⊥
not_ok scope fault answer e f = cc

pub not_both : OneTyping
not_both kernel fault typed faulty = not_ok typed.0 fault (kernel_after kernel) typed.1 faulty

same_fault : (a b : TypeFault) (answer : OrFault Scope) → answer ≡ Err a → answer ≡ Err b → a ≡ b
same_fault a b answer e f = cc

pub one_fault : OneTypeFault
one_fault kernel a b first second = same_fault a b (kernel_after kernel) first second
