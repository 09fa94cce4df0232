-- The reading of a kernel that is refused by its types.
use Rattle.std.proofs.Common.{ℕ, ◌≡◌, ◌⊎◌, inl, inr, List, Err, refl, sym, subst}
use Rattle.kern_token.specs.declared.token.Token.{Token}
use Rattle.kern_token.specs.Reading.{Spells}
use Rattle.kern_tree.specs.declared.kernel.Kernel.{Kernel}
use Rattle.kern_tree.specs.FirstFault.{IsKernelOf}
use Rattle.kern_types.specs.declared.fault.TypeFault.{TypeFault}
use Rattle.kern_types.specs.declared.fault.TypeFault.TheVariants.{Unknown, Twice, Kind, Scale, Unassigned, NoAcc, Memory}
use Rattle.kern_types.specs.WellTyped.{HasFirstTypeFault}
use Rattle.command_frame.specs.Reading.{Interprets}
use Rattle.command_frame.specs.declared.status.Status.{Status}
use Rattle.top_call.specs.Inputs.{KernelMeans}
use Rattle.top_call.specs.Refusals.{types_refused}
use Rattle.top_call.specs.declared.status.Refusal.{Refusal}

-- the first fault of a kernel's types, if it isn't want of memory
typed_badly : (F : Type 0) (text : List ℕ) (tokens : List Token) (kernel : Kernel) → Spells text tokens → IsKernelOf tokens kernel → (fault : TypeFault)
    → (fault ≡ Memory) ⊎ HasFirstTypeFault kernel fault → Interprets {X = Kernel} {F = F} KernelMeans (λ k. k) text (Err (types_refused fault))
typed_badly F text tokens kernel spelled parsed (Unknown place) h = elim h [ inl e ↦ cc | inr f ↦ inr (inr (tokens, kernel, Unknown place, spelled, parsed, f, refl)) ]
typed_badly F text tokens kernel spelled parsed (Twice place) h = elim h [ inl e ↦ cc | inr f ↦ inr (inr (tokens, kernel, Twice place, spelled, parsed, f, refl)) ]
typed_badly F text tokens kernel spelled parsed (Kind place) h = elim h [ inl e ↦ cc | inr f ↦ inr (inr (tokens, kernel, Kind place, spelled, parsed, f, refl)) ]
typed_badly F text tokens kernel spelled parsed (Scale place) h = elim h [ inl e ↦ cc | inr f ↦ inr (inr (tokens, kernel, Scale place, spelled, parsed, f, refl)) ]
typed_badly F text tokens kernel spelled parsed (Unassigned place) h = elim h [ inl e ↦ cc | inr f ↦ inr (inr (tokens, kernel, Unassigned place, spelled, parsed, f, refl)) ]
typed_badly F text tokens kernel spelled parsed (NoAcc place) h = elim h [ inl e ↦ cc | inr f ↦ inr (inr (tokens, kernel, NoAcc place, spelled, parsed, f, refl)) ]
typed_badly F text tokens kernel spelled parsed Memory h = tt

pub types_refuse : {F : Type 0} (text : List ℕ) (tokens : List Token) (kernel : Kernel) → Spells text tokens → IsKernelOf tokens kernel → (fault : TypeFault) (status : Status Refusal F)
    → (fault ≡ Memory) ⊎ HasFirstTypeFault kernel fault → status ≡ types_refused fault → Interprets {X = Kernel} KernelMeans (λ k. k) text (Err status)
types_refuse {F} text tokens kernel spelled parsed fault status h is =
    subst (λ (s : Status Refusal F). Interprets {X = Kernel} KernelMeans (λ k. k) text (Err s)) (sym is) (typed_badly F text tokens kernel spelled parsed fault h)
