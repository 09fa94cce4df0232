-- The status of a reader's fault: a refusal, but for want of memory, which is the command's.
use Rattle.std.specs.Prelude.{◌≢◌}
use Rattle.kern_token.specs.declared.fault.KernFault.{KernFault}
use Rattle.kern_token.specs.declared.fault.KernFault.TheVariants as kernel_faults
use Rattle.kern_types.specs.declared.fault.TypeFault.{TypeFault}
use Rattle.kern_types.specs.declared.fault.TypeFault.TheVariants as type_faults
use Rattle.deck_file.specs.declared.fault.DeckFault.{DeckFault}
use Rattle.deck_file.specs.declared.fault.DeckFault.TheVariants as deck_faults
use Rattle.particle_file.specs.declared.fault.PartFault.{PartFault}
use Rattle.particle_file.specs.declared.fault.PartFault.TheVariants as particle_faults
use Rattle.command_frame.specs.declared.status.Status.{Status}
use Rattle.command_frame.specs.declared.status.Status.TheVariants.{Refused, Memory}
use Rattle.top_call.specs.declared.status.Refusal.{Refusal}
use Rattle.top_call.specs.declared.status.Refusal.TheVariants as refusals

-- a refusal names a fault of its input
abbrev pub IsNoMemory : Refusal → Type 0
IsNoMemory refusals.DeckTooLarge = Unit {0}
IsNoMemory (refusals.Deck fault) = fault ≢ deck_faults.Memory
IsNoMemory refusals.KernelTooLarge = Unit {0}
IsNoMemory (refusals.Kernel fault) = fault ≢ kernel_faults.Memory
IsNoMemory (refusals.Types fault) = fault ≢ type_faults.Memory
IsNoMemory refusals.ParticlesTooLarge = Unit {0}
IsNoMemory (refusals.Particles fault) = fault ≢ particle_faults.Memory

abbrev pub deck_refused : {F : Type 0} → DeckFault → Status Refusal F
deck_refused deck_faults.Memory = Memory
deck_refused (deck_faults.UnknownKey line) = Refused (refusals.Deck (deck_faults.UnknownKey line))
deck_refused (deck_faults.Twice line) = Refused (refusals.Deck (deck_faults.Twice line))
deck_refused (deck_faults.Value line) = Refused (refusals.Deck (deck_faults.Value line))
deck_refused (deck_faults.Missing key) = Refused (refusals.Deck (deck_faults.Missing key))
deck_refused deck_faults.Reuse = Refused (refusals.Deck deck_faults.Reuse)

abbrev pub kernel_refused : {F : Type 0} → KernFault → Status Refusal F
kernel_refused kernel_faults.Memory = Memory
kernel_refused (kernel_faults.BadByte place) = Refused (refusals.Kernel (kernel_faults.BadByte place))
kernel_refused (kernel_faults.NumberTooLarge place) = Refused (refusals.Kernel (kernel_faults.NumberTooLarge place))
kernel_refused (kernel_faults.Unexpected place) = Refused (refusals.Kernel (kernel_faults.Unexpected place))
kernel_refused (kernel_faults.TooDeep place) = Refused (refusals.Kernel (kernel_faults.TooDeep place))
kernel_refused (kernel_faults.TooManyNodes place) = Refused (refusals.Kernel (kernel_faults.TooManyNodes place))

abbrev pub types_refused : {F : Type 0} → TypeFault → Status Refusal F
types_refused type_faults.Memory = Memory
types_refused (type_faults.Unknown place) = Refused (refusals.Types (type_faults.Unknown place))
types_refused (type_faults.Twice place) = Refused (refusals.Types (type_faults.Twice place))
types_refused (type_faults.Kind place) = Refused (refusals.Types (type_faults.Kind place))
types_refused (type_faults.Scale place) = Refused (refusals.Types (type_faults.Scale place))
types_refused (type_faults.Unassigned place) = Refused (refusals.Types (type_faults.Unassigned place))
types_refused (type_faults.NoAcc place) = Refused (refusals.Types (type_faults.NoAcc place))

abbrev pub particles_refused : {F : Type 0} → PartFault → Status Refusal F
particles_refused particle_faults.Memory = Memory
particles_refused particle_faults.Header = Refused (refusals.Particles particle_faults.Header)
particles_refused particle_faults.Count = Refused (refusals.Particles particle_faults.Count)
particles_refused particle_faults.TooMany = Refused (refusals.Particles particle_faults.TooMany)
particles_refused (particle_faults.Field line column) = Refused (refusals.Particles (particle_faults.Field line column))
particles_refused (particle_faults.Range line column) = Refused (refusals.Particles (particle_faults.Range line column))
particles_refused (particle_faults.Short line) = Refused (refusals.Particles (particle_faults.Short line))
particles_refused (particle_faults.Trailing line) = Refused (refusals.Particles (particle_faults.Trailing line))
particles_refused (particle_faults.DuplicateId line) = Refused (refusals.Particles (particle_faults.DuplicateId line))
