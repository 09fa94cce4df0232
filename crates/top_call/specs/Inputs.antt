-- What the texts of a run's inputs mean: a value, or why they are refused.
use Rattle.std.specs.Prelude.{ℕ, ◌≡◌, ◌⊎◌, ◌^◌, List, Result, Ok, Err}
use Rattle.kern_token.specs.declared.fault.KernFault.{KernFault}
use Rattle.kern_token.specs.declared.limits.TheConstants.{MOST_TEXT}
use Rattle.kern_token.specs.declared.token.Token.{Token}
use Rattle.kern_token.specs.Reading.{Spells, HasFirstTokenFault}
use Rattle.kern_tree.specs.declared.kernel.Kernel.{Kernel}
use Rattle.kern_tree.specs.FirstFault.{IsKernelOf, HasFirstFault}
use Rattle.kern_types.specs.declared.fault.TypeFault.{TypeFault}
use Rattle.kern_types.specs.WellTyped.{WellTyped, HasFirstTypeFault}
use Rattle.deck_file.specs.declared.deck.Deck.{Deck}
use Rattle.deck_file.specs.Reading.{ReadsDeck}
use Rattle.particle_file.specs.Reading.{reading}
use Rattle.pf_model.specs.Particle.{Particle}
use Rattle.command_frame.specs.Verdict.{Refusing, Within}
use Rattle.top_call.specs.declared.status.Refusal.{Refusal}
use Rattle.top_call.specs.declared.status.Refusal.TheVariants as refusals

-- a deck's text: the deck that it spells, or its first fault
abbrev pub DeckMeans : List ℕ → Result Deck Refusal → Type 0
DeckMeans text answer = Refusing refusals.Deck ReadsDeck text answer

-- a kernel's text: the tree that its tokens spell, well typed, or the first fault of its tokens, its tree or its types
abbrev pub KernelMeans : List ℕ → Result Kernel Refusal → Type 0
KernelMeans text (Ok kernel) = (tokens : List Token) × Spells text tokens × IsKernelOf tokens kernel × WellTyped kernel
KernelMeans text (Err refusal) =
    ((fault : KernFault) × HasFirstTokenFault text fault × (refusal ≡ refusals.Kernel fault))
    ⊎ ((tokens : List Token) × (fault : KernFault)
    × Spells text tokens × HasFirstFault tokens fault × (refusal ≡ refusals.Kernel fault))
    ⊎ ((tokens : List Token) × (kernel : Kernel) × (fault : TypeFault)
    × Spells text tokens × IsKernelOf tokens kernel × HasFirstTypeFault kernel fault × (refusal ≡ refusals.Types fault))

-- a particle file's text: the particles that it spells, or its first fault
abbrev pub ParticlesMean : List ℕ → Result (List Particle) Refusal → Type 0
ParticlesMean text answer = Refusing refusals.Particles (λ bytes read. reading bytes ≡ read) text answer

-- the same of files, which may be too large

abbrev pub DeckFileMeans : List ℕ → Result Deck Refusal → Type 0
DeckFileMeans text answer = Within MOST_TEXT refusals.DeckTooLarge DeckMeans text answer

abbrev pub KernelFileMeans : List ℕ → Result Kernel Refusal → Type 0
KernelFileMeans text answer = Within MOST_TEXT refusals.KernelTooLarge KernelMeans text answer

abbrev pub ParticleFileMeans : List ℕ → Result (List Particle) Refusal → Type 0
ParticleFileMeans text answer = Within (2 ^ 24) refusals.ParticlesTooLarge ParticlesMean text answer
