-- The words of the program have a verdict on any contents, since each input has a meaning.
use Rattle.std.proofs.Common.{ℕ, ◌≡◌, inl, inr, ◌⊎◌, ◌^◌, List, Option, Some, None, Result, Ok, Err, refl}
use Rattle.kern_token.specs.declared.fault.KernFault.{KernFault}
use Rattle.kern_token.specs.declared.limits.TheConstants.{MOST_TEXT}
use Rattle.kern_token.specs.declared.token.Token.{Token}
use Rattle.kern_token.specs.Reading as tokens
use Rattle.kern_tree.specs.declared.kernel.Kernel.{Kernel}
use Rattle.kern_tree.specs.FirstFault.{IsKernelOf, Parses}
use Rattle.kern_parse.specs.ReadingStops.{SomeAnswer}
use Rattle.kern_types.specs.declared.fault.TypeFault.{TypeFault}
use Rattle.kern_types.specs.OneTyping.{SomeTyping}
use Rattle.kern_types.specs.WellTyped.{WellTyped, HasFirstTypeFault}
use Rattle.deck_file.specs.Laws.{EveryTextHasAReading}
use Rattle.deck_file.specs.Reading.{ReadsDeck}
use Rattle.particle_file.specs.Reading.{reading}
use Rattle.pf_io.specs.Store.{Files}
use Rattle.command_line.specs.declared.command.Command.{Command}
use Rattle.command_line.specs.declared.command.Command.TheVariants as commands
use Rattle.command_line.specs.Words.{command_of}
use Rattle.bench_input.specs.Kernel.{IsBenchKernel}
use Rattle.bench_input.specs.Setup.{bench_setup}
use Rattle.command_frame.specs.Verdict.{AtLeastOne, stops}
use Rattle.command_frame.specs.declared.status.Status.TheVariants.{Usage}
use Rattle.command_frame.proofs.VerdictLaws.{some_after, some_within, some_refusing}
use Rattle.top_call.specs.declared.status.Refusal.TheVariants as refusals
use Rattle.top_call.specs.Bench.{bench_verdict}
use Rattle.top_call.specs.Inputs.{DeckMeans, KernelMeans, ParticlesMean, DeckFileMeans, KernelFileMeans, ParticleFileMeans}
use Rattle.top_call.specs.Run.{setup_of, run_verdict, WithKernel, WithDeck, RunMeans}
use Rattle.top_call.specs.Words.{CommandMeans, WordsMean}

-- a text has a reading as tokens
abbrev pub SomeTokens : Type 0
SomeTokens = (text : List ℕ) → AtLeastOne (tokens.Reads text)

pub record InputsAreSome : Type 0 where
  pub tokens : SomeTokens
  pub trees : SomeAnswer
  pub types : SomeTyping
  pub decks : EveryTextHasAReading
  pub bench_kernel : (kernel : Kernel) × IsBenchKernel kernel

module _ (some : InputsAreSome) (text : List ℕ) where
  typed : (t : List Token) (k : Kernel) → tokens.Spells text t → IsKernelOf t k → AtLeastOne (KernelMeans text)
  typed t k p m = elim (some.types k) [
    | inl well ↦ (Ok k, (t, p, m, well))
    | inr fault ↦ (Err (refusals.Types fault.0), inr (inr (t, k, fault.0, p, m, fault.1, refl)))
  ]

  parsed : (t : List Token) (answer : Result Kernel KernFault) → tokens.Spells text t → Parses t answer → AtLeastOne (KernelMeans text)
  parsed t (Ok k) p m = typed t k p m
  parsed t (Err fault) p m = (Err (refusals.Kernel fault), inr (inl (t, fault, p, m, refl)))

  of_tokens : (answer : Result (List Token) KernFault) → tokens.Reads text answer → AtLeastOne (KernelMeans text)
  of_tokens (Ok t) p = let answer = some.trees text t p in parsed t answer.0 p answer.1
  of_tokens (Err fault) p = (Err (refusals.Kernel fault), inl (fault, p, refl))

  some_kernel : AtLeastOne (KernelMeans text)
  some_kernel = let read = some.tokens text in of_tokens read.0 read.1

module _ (some : InputsAreSome) (files : Files) where
  some_run : (name : List ℕ) → AtLeastOne (RunMeans name files)
  some_run name = some_after DeckFileMeans files name (λ deck. WithDeck deck files)
      (some_within MOST_TEXT refusals.DeckTooLarge DeckMeans (some_refusing refusals.Deck ReadsDeck some.decks))
      (λ deck. some_after KernelFileMeans files deck.kernel (λ kernel. WithKernel deck kernel files)
      (some_within MOST_TEXT refusals.KernelTooLarge KernelMeans (some_kernel some))
      (λ kernel. some_after ParticleFileMeans files deck.particles (λ particles last. last ≡ run_verdict deck.out (setup_of deck kernel particles))
      (some_within (2 ^ 24) refusals.ParticlesTooLarge ParticlesMean
      (some_refusing refusals.Particles (λ bytes read. reading bytes ≡ read) (λ bytes. (reading bytes, refl))))
      (λ particles. (run_verdict deck.out (setup_of deck kernel particles), refl))))

  some_command : (command : Option (Command (List ℕ))) → AtLeastOne (CommandMeans command files)
  some_command None = (stops Usage, refl)
  some_command (Some (commands.Run name workers)) = some_run name
  some_command (Some (commands.Bench count seed workers)) =
      (bench_verdict count seed (bench_setup count seed some.bench_kernel.0), (some.bench_kernel.0, some.bench_kernel.1, refl))

pub some_verdict : InputsAreSome → (words : List (List ℕ)) (files : Files) → AtLeastOne (WordsMean words files)
some_verdict some words files = some_command some files (command_of words)
