-- The words of the program have at most one verdict, since each input has at most one meaning.
use Rattle.std.proofs.Common.{ℕ, ◌≡◌, inl, inr, ◌^◌, List, Option, Some, None, Result, Ok, Err, sym, ap, subst, ◌∙◌}
use Rattle.kern_token.specs.declared.fault.KernFault.{KernFault}
use Rattle.kern_token.specs.declared.limits.TheConstants.{MOST_TEXT}
use Rattle.kern_token.specs.declared.token.Token.{Token}
use Rattle.kern_token.specs.Reading as tokens
use Rattle.kern_tree.specs.declared.kernel.Kernel.{Kernel}
use Rattle.kern_tree.specs.FirstFault.{IsKernelOf, HasFirstFault}
use Rattle.kern_tree.specs.OneAnswer.{OneAnswer}
use Rattle.kern_types.specs.OneTyping.{OneTyping, OneTypeFault}
use Rattle.kern_types.specs.WellTyped.{WellTyped, HasFirstTypeFault}
use Rattle.deck_file.specs.Laws.{NoTextHasTwoReadings}
use Rattle.deck_file.specs.Reading.{ReadsDeck}
use Rattle.particle_file.specs.Reading.{reading}
use Rattle.pf_io.specs.Store.{Files}
use Rattle.command_line.specs.declared.command.Command.{Command}
use Rattle.command_line.specs.declared.command.Command.TheVariants as commands
use Rattle.command_line.specs.Words.{command_of}
use Rattle.bench_input.specs.Kernel.{IsBenchKernel}
use Rattle.bench_input.specs.Setup.{bench_setup}
use Rattle.command_frame.specs.Verdict.{AtMostOne}
use Rattle.command_frame.proofs.VerdictLaws.{one_after, one_within, one_refusing}
use Rattle.top_call.specs.declared.status.Refusal.{Refusal}
use Rattle.top_call.specs.declared.status.Refusal.TheVariants as refusals
use Rattle.top_call.specs.Bench.{bench_verdict}
use Rattle.top_call.specs.Inputs.{DeckMeans, KernelMeans, ParticlesMean, DeckFileMeans, KernelFileMeans, ParticleFileMeans}
use Rattle.top_call.specs.Run.{setup_of, run_verdict, WithKernel, WithDeck, RunMeans}
use Rattle.top_call.specs.Words.{CommandMeans, WordsMean}

-- a text has at most one reading as tokens
abbrev pub OneTokens : Type 0
OneTokens = (text : List ℕ) (a b : Result (List Token) KernFault) → tokens.Reads text a → tokens.Reads text b → a ≡ b

pub record InputsAreOne : Type 0 where
  pub tokens : OneTokens
  pub trees : OneAnswer
  pub types : OneTyping
  pub type_faults : OneTypeFault
  pub decks : NoTextHasTwoReadings
  pub bench_kernels : (a b : Kernel) → IsBenchKernel a → IsBenchKernel b → a ≡ b

module _ (one : InputsAreOne) (text : List ℕ) where
  same_tokens : (s t : List Token) → tokens.Spells text s → tokens.Spells text t → s ≡ t
  same_tokens s t p q = let e = one.tokens text (Ok s) (Ok t) p q in cc

  no_tokens : (t : List Token) (fault : KernFault) → tokens.Spells text t → tokens.HasFirstTokenFault text fault → ⊥
  no_tokens t fault p q = let e = one.tokens text (Ok t) (Err fault) p q in cc

  same_kernel : (s t : List Token) (k l : Kernel) → tokens.Spells text s → tokens.Spells text t → IsKernelOf s k → IsKernelOf t l → k ≡ l
  same_kernel s t k l p q m n =
      let e = one.trees s (Ok k) (Ok l) m (subst (λ (u : List Token). IsKernelOf u l) (sym (same_tokens s t p q)) n) in cc

  no_kernel : (s t : List Token) (k : Kernel) (fault : KernFault) → tokens.Spells text s → tokens.Spells text t → IsKernelOf s k → HasFirstFault t fault → ⊥
  no_kernel s t k fault p q m n =
      let e = one.trees s (Ok k) (Err fault) m (subst (λ (u : List Token). HasFirstFault u fault) (sym (same_tokens s t p q)) n) in cc

  same_fault : (s t : List Token) (f g : KernFault) → tokens.Spells text s → tokens.Spells text t → HasFirstFault s f → HasFirstFault t g → f ≡ g
  same_fault s t f g p q m n =
      let e = one.trees s (Err f) (Err g) m (subst (λ (u : List Token). HasFirstFault u g) (sym (same_tokens s t p q)) n) in cc

  typed_or_not : (k : Kernel) (r : Refusal) → KernelMeans text (Ok k) → KernelMeans text (Err r) → ⊥
  typed_or_not k r p q = elim q [
    | inl a ↦ no_tokens p.0 a.0 p.1 a.1
    | inr q ↦ elim q [
      | inl b ↦ no_kernel p.0 b.0 k b.1 p.1 b.2 p.2 b.3
      | inr c ↦ one.types c.1 c.2 (subst WellTyped (same_kernel p.0 c.0 k c.1 p.1 c.3 p.2 c.4) p.3) c.5
    ]
  ]

  one_kernel : AtMostOne (KernelMeans text)
  one_kernel (Ok k) (Ok l) p q = ap Ok (same_kernel p.0 q.0 k l p.1 q.1 p.2 q.2)
  one_kernel (Ok k) (Err r) p q = absurd (typed_or_not k r p q)
  one_kernel (Err r) (Ok k) p q = absurd (typed_or_not k r q p)
  one_kernel (Err r) (Err s) p q = ap Err (elim p [
    | inl a ↦ elim q [
      | inl d ↦ let e = one.tokens text (Err a.0) (Err d.0) a.1 d.1 in let same : a.0 ≡ d.0 = cc in a.2 ∙ ap refusals.Kernel same ∙ sym d.2
      | inr q ↦ elim q [ inl d ↦ absurd (no_tokens d.0 a.0 d.2 a.1) | inr d ↦ absurd (no_tokens d.0 a.0 d.3 a.1) ]
    ]
    | inr p ↦ elim p [
      | inl b ↦ elim q [
        | inl d ↦ absurd (no_tokens b.0 d.0 b.2 d.1)
        | inr q ↦ elim q [
          | inl d ↦ b.4 ∙ ap refusals.Kernel (same_fault b.0 d.0 b.1 d.1 b.2 d.2 b.3 d.3) ∙ sym d.4
          | inr d ↦ absurd (no_kernel d.0 b.0 d.1 b.1 d.3 b.2 d.4 b.3)
        ]
      ]
      | inr c ↦ elim q [
        | inl d ↦ absurd (no_tokens c.0 d.0 c.3 d.1)
        | inr q ↦ elim q [
          | inl d ↦ absurd (no_kernel c.0 d.0 c.1 d.1 c.3 d.2 c.4 d.3)
          | inr d ↦
              let same = same_kernel c.0 d.0 c.1 d.1 c.3 d.3 c.4 d.4 in
              c.6 ∙ ap refusals.Types (one.type_faults d.1 c.2 d.2 (subst (λ (k : Kernel). HasFirstTypeFault k c.2) same c.5) d.5) ∙ sym d.6
        ]
      ]
    ]
  ])

module _ (one : InputsAreOne) (files : Files) where
  one_run : (name : List ℕ) → AtMostOne (RunMeans name files)
  one_run name = one_after DeckFileMeans files name (λ deck. WithDeck deck files)
      (one_within MOST_TEXT refusals.DeckTooLarge DeckMeans (one_refusing refusals.Deck ReadsDeck one.decks))
      (λ deck. one_after KernelFileMeans files deck.kernel (λ kernel. WithKernel deck kernel files)
      (one_within MOST_TEXT refusals.KernelTooLarge KernelMeans (one_kernel one))
      (λ kernel. one_after ParticleFileMeans files deck.particles (λ particles last. last ≡ run_verdict deck.out (setup_of deck kernel particles))
      (one_within (2 ^ 24) refusals.ParticlesTooLarge ParticlesMean
      (one_refusing refusals.Particles (λ bytes read. reading bytes ≡ read) (λ bytes a b p q. sym p ∙ q)))
      (λ particles a b p q. p ∙ sym q)))

  one_command : (command : Option (Command (List ℕ))) → AtMostOne (CommandMeans command files)
  one_command None = λ a b p q. p ∙ sym q
  one_command (Some (commands.Run name workers)) = one_run name
  one_command (Some (commands.Bench count seed workers)) =
      λ a b p q. p.2 ∙ ap (λ (kernel : Kernel). bench_verdict count seed (bench_setup count seed kernel)) (one.bench_kernels p.0 q.0 p.1 q.1) ∙ sym q.2

pub one_verdict : InputsAreOne → (words : List (List ℕ)) (files : Files) → AtMostOne (WordsMean words files)
one_verdict one words files = one_command one files (command_of words)
