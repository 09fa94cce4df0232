-- The ways in which a command ends, and what each says of its verdict and of its files.
use Rattle.std.proofs.Common.{ℕ, ◌≡◌, ◌≢◌, ◌⊎◌, inl, inr, List, [], Option, Some, IsSomeAnd, refl, sym, ap, subst, ◌∙◌}
use Rattle.std.proofs.lemmas.List.{append-nil}
use Rattle.pf_io.specs.Store.{Files}
use Rattle.command_frame.specs.Clauses.{IsUnlessStopped, KeepsContents, WritesNothing, IsNoOutput, IsAccepted, IsOutputDue, HasOutput, HasOutputFront}
use Rattle.command_frame.specs.Effects.{LeavesFiles, IsStopped, HasWritten, IsToWrite, HasBegun, IsToSpeak}
use Rattle.command_frame.specs.Standing.{IsFrontOf}
use Rattle.command_frame.specs.Status.{IsRefusal, IsLast}
use Rattle.command_frame.specs.Verdict.{Verdict, stops, writes, AtMostOne}
use Rattle.command_frame.specs.declared.status.Status.{Status}
use Rattle.command_frame.specs.declared.status.Status.TheVariants.{Done, Usage, Refused, Numeric, Lists, StoreFault, Memory}
use Rattle.command_frame.specs.declared.status.StoreCall.TheVariants.{Open, Read, Create, Write, Say}

-- want of memory, or a fault of opening or reading
abbrev IsUnread : {R F : Type 0} → Status R F → Type 0
IsUnread status = (status ≡ Memory) ⊎ (status ≡ StoreFault Open) ⊎ (status ≡ StoreFault Read)

-- a status that a verdict names
abbrev IsNamed : {R F : Type 0} → Status R F → Type 0
IsNamed status = IsRefusal status ⊎ ((status ≢ Done) × IsLast status)

pub data Way {R F : Type 0} (M : Verdict R F → Type 0) (status : Status R F) (old new : Files) : Type 0 where
  stopped : IsNamed status → IsStopped M status old new → Way M status old new
  wrote : IsLast status → HasWritten M status old new → Way M status old new
  spoke : status ≡ Done → IsToSpeak M → new ≡ old → Way M status old new
  unread : IsUnread status → new ≡ old → Way M status old new
  uncreated : status ≡ StoreFault Create → IsToWrite M → new ≡ old → Way M status old new
  broken : (status ≡ StoreFault Write) ⊎ (status ≡ Memory) → HasBegun M old new → Way M status old new
  unsaid : status ≡ StoreFault Say → IsToSpeak M → new ≡ old → Way M status old new

pub way : {R F : Type 0} (M : Verdict R F → Type 0) (status : Status R F) (old new : Files) → LeavesFiles M status old new → Way M status old new
way M Done old new h = elim h [ inl w ↦ wrote tt w | inr s ↦ spoke refl s.0 s.1 ]
way M Usage old new h = stopped (inl tt) h
way M (Refused refusal) old new h = stopped (inl tt) h
way M (Numeric step fault) old new h = elim h [ inl w ↦ wrote tt w | inr s ↦ stopped (inr (λ e. cc, tt)) s ]
way M (Lists step count) old new h = elim h [ inl w ↦ wrote tt w | inr s ↦ stopped (inr (λ e. cc, tt)) s ]
way M (StoreFault Open) old new h = unread (inr (inl refl)) h
way M (StoreFault Read) old new h = unread (inr (inr refl)) h
way M (StoreFault Create) old new h = uncreated refl h.0 h.1
way M (StoreFault Write) old new h = broken (inl refl) h
way M (StoreFault Say) old new h = unsaid refl h.0 h.1
way M Memory old new h = elim h [ inl e ↦ unread (inl refl) e | inr b ↦ broken (inr refl) b ]

-- no status is both a refusal and a last one
refusal_or_last : {R F : Type 0} (status : Status R F) → IsRefusal status → IsLast status → ⊥
refusal_or_last Done r l = r
refusal_or_last Usage r l = l
refusal_or_last (Refused refusal) r l = l
refusal_or_last (Numeric step fault) r l = r
refusal_or_last (Lists step count) r l = r
refusal_or_last (StoreFault call) r l = r
refusal_or_last Memory r l = r

last_keeps_not : {R F : Type 0} (status : Status R F) → IsLast status → KeepsContents status → ⊥
last_keeps_not Done l k = k
last_keeps_not Usage l k = l
last_keeps_not (Refused refusal) l k = l
last_keeps_not (Numeric step fault) l k = k
last_keeps_not (Lists step count) l k = k
last_keeps_not (StoreFault call) l k = l
last_keeps_not Memory l k = l

at : {R F : Type 0} {status : Status R F} (P : Status R F → Type 0) (s : Status R F) → status ≡ s → P status → P s
at P s e p = subst P e p

not_unread : {R F : Type 0} {status : Status R F} (P : Status R F → Type 0) → (P Memory → ⊥) → (P (StoreFault Open) → ⊥) → (P (StoreFault Read) → ⊥) → IsUnread status → P status → ⊥
not_unread P m o r e p = elim e [
  | inl e ↦ m (at P Memory e p)
  | inr e ↦ elim e [ inl e ↦ o (at P (StoreFault Open) e p) | inr e ↦ r (at P (StoreFault Read) e p) ]
]

not_broken : {R F : Type 0} {status : Status R F} (P : Status R F → Type 0) → (P (StoreFault Write) → ⊥) → (P Memory → ⊥) → (status ≡ StoreFault Write) ⊎ (status ≡ Memory) → P status → ⊥
not_broken P w m e p = elim e [ inl e ↦ w (at P (StoreFault Write) e p) | inr e ↦ m (at P Memory e p) ]

module _ {R F : Type 0} (M : Verdict R F → Type 0) (status : Status R F) (old new : Files) where
  pub stops_of : IsRefusal status → Way M status old new → M (stops status)
  stops_of r (stopped named s) = s.meant
  stops_of r (wrote last w) = absurd (refusal_or_last status r last)
  stops_of r (spoke e s k) = absurd (at IsRefusal Done e r)
  stops_of r (unread e k) = absurd (not_unread IsRefusal (λ x. x) (λ x. x) (λ x. x) e r)
  stops_of r (uncreated e t k) = absurd (at IsRefusal (StoreFault Create) e r)
  stops_of r (broken e b) = absurd (not_broken IsRefusal (λ x. x) (λ x. x) e r)
  stops_of r (unsaid e s k) = absurd (at IsRefusal (StoreFault Say) e r)

  pub kept_of : KeepsContents status → Way M status old new → new ≡ old
  kept_of r (stopped named s) = s.kept
  kept_of r (wrote last w) = absurd (last_keeps_not status last r)
  kept_of r (spoke e s k) = k
  kept_of r (unread e k) = k
  kept_of r (uncreated e t k) = k
  kept_of r (broken e b) = absurd (not_broken KeepsContents (λ x. x) (λ x. x) e r)
  kept_of r (unsaid e s k) = k

  pub accepted_of : IsLast status → Way M status old new → IsAccepted M status
  accepted_of l (stopped named s) = inr (inl s.meant)
  accepted_of l (wrote last w) = inl (w.out, w.text, w.meant)
  accepted_of l (spoke e s k) = inr (inr (e, s.text, s.meant))
  accepted_of l (unread e k) = absurd (not_unread IsLast (λ x. x) (λ x. x) (λ x. x) e l)
  accepted_of l (uncreated e t k) = absurd (at IsLast (StoreFault Create) e l)
  accepted_of l (broken e b) = absurd (not_broken IsLast (λ x. x) (λ x. x) e l)
  accepted_of l (unsaid e s k) = absurd (at IsLast (StoreFault Say) e l)

  pub nothing_written_of : WritesNothing M → Way M status old new → new ≡ old
  nothing_written_of none (stopped named s) = s.kept
  nothing_written_of none (wrote last w) = absurd (none w.out w.text status w.meant)
  nothing_written_of none (spoke e s k) = k
  nothing_written_of none (unread e k) = k
  nothing_written_of none (uncreated e t k) = k
  nothing_written_of none (broken e b) = absurd (none b.verdict.out b.verdict.text b.verdict.last b.verdict.meant)
  nothing_written_of none (unsaid e s k) = k

  pub other_kept_of : (name : List ℕ) → IsNoOutput M name → Way M status old new → new name ≡ old name
  other_kept_of name none (stopped named s) = ap (λ (files : Files). files name) s.kept
  other_kept_of name none (wrote last w) = w.written.others name (none w.out w.text status w.meant)
  other_kept_of name none (spoke e s k) = ap (λ (files : Files). files name) k
  other_kept_of name none (unread e k) = ap (λ (files : Files). files name) k
  other_kept_of name none (uncreated e t k) = ap (λ (files : Files). files name) k
  other_kept_of name none (broken e b) = b.written.others name (none b.verdict.out b.verdict.text b.verdict.last b.verdict.meant)
  other_kept_of name none (unsaid e s k) = ap (λ (files : Files). files name) k

  pub due_of : (status ≡ StoreFault Create) ⊎ (status ≡ StoreFault Write) → Way M status old new → IsOutputDue M
  due_of c (stopped named s) = absurd (not_due c named) where
    not_due : (status ≡ StoreFault Create) ⊎ (status ≡ StoreFault Write) → IsNamed status → ⊥
    not_due c named = elim c [ inl e ↦ elim (at IsNamed (StoreFault Create) e named) [ inl r ↦ r | inr l ↦ l.1 ] | inr e ↦ elim (at IsNamed (StoreFault Write) e named) [ inl r ↦ r | inr l ↦ l.1 ] ]
  due_of c (wrote last w) = (w.out, w.text, status, w.meant)
  due_of c (spoke e s k) = elim c [ inl d ↦ cc | inr d ↦ cc ]
  due_of c (unread e k) = elim c [
    | inl d ↦ elim e [ inl f ↦ cc | inr f ↦ elim f [ inl g ↦ cc | inr g ↦ cc ] ]
    | inr d ↦ elim e [ inl f ↦ cc | inr f ↦ elim f [ inl g ↦ cc | inr g ↦ cc ] ]
  ]
  due_of c (uncreated e t k) = (t.out, t.text, t.last, t.meant)
  due_of c (broken e b) = (b.verdict.out, b.verdict.text, b.verdict.last, b.verdict.meant)
  due_of c (unsaid e s k) = elim c [ inl d ↦ cc | inr d ↦ cc ]

  module _ (one : AtMostOne M) where
    pub unless_of : (other : Status R F) → M (stops other) → Way M status old new → IsUnlessStopped status other
    unless_of other m (stopped named s) = let e = one _ _ s.meant m in inl cc
    unless_of other m (wrote last w) = let e = one _ _ w.meant m in cc
    unless_of other m (spoke d s k) = let e = one _ _ s.meant m in cc
    unless_of other m (unread e k) = inr e
    unless_of other m (uncreated d t k) = let e = one _ _ t.meant m in cc
    unless_of other m (broken d b) = let e = one _ _ b.verdict.meant m in cc
    unless_of other m (unsaid d s k) = let e = one _ _ s.meant m in cc

    -- of a text that is written under the name of the verdict
    same_name : (out text : List ℕ) (last : Status R F) (out' text' : List ℕ) (last' : Status R F) → M (writes out text last) → M (writes out' text' last') → (out ≡ out') × (text ≡ text') × (last ≡ last')
    same_name out text last out' text' last' m n = let e = one _ _ m n in (cc, cc, cc)

    pub output_of : IsLast status → Way M status old new → HasOutput M status new
    output_of l (stopped named s) = λ out text last m. let e = one _ _ s.meant m in cc
    output_of l (wrote is w) = λ out text last m.
        let e = same_name w.out w.text status out text last w.meant m in
        (sym e.2, ap new (sym e.0) ∙ w.written.there ∙ ap Some e.1)
    output_of l (spoke d s k) = λ out text last m. let e = one _ _ s.meant m in cc
    output_of l (unread e k) = absurd (not_unread IsLast (λ x. x) (λ x. x) (λ x. x) e l)
    output_of l (uncreated e t k) = absurd (at IsLast (StoreFault Create) e l)
    output_of l (broken e b) = absurd (not_broken IsLast (λ x. x) (λ x. x) e l)
    output_of l (unsaid e s k) = absurd (at IsLast (StoreFault Say) e l)

    front_of : HasBegun M old new → HasOutputFront M new
    front_of b = λ out text last m.
        let e = same_name b.verdict.out b.verdict.text b.verdict.last out text last b.verdict.meant m in
        subst (λ (found : Option (List ℕ)). IsSomeAnd found (λ front. IsFrontOf front text)) (sym (ap new (sym e.0) ∙ b.written.there)) (b.rest, sym e.1 ∙ b.split)

    pub write_fault_of : status ≡ StoreFault Write → Way M status old new → HasOutputFront M new
    write_fault_of w (stopped named s) = λ out text last m. let e = one _ _ s.meant m in cc
    write_fault_of w (wrote last h) = absurd (at IsLast (StoreFault Write) w last)
    write_fault_of w (spoke d s k) = cc
    write_fault_of w (unread e k) = elim e [ inl f ↦ cc | inr f ↦ elim f [ inl g ↦ cc | inr g ↦ cc ] ]
    write_fault_of w (uncreated d t k) = cc
    write_fault_of w (broken d b) = front_of b
    write_fault_of w (unsaid d s k) = cc

    pub memory_of : status ≡ Memory → Way M status old new → (new ≡ old) ⊎ (IsOutputDue M × HasOutputFront M new)
    memory_of m (stopped named s) = inl s.kept
    memory_of m (wrote last h) = absurd (at IsLast Memory m last)
    memory_of m (spoke d s k) = inl k
    memory_of m (unread e k) = inl k
    memory_of m (uncreated d t k) = inl k
    memory_of m (broken d b) = inr ((b.verdict.out, b.verdict.text, b.verdict.last, b.verdict.meant), front_of b)
    memory_of m (unsaid d s k) = inl k

  -- where no memory is left to say the status, the command ends as by want of memory
  pub as_memory : status ≢ Done → Way M status old new → Way M Memory old new
  as_memory ne (stopped named s) = unread (inl refl) s.kept
  as_memory ne (wrote last w) = broken (inr refl) (record {
    verdict = record { out = w.out; text = w.text; last = status; meant = w.meant };
    front = w.text;
    rest = [];
    split = sym (append-nil w.text);
    written = w.written;
  })
  as_memory ne (spoke e s k) = absurd (ne e)
  as_memory ne (unread e k) = unread (inl refl) k
  as_memory ne (uncreated e t k) = unread (inl refl) k
  as_memory ne (broken e b) = broken (inr refl) b
  as_memory ne (unsaid e s k) = unread (inl refl) k
