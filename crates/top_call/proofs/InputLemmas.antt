-- The readings of decks and of particles that are refused, and the names of files.
use Rattle.std.proofs.Common.{ℕ, zero, suc, ◌≡◌, ◌⊎◌, inl, inr, Bool, true, false, ◌&&◌, nat_le, length, List, [], ◌∷◌, Option, Some, None, Result, Ok, Err, MatchResult, IsOk, IfSome, Bor, refl, sym, subst, arith}
use Rattle.std.specs.List.{list_all}
use Rattle.std.specs.Str.{IsUtf8, IsAscii}
use Rattle.std.proofs.lemmas.Bool.{leb-true}
use Rattle.std.proofs.lemmas.Str.{IsUtf8-from_ascii}
use Rattle.deck_file.specs.declared.deck.Deck.{Deck}
use Rattle.deck_file.specs.declared.fault.DeckFault.{DeckFault}
use Rattle.deck_file.specs.declared.fault.DeckFault.TheVariants as decks
use Rattle.deck_file.specs.Reading.{HasFirstDeckFault}
use Rattle.deck_file.specs.Values.{is_name, is_visible}
use Rattle.deck_file.specs.declared.limits.TheConstants.{MOST_NAME}
use Rattle.particle_file.specs.declared.fault.PartFault.{PartFault}
use Rattle.particle_file.specs.declared.fault.PartFault.TheVariants as particles
use Rattle.particle_file.specs.Reading.{reading}
use Rattle.pf_model.specs.Particle.{Particle}
use Rattle.pf_io.specs.Store.{Told}
use Rattle.command_frame.specs.Reading.{Answers, Interprets, IsItself, ReadsInput}
use Rattle.command_frame.specs.Standing.{Standing}
use Rattle.command_frame.specs.Verdict.{Within}
use Rattle.command_frame.specs.declared.status.Status.{Status}
use Rattle.command_frame.specs.declared.status.Status.TheVariants.{Refused}
use Rattle.top_call.specs.declared.status.Refusal.{Refusal}
use Rattle.top_call.specs.Inputs.{DeckMeans, ParticlesMean}
use Rattle.top_call.specs.Refusals.{deck_refused, particles_refused}

module _ (F : Type 0) (text : List ℕ) where
  deck_badly : (fault : DeckFault) → (fault ≡ decks.Memory) ⊎ HasFirstDeckFault text fault → Interprets {X = Deck} {F = F} DeckMeans (λ d. d) text (Err (deck_refused fault))
  deck_badly (decks.UnknownKey line) h = elim h [ inl e ↦ cc | inr f ↦ (decks.UnknownKey line, f, refl) ]
  deck_badly (decks.Twice line) h = elim h [ inl e ↦ cc | inr f ↦ (decks.Twice line, f, refl) ]
  deck_badly (decks.Value line) h = elim h [ inl e ↦ cc | inr f ↦ (decks.Value line, f, refl) ]
  deck_badly (decks.Missing key) h = elim h [ inl e ↦ cc | inr f ↦ (decks.Missing key, f, refl) ]
  deck_badly decks.Reuse h = elim h [ inl e ↦ cc | inr f ↦ (decks.Reuse, f, refl) ]
  deck_badly decks.Memory h = tt

  pub deck_refuses : (fault : DeckFault) (status : Status Refusal F) → (fault ≡ decks.Memory) ⊎ HasFirstDeckFault text fault → status ≡ deck_refused fault
      → Interprets {X = Deck} DeckMeans (λ d. d) text (Err status)
  deck_refuses fault status h is = subst (λ (s : Status Refusal F). Interprets {X = Deck} DeckMeans (λ d. d) text (Err s)) (sym is) (deck_badly fault h)

  particles_badly : (fault : PartFault) → (fault ≡ particles.Memory) ⊎ (reading text ≡ Err fault) → Interprets {X = List Particle} {F = F} ParticlesMean (λ d. d) text (Err (particles_refused fault))
  particles_badly particles.Header h = elim h [ inl e ↦ cc | inr f ↦ (particles.Header, f, refl) ]
  particles_badly particles.Count h = elim h [ inl e ↦ cc | inr f ↦ (particles.Count, f, refl) ]
  particles_badly particles.TooMany h = elim h [ inl e ↦ cc | inr f ↦ (particles.TooMany, f, refl) ]
  particles_badly (particles.Field line column) h = elim h [ inl e ↦ cc | inr f ↦ (particles.Field line column, f, refl) ]
  particles_badly (particles.Range line column) h = elim h [ inl e ↦ cc | inr f ↦ (particles.Range line column, f, refl) ]
  particles_badly (particles.Short line) h = elim h [ inl e ↦ cc | inr f ↦ (particles.Short line, f, refl) ]
  particles_badly (particles.Trailing line) h = elim h [ inl e ↦ cc | inr f ↦ (particles.Trailing line, f, refl) ]
  particles_badly (particles.DuplicateId line) h = elim h [ inl e ↦ cc | inr f ↦ (particles.DuplicateId line, f, refl) ]
  particles_badly particles.Memory h = tt

  pub particles_refuse : (fault : PartFault) (status : Status Refusal F) → (fault ≡ particles.Memory) ⊎ (reading text ≡ Err fault) → status ≡ particles_refused fault
      → Interprets {X = List Particle} ParticlesMean (λ d. d) text (Err status)
  particles_refuse fault status h is = subst (λ (s : Status Refusal F). Interprets {X = List Particle} ParticlesMean (λ d. d) text (Err s)) (sym is) (particles_badly fault h)

both : (a b : Bool) → (a && b) ≡ true → (a ≡ true) × (b ≡ true)
both true true h = (refl, refl)
both true false h = cc
both false b h = cc

visible_is_ascii : (name : List ℕ) → list_all is_visible name ≡ true → IsAscii name
visible_is_ascii [] h i = omega arith
visible_is_ascii (b ∷ name) h zero =
    let first = both (is_visible b) (list_all is_visible name) h in
    let most = leb-true b 126 (both (nat_le 33 b) (nat_le b 126) first.0).1 in
    omega arith
visible_is_ascii (b ∷ name) h (suc i) = visible_is_ascii name (both (is_visible b) (list_all is_visible name) h).1 i

-- the name of a file is a text
pub name_is_text : (name : List ℕ) → is_name name ≡ true → IsUtf8 name
name_is_text name h = IsUtf8-from_ascii name (visible_is_ascii name (both (nat_le 1 (length name) && nat_le (length name) MOST_NAME) (list_all is_visible name) h).1)

pub is_text : {E : Type 0} (X : E → Type 0) (bytes : List ℕ) (r : Result (Bor (List ℕ)) E) → IsUtf8 bytes
    → MatchResult r (λ s. (s.now ≡ bytes) × IsUtf8 bytes) (λ e. (¬ IsUtf8 bytes) × X e) → IsOk r
is_text X bytes (Ok x) utf8 h = refl
is_text X bytes (Err e) utf8 h = absurd (h.0 utf8)

-- what is refused as too large is refused as this
pub as_too_large : {X F : Type 0} (limit : ℕ) (large refusal : Refusal) (view : X → List ℕ) (name : List ℕ) (old new : Standing)
    → ReadsInput {F = F} (Within limit large IsItself) view name (Err (Refused refusal)) old new → ReadsInput {F = F} (Within limit large IsItself) view name (Err (Refused large)) old new
as_too_large {X} {F} limit large refusal view name old new read = record {
  ends = tt;
  kept = read.kept;
  answers = told old.told read.answers;
  counts = read.counts;
  stays_steady = read.stays_steady;
  steady = λ is call e. cc;
} where
  Fits : List ℕ → Result (List ℕ) Refusal → Type 0
  Fits = Within limit large IsItself

  fits : (text : List ℕ) → Fits text (Err refusal) → Fits text (Err large)
  fits text h = elim h [ inl e ↦ (let no = e.1 in cc) | inr e ↦ inr (e.0, refl) ]

  there : (o : Option (List ℕ)) → Answers {F = F} Fits view o (Err (Refused refusal)) → Answers {F = F} Fits view o (Err (Refused large))
  there None h = h
  there (Some text) h = fits text h

  told : (o : Option Told) → IfSome o (λ t. Answers {F = F} Fits view (t.files name) (Err (Refused refusal))) → IfSome o (λ t. Answers {F = F} Fits view (t.files name) (Err (Refused large)))
  told None h = tt
  told (Some t) h = there (t.files name) h
