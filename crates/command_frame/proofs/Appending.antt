-- Appending the pieces of a source to a sink, one after another.
use Rattle.std.proofs.Common.{ℕ, ◌≡◌, ◌≤◌, ◌⊎◌, inl, inr, List, [], ◌∷◌, ◌++◌, length, take, drop, Option, Some, None, option_map, refl, sym, ap, ◌∙◌}
use Rattle.std.specs.List.{concat}
use Rattle.std.proofs.lemmas.List.{take-append-drop, append_assoc, append-nil}
use Rattle.std.proofs.lemmas.List.Folds.{concat-append}
use Rattle.pf_io.specs.Store.{Told, after_write}
use Rattle.command_frame.specs.Output.{appended, Appends}
use Rattle.command_frame.specs.Status.{IsLast}
use Rattle.command_frame.specs.declared.status.Status.{Status}
use Rattle.command_frame.specs.declared.status.Status.TheVariants.{StoreFault, Memory}
use Rattle.command_frame.specs.declared.status.StoreCall.TheVariants.{Write}

-- some pieces were appended, and these are ahead
pub record IsUnderWay {R F : Type 0} (texts ahead : List (List ℕ)) (last later_last : Status R F) (old new : Option Told) : Type 0 where
  pub done : List (List ℕ)
  pub split : texts ≡ done ++ ahead
  pub same_last : later_last ≡ last
  pub told : new ≡ option_map (appended done) old

-- one more piece after those that were appended
appended_more : (done : List (List ℕ)) (piece : List ℕ) (t : Told) → after_write piece (appended done t) ≡ appended (done ++ piece ∷ []) t
appended_more [] piece t = refl
appended_more (first ∷ done) piece t = appended_more done piece (after_write first t)

told_more : (done : List (List ℕ)) (piece : List ℕ) (old : Option Told) → option_map (after_write piece) (option_map (appended done) old) ≡ option_map (appended (done ++ piece ∷ [])) old
told_more done piece None = refl
told_more done piece (Some t) = ap Some (appended_more done piece t)

pub goes_on : {R F : Type 0} {texts ahead later : List (List ℕ)} {last old_last new_last : Status R F} {old mid new : Option Told} (piece : List ℕ)
    → IsUnderWay texts ahead last old_last old mid → ahead ≡ piece ∷ later → new_last ≡ old_last → new ≡ option_map (after_write piece) mid
    → IsUnderWay texts later last new_last old new
goes_on {later = later} {old = old} piece way next same told = record {
  done = way.done ++ piece ∷ [];
  split = way.split ∙ ap (λ (rest : List (List ℕ)). way.done ++ rest) next ∙ sym (append_assoc way.done (piece ∷ []) later);
  same_last = same ∙ way.same_last;
  told = told ∙ ap (option_map (after_write piece)) way.told ∙ told_more way.done piece old;
}

pub ends : {R F : Type 0} {texts ahead : List (List ℕ)} {last later_last : Status R F} {old new : Option Told} (result : Status R F)
    → IsUnderWay texts ahead last later_last old new → ahead ≡ [] → result ≡ later_last → IsLast result → Appends texts last result old new
ends {texts = texts} {old = old} result way none same is_last =
    let all : texts ≡ way.done = way.split ∙ ap (λ (rest : List (List ℕ)). way.done ++ rest) none ∙ append-nil way.done in
    inl (same ∙ way.same_last, is_last, way.told ∙ ap (λ (pieces : List (List ℕ)). option_map (appended pieces) old) (sym all))

pub gives_up : {R F : Type 0} {texts ahead : List (List ℕ)} {last later_last : Status R F} {old new : Option Told} (result : Status R F)
    → IsUnderWay texts ahead last later_last old new → result ≡ Memory → Appends texts last result old new
gives_up {ahead = ahead} result way e =
    inr (inr e, way.done, (concat ahead, ap concat way.split ∙ concat-append way.done ahead), way.told)

-- a piece of which only the first bytes were appended
pub breaks : {R F : Type 0} {texts ahead later : List (List ℕ)} {last later_last : Status R F} {old mid new : Option Told} (result : Status R F) (piece : List ℕ)
    → (result ≡ StoreFault Write) ⊎ (result ≡ Memory)
    → IsUnderWay texts ahead last later_last old mid → ahead ≡ piece ∷ later
    → (n : ℕ) × (n ≤ length piece) × (new ≡ option_map (after_write (take n piece)) mid)
    → Appends texts last result old new
breaks {texts = texts} {later = later} {old = old} result piece e way next h =
    let front : List ℕ = take h.0 piece in
    let parts : take h.0 piece ++ drop h.0 piece ≡ piece = take-append-drop h.0 piece in
    inr (e, way.done ++ front ∷ [], (drop h.0 piece ++ concat later, whole front (drop h.0 piece) parts), h.2 ∙ ap (option_map (after_write front)) way.told ∙ told_more way.done front old)
  where
    whole : (front rest : List ℕ) → front ++ rest ≡ piece → concat texts ≡ concat (way.done ++ front ∷ []) ++ (rest ++ concat later)
    whole front rest parts =
        ap concat (way.split ∙ ap (λ (more : List (List ℕ)). way.done ++ more) next)
        ∙ concat-append way.done (piece ∷ later)
        ∙ ap (λ (p : List ℕ). concat way.done ++ (p ++ concat later)) (sym parts)
        ∙ ap (λ (more : List ℕ). concat way.done ++ more) (append_assoc front rest (concat later))
        ∙ sym (append_assoc (concat way.done) front (rest ++ concat later))
        ∙ ap (λ (bytes : List ℕ). bytes ++ (rest ++ concat later)) (ap (λ (more : List ℕ). concat way.done ++ more) (sym (append-nil front)) ∙ sym (concat-append way.done (front ∷ [])))
