-- The dumps of a run, step by step.
use Rattle.std.proofs.Common.{ℕ, zero, suc, ◌≡◌, ◌+◌, ◌-◌, ◌<◌, ◌≤◌, ◌⊎◌, inl, inr, List, [], ◌∷◌, ◌++◌, map, flat_map, Option, Some, None, IsSome, MatchOption, option_and_then, refl, sym, ap, subst, ◌∙◌, arith}
use Rattle.std.specs.List.{range_with_len, concat}
use Rattle.run_model.specs.Setup.{Setup}
use Rattle.run_model.specs.Run.{Stop, State, first_fault, state, end_of, unless_stopped, fault_after, state_at_start, state_after}
use Rattle.run_model.specs.RunLaws.{EndsOrGoesThrough}
use Rattle.run_model.specs.Text.{text, texts}
use Rattle.top_call.specs.Run.{step_count, step_count_to, last_status, last_status_at, stop_status}
use Rattle.top_call.specs.Steps.{Coming, coming, IsDue, texts_from}
use Rattle.command_frame.specs.declared.status.Status.TheVariants.{Done}

lt_or_eq : (a b : ℕ) → a ≤ b → (a < b) ⊎ (a ≡ b)
lt_or_eq zero zero h = inr refl
lt_or_eq zero (suc b) h = inl (omega arith)
lt_or_eq (suc a) zero h = absurd (omega arith)
lt_or_eq (suc a) (suc b) h = let below : a ≤ b = omega arith in elim (lt_or_eq a b below) [ inl lt ↦ inl (omega arith) | inr e ↦ inr (ap suc e) ]

not_some : {A : Type 0} (o : Option A) → o ≡ None → IsSome o → ⊥
not_some {A} o e h = let none : IsSome {T = A} None = subst (λ (x : Option A). IsSome x) e h in cc

-- a step without a fault comes before the end
comes_before : (run : Setup) (end : Option ℕ) (step : ℕ) → EndsOrGoesThrough run end → step ≤ step_count_to run end → step ≤ run.steps → first_fault run step ≡ None → step < step_count_to run end
comes_before run None step law within inside none = omega arith
comes_before run (Some e) step law within inside none = elim (lt_or_eq step e within) [
  | inl lt ↦ lt
  | inr same ↦ absurd (not_some (first_fault run e) (subst (λ (s : ℕ). first_fault run s ≡ None) same none) law.fault)
]

pub before_the_end : (run : Setup) (step : ℕ) → EndsOrGoesThrough run (end_of run) → step ≤ step_count run → step ≤ run.steps → first_fault run step ≡ None → step < step_count run
before_the_end run step law within inside none = comes_before run (end_of run) step law within inside none

-- a step with a fault has no state
no_state_at : (run : Setup) (step : ℕ) (stop : Stop) (before : Option State) → option_and_then (fault_after run (suc step)) before ≡ Some stop
    → option_and_then (λ b. unless_stopped (fault_after run (suc step) b) (state_after run (suc step) b)) before ≡ None
no_state_at run step stop None e = refl
no_state_at run step stop (Some b) e = ap (λ (o : Option Stop). unless_stopped o (state_after run (suc step) b)) e

no_state : (run : Setup) (step : ℕ) (stop : Stop) → first_fault run step ≡ Some stop → state run step ≡ None
unfolding state first_fault
no_state run zero stop e = ap (λ (o : Option Stop). unless_stopped o (state_at_start run)) e
no_state run (suc step) stop e = no_state_at run step stop (state run step) e

-- a step with a fault is the end
ends_at : (run : Setup) (end : Option ℕ) (step : ℕ) (stop : Stop) → EndsOrGoesThrough run end → step ≤ step_count_to run end → step ≤ run.steps → first_fault run step ≡ Some stop → end ≡ Some step
ends_at run None step stop law within inside fault = let none = law.no_fault step inside in cc
ends_at run (Some e) step stop law within inside fault = elim (lt_or_eq step e within) [
  | inl lt ↦ absurd (not_some (state run step) (no_state run step stop fault) (law.before step lt))
  | inr same ↦ ap Some (sym same)
]

pub the_end : (run : Setup) (step : ℕ) (stop : Stop) → EndsOrGoesThrough run (end_of run) → step ≤ step_count run → step ≤ run.steps → first_fault run step ≡ Some stop → end_of run ≡ Some step
the_end run step stop law within inside fault = ends_at run (end_of run) step stop law within inside fault

-- past the last step nothing is left, and the run was done
past : (run : Setup) (end : Option ℕ) (step : ℕ) → EndsOrGoesThrough run end → step ≤ step_count_to run end → run.steps < step → (step ≡ step_count_to run end) × (last_status_at run end ≡ Done)
past run None step law within beyond = (omega arith, refl)
past run (Some e) step law within beyond = let last = law.within in absurd (omega arith)

-- of the steps from the end on there is no text
pub no_texts : (run : Setup) (step : ℕ) → step_count run ≤ step → texts_from run step ≡ []
no_texts run step h = let none : step_count run - step ≡ 0 = omega arith in ap (λ (n : ℕ). map (text run) (range_with_len step n)) none

pub past_the_end : (run : Setup) (step : ℕ) → EndsOrGoesThrough run (end_of run) → step ≤ step_count run → run.steps < step → (texts_from run step ≡ []) × (Done ≡ last_status run)
past_the_end run step law within beyond =
    let p = past run (end_of run) step law within beyond in
    let reached : step_count run ≤ step = omega arith in
    (no_texts run step reached, sym p.1)

pub fault_ends : (run : Setup) (step : ℕ) (stop : Stop) → EndsOrGoesThrough run (end_of run) → step ≤ step_count run → step ≤ run.steps → first_fault run step ≡ Some stop
    → (texts_from run step ≡ []) × (stop_status step (Some stop) ≡ last_status run)
fault_ends run step stop law within inside fault =
    let end = the_end run step stop law within inside fault in
    let count : step_count run ≡ step = ap (step_count_to run) end in
    let reached : step_count run ≤ step = omega arith in
    (no_texts run step reached, ap (stop_status step) (sym fault) ∙ ap (last_status_at run) (sym end))

-- the text of a step comes before those of the next
pub one_text : (run : Setup) (step : ℕ) → step < step_count run → texts_from run step ≡ text run step ∷ texts_from run (suc step)
one_text run step h =
    let more : step_count run - step ≡ suc (step_count run - suc step) = omega arith in
    ap (λ (n : ℕ). map (text run) (range_with_len step n)) more
    ∙ ap (λ (next : ℕ). text run step ∷ map (text run) (range_with_len next (step_count run - suc step))) (add_one step)
  where
    add_one : (n : ℕ) → n + 1 ≡ suc n
    add_one n = omega arith

joined : (f : ℕ → List ℕ) (xs : List ℕ) → concat (map f xs) ≡ flat_map f xs
joined f [] = refl
joined f (x ∷ xs) = ap (λ (rest : List ℕ). f x ++ rest) (joined f xs)

-- all texts together are the output
pub all_texts : (run : Setup) → concat (texts_from run 0) ≡ texts run (step_count run)
all_texts run = joined (text run) (range_with_len 0 (step_count run - 0)) ∙ ap (λ (n : ℕ). flat_map (text run) (range_with_len 0 n)) (less_nothing (step_count run)) where
  less_nothing : (n : ℕ) → n - 0 ≡ n
  less_nothing n = omega arith

-- what is known of a world that is there
pub due_of : {W : Type 0} (Due : W → Type 0) (there : Option W) (world : W) → there ≡ Some world → MatchOption there (Unit {0}) Due → Due world
due_of {W} Due there world is h = let P : Option W → Type 0 = λ o. MatchOption o (Unit {0}) Due in subst P is h

pub coming_of : {W : Type 0} (run : Setup) (there : Option W) (world : W) (step : ℕ) (now : Coming) → there ≡ Some world → coming run there step ≡ now
    → (now.texts ≡ texts_from run step) × (last_status run ≡ now.last)
coming_of {W} run there world step now is view =
    let e = ap (λ (o : Option W). coming run o step) (sym is) ∙ view in
    (ap (λ (m : Coming). m.texts) (sym e), ap (λ (m : Coming). m.last) e)

module _ {Stands : Type 0} (run : Setup) (due step steps : ℕ) (law : EndsOrGoesThrough run (end_of run)) (is : IsDue due Stands run step steps) (inside : step ≤ steps) where
  within_steps : step ≤ run.steps
  within_steps = let last = is.steps_are in omega arith

  -- a step that has no fault is not the end
  pub more_comes : first_fault run due ≡ None → step + 1 ≤ step_count run
  more_comes none =
      let below : step < step_count run = before_the_end run step law is.within within_steps (subst (λ (s : ℕ). first_fault run s ≡ None) is.number none) in
      omega arith

  -- and has the next text
  pub next_text : (bytes : List ℕ) → first_fault run due ≡ None → bytes ≡ text run due → texts_from run step ≡ bytes ∷ texts_from run (step + 1)
  next_text bytes none same =
      let more = more_comes none in
      let below : step < step_count run = omega arith in
      let next : suc step ≡ step + 1 = omega arith in
      one_text run step below
      ∙ ap (λ (t : List ℕ). t ∷ texts_from run (suc step)) (sym (same ∙ ap (text run) is.number))
      ∙ ap (λ (s : ℕ). bytes ∷ texts_from run s) next

  -- a fault ends the run
  pub fault_comes : (stop : Stop) → first_fault run due ≡ Some stop → (texts_from run step ≡ []) × (stop_status step (Some stop) ≡ last_status run)
  fault_comes stop fault = fault_ends run step stop law is.within within_steps (subst (λ (s : ℕ). first_fault run s ≡ Some stop) is.number fault)
