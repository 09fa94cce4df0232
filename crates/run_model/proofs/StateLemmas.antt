-- Where steps have states.
use Rattle.std.proofs.Common.{rules, ◌≡◌, ℕ, zero, suc, ◌<◌, ◌≤◌, true, false, Option, Some, None, is_some, inl, inr, refl, arith}
use Rattle.std.specs.Prelude.{IsSome, option_and_then}
use Rattle.std.proofs.lemmas.Bool.{cases_order}
use Rattle.run_model.specs.Setup.{Setup}
use Rattle.run_model.specs.Run.{Stop, fault_at_start, state_at_start, fault_after, state_after, unless_stopped, state, first_fault, end_of}
use Rattle.run_model.specs.RunLaws.{EndsOrGoesThrough}
use Rattle.run_model.proofs.LeastNumbers.{IsLeast, IsLeast-least_below}

none_from_test : {X : Type 0} (o : Option X) → is_some o ≡ false → o ≡ None
none_from_test None e = refl
none_from_test (Some x) e = cc

some_from_test : {X : Type 0} (o : Option X) → is_some o ≡ true → IsSome o
some_from_test None e = cc
some_from_test (Some x) e = search rules

none_is_not_some : (X : Type 0) → IsSome {T = X} None → ⊥
none_is_not_some X h = grind arith

-- ---- one step

stands : {X : Type 0} (o : Option Stop) (x : X) → o ≡ None → IsSome (unless_stopped o x)
stands None x e = search rules
stands (Some stop) x e = cc

stops : {X : Type 0} (o : Option Stop) (x : X) → IsSome o → unless_stopped o x ≡ None
stops {X} None x h = absurd (none_is_not_some Stop h)
stops (Some stop) x h = refl

goes_on : {X Y : Type 0} (f : X → Option Stop) (g : X → Y) (o : Option X) → IsSome o → option_and_then f o ≡ None → IsSome (option_and_then (λ x. unless_stopped (f x) (g x)) o)
goes_on {X} f g None h e = absurd (none_is_not_some X h)
goes_on f g (Some x) h e = stands (f x) (g x) e

stops_after : {X Y : Type 0} (f : X → Option Stop) (g : X → Y) (o : Option X) → IsSome (option_and_then f o) → option_and_then (λ x. unless_stopped (f x) (g x)) o ≡ None
stops_after f g None h = refl
stops_after f g (Some x) h = stops (f x) (g x) h

-- ---- all steps

states_up_to : (u : Setup) (s : ℕ) → ((k : ℕ) → k ≤ s → first_fault u k ≡ None) → IsSome (state u s)
unfolding state first_fault
states_up_to u zero none = stands (fault_at_start u) (state_at_start u) (none 0 (omega arith))
states_up_to u (suc s) none =
    goes_on (fault_after u (suc s)) (state_after u (suc s)) (state u s) (states_up_to u s (λ k below. none k (omega arith))) (none (suc s) (omega arith))

no_state_at : (u : Setup) (s : ℕ) → IsSome (first_fault u s) → state u s ≡ None
unfolding state first_fault
no_state_at u zero h = stops (fault_at_start u) (state_at_start u) h
no_state_at u (suc s) h = stops_after (fault_after u (suc s)) (state_after u (suc s)) (state u s) h

no_state_next : (u : Setup) (s : ℕ) → state u s ≡ None → state u (suc s) ≡ None
unfolding state
no_state_next u s e = rw e

no_state_from : (u : Setup) (e s : ℕ) → e ≤ s → state u e ≡ None → state u s ≡ None
no_state_from u e zero h none = let same : e ≡ 0 = omega arith in rw (← same) none
no_state_from u e (suc s) h none =
    elim (cases_order e (suc s)) [
      | inl same ↦ rw (← same) none
      | inr other ↦ no_state_next u s (no_state_from u e s (elim other [ inl less ↦ omega arith | inr more ↦ absurd (omega arith) ]) none)
    ]

-- ---- the end

ends : (u : Setup) (o : Option ℕ) → IsLeast (λ s. is_some (first_fault u s)) (suc u.steps) o → EndsOrGoesThrough u o
ends u None none =
    let no_fault : (s : ℕ) → s ≤ u.steps → first_fault u s ≡ None = λ s within. none_from_test (first_fault u s) (none s (omega arith)) in
    record {
      states = λ s within. states_up_to u s (λ k below. no_fault k (omega arith));
      no_fault = no_fault;
    }
ends u (Some e) least =
    let fault : IsSome (first_fault u e) = some_from_test (first_fault u e) least.1 in
    let below : (k : ℕ) → k < e → first_fault u k ≡ None = λ k less. none_from_test (first_fault u k) (least.2 k less) in
    record {
      within = let h : e < suc u.steps = least.0 in omega arith;
      fault = fault;
      before = λ s less. states_up_to u s (λ k within. below k (omega arith));
      after = λ s within. no_state_from u e s within (no_state_at u e fault);
    }

pub states_stand : (u : Setup) → EndsOrGoesThrough u (end_of u)
states_stand u = ends u (end_of u) (IsLeast-least_below (λ s. is_some (first_fault u s)) (suc u.steps))
