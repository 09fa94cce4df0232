-- Where a run is after a step, from where it was before.
use Rattle.std.proofs.Common.{◌≡◌, ℕ, suc, Some, None, refl, sym, ap, subst, ◌∙◌}
use Rattle.run_model.specs.Setup.{Setup}
use Rattle.run_model.specs.Run.{State, Stop, state, first_fault, fault_at_start, state_at_start, fault_after, state_after, unless_stopped}
use Rattle.std.specs.Prelude.{option_and_then}
use Rattle.plain_run.specs.declared.run.Reached.{Reached}
use Rattle.plain_run.specs.declared.run.Reached.TheVariants.{At, Numeric, Lists, Past}
use Rattle.plain_run.specs.Reaching.{IsReached}

-- at the start
pub starts : (u : Setup) (now : State) → fault_at_start u ≡ None → now ≡ state_at_start u → (state u 0 ≡ Some now) × (first_fault u 0 ≡ None)
unfolding state first_fault
starts u now none is = (ap (λ o. unless_stopped o (state_at_start u)) none ∙ ap Some (sym is), none)

pub stops_at_start : (u : Setup) (stop : Stop) → fault_at_start u ≡ Some stop → (state u 0 ≡ None) × (first_fault u 0 ≡ Some stop)
unfolding state first_fault
stops_at_start u stop some = (ap (λ o. unless_stopped o (state_at_start u)) some, some)

-- at a later step
goes : (u : Setup) (k : ℕ) (before now : State) → state u k ≡ Some before → fault_after u (suc k) before ≡ None → now ≡ state_after u (suc k) before → (state u (suc k) ≡ Some now) × (first_fault u (suc k) ≡ None)
unfolding state first_fault
goes u k before now at none is = (
  ap (option_and_then (λ b. unless_stopped (fault_after u (suc k) b) (state_after u (suc k) b))) at ∙ ap (λ o. unless_stopped o (state_after u (suc k) before)) none ∙ ap Some (sym is),
  ap (option_and_then (fault_after u (suc k))) at ∙ none,
)

stops : (u : Setup) (k : ℕ) (before : State) (stop : Stop) → state u k ≡ Some before → fault_after u (suc k) before ≡ Some stop → (state u (suc k) ≡ None) × (first_fault u (suc k) ≡ Some stop)
unfolding state first_fault
stops u k before stop at some = (
  ap (option_and_then (λ b. unless_stopped (fault_after u (suc k) b) (state_after u (suc k) b))) at ∙ ap (λ o. unless_stopped o (state_after u (suc k) before)) some,
  ap (option_and_then (fault_after u (suc k))) at ∙ some,
)

passes_on : (u : Setup) (k : ℕ) → state u k ≡ None → (state u (suc k) ≡ None) × (first_fault u (suc k) ≡ None)
unfolding state first_fault
passes_on u k none = (
  ap (option_and_then (λ b. unless_stopped (fault_after u (suc k) b) (state_after u (suc k) b))) none,
  ap (option_and_then (fault_after u (suc k))) none,
)

pub goes_on : (u : Setup) (s k : ℕ) (before now : State) → s ≡ suc k → state u k ≡ Some before → fault_after u s before ≡ None → now ≡ state_after u s before → (state u s ≡ Some now) × (first_fault u s ≡ None)
goes_on u s k before now e at none is =
    subst (λ n. (state u n ≡ Some now) × (first_fault u n ≡ None)) (sym e) (goes u k before now at (ap (λ n. fault_after u n before) (sym e) ∙ none) (is ∙ ap (λ n. state_after u n before) e))

pub stops_at : (u : Setup) (s k : ℕ) (before : State) (stop : Stop) → s ≡ suc k → state u k ≡ Some before → fault_after u s before ≡ Some stop → (state u s ≡ None) × (first_fault u s ≡ Some stop)
stops_at u s k before stop e at some =
    subst (λ n. (state u n ≡ None) × (first_fault u n ≡ Some stop)) (sym e) (stops u k before stop at (ap (λ n. fault_after u n before) (sym e) ∙ some))

-- there is no state after a step without one
no_state : (u : Setup) (k : ℕ) (before : Reached) → ((now : State) → before ≡ At now → ⊥) → IsReached u k before → state u k ≡ None
no_state u k (At now) not h = absurd (not now refl)
no_state u k (Numeric fault) not h = h.0
no_state u k (Lists count) not h = h.0
no_state u k Past not h = h.0

pub stays_past : (u : Setup) (s k : ℕ) (before : Reached) → s ≡ suc k → ((now : State) → before ≡ At now → ⊥) → IsReached u k before → (state u s ≡ None) × (first_fault u s ≡ None)
stays_past u s k before e not h = subst (λ n. (state u n ≡ None) × (first_fault u n ≡ None)) (sym e) (passes_on u k (no_state u k before not h))
