-- First faults, and the answers that tell them.
use Rattle.std.proofs.Common.{◌≡◌, ℕ, ◌+◌, ◌<◌, List, length, get_or, drop, Option, None, sym, ap, subst, ◌∙◌}
use Rattle.order_laws.specs.Order.{first_some}
use Rattle.run_model.specs.Force.{first_given}
use Rattle.run_model.specs.Run.{Stop}
use Rattle.run_model.specs.declared.fault.StepFault.{StepFault}
use Rattle.run_model.specs.declared.fault.StepFault.TheVariants.{Numeric, Lists, Memory}
use Rattle.run_model.specs.Answers.{StopsAt}
use Rattle.plain_run.proofs.StepLemmas.{first_given-drop}

pub same_stop : (a b : Option Stop) (stop : StepFault) → a ≡ b → StopsAt a stop → StopsAt b stop
same_stop a b stop e h = subst (λ (o : Option Stop). StopsAt o stop) e h

pub stops_first : (a b : Option Stop) (stop : StepFault) → StopsAt a stop → StopsAt (first_some a b) stop
stops_first a b (Numeric fault) h = ap (λ o. first_some o b) h
stops_first a b (Lists count) h = ap (λ o. first_some o b) h
stops_first a b Memory h = tt

pub stops_then : (a b : Option Stop) (stop : StepFault) → a ≡ None → StopsAt b stop → StopsAt (first_some a b) stop
stops_then a b stop none h = same_stop b (first_some a b) stop (ap (λ o. first_some o b) (sym none)) h

pub none_of_both : (a b : Option Stop) → a ≡ None → b ≡ None → first_some a b ≡ None
none_of_both a b e h = ap (λ o. first_some o b) e ∙ h

module _ {X : Type 0} (f : X → Option Stop) (xs : List X) (k : ℕ) (x : X) (within : k < length xs) (here : x ≡ get_or xs k x) (so_far : first_given f (drop k xs) ≡ first_given f xs) where
  -- the fault of this element is the first
  pub stops_here : (stop : StepFault) → StopsAt (f x) stop → StopsAt (first_given f xs) stop
  stops_here stop h = same_stop _ _ stop (sym (first_given-drop f xs k x within here) ∙ so_far) (stops_first (f x) (first_given f (drop (k + 1) xs)) stop h)

  -- or it has none
  pub none_here : f x ≡ None → first_given f (drop (k + 1) xs) ≡ first_given f xs
  none_here none = sym (first_given-drop f xs k x within here ∙ ap (λ o. first_some o (first_given f (drop (k + 1) xs))) none) ∙ so_far
