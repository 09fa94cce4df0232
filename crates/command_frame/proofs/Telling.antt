-- What is known of stores that may tell.
use Rattle.std.proofs.Common.{◌≡◌, Option, Some, None, IfSome, option_map, sym, subst}
use Rattle.pf_io.specs.Store.{Told}
use Rattle.command_frame.specs.Standing.{IfBoth}

pub more_told : (o : Option Told) (P Q : Told → Type 0) → ((t : Told) → P t → Q t) → IfSome o P → IfSome o Q
more_told None P Q h p = tt
more_told (Some t) P Q h p = h t p

-- what holds of both tellings, from what holds of them otherwise
pub more_of_both : (old new : Option Told) (P Q : Told → Told → Type 0) → ((t u : Told) → P t u → Q t u) → IfBoth old new P → IfBoth old new Q
more_of_both None new P Q h p = tt
more_of_both (Some t) None P Q h p = p
more_of_both (Some t) (Some u) P Q h p = h t u p

pub more_with : (old new : Option Told) (A : Told → Type 0) (P Q : Told → Told → Type 0) → ((t u : Told) → A t → P t u → Q t u) → IfSome old A → IfBoth old new P → IfBoth old new Q
more_with None new A P Q h a p = tt
more_with (Some t) None A P Q h a p = p
more_with (Some t) (Some u) A P Q h a p = h t u a p

-- what holds along three tellings
pub chained : (old mid new : Option Told) (P Q R : Told → Told → Type 0) → ((t u v : Told) → P t u → Q u v → R t v) → IfBoth old mid P → IfBoth mid new Q → IfBoth old new R
chained None mid new P Q R h p q = tt
chained (Some t) None new P Q R h p q = absurd p
chained (Some t) (Some u) None P Q R h p q = q
chained (Some t) (Some u) (Some v) P Q R h p q = h t u v p q

-- what a telling becomes
pub told_by : (change : Told → Told) (old new : Option Told) (P : Told → Told → Type 0) → ((t : Told) → P t (change t)) → new ≡ option_map change old → IfBoth old new P
told_by change None new P h e = tt
told_by change (Some t) new P h e = subst (λ o. IfBoth (Some t) o P) (sym e) (h t)

-- a telling that stays
pub same_told : (old new : Option Told) (P : Told → Told → Type 0) → ((t : Told) → P t t) → new ≡ old → IfBoth old new P
same_told None new P h e = tt
same_told (Some t) new P h e = subst (λ o. IfBoth (Some t) o P) (sym e) (h t)

-- what both tellings show of the one at entry
pub at_entry : (old new : Option Told) (P : Told → Told → Type 0) (Q : Told → Type 0) → ((t u : Told) → P t u → Q t) → IfBoth old new P → IfSome old Q
at_entry None new P Q h p = tt
at_entry (Some t) None P Q h p = absurd p
at_entry (Some t) (Some u) P Q h p = h t u p
