-- What seats have done together, when one of them changes.
use Rattle.std.proofs.Common.{◌≡◌, ◌≢◌, ⊎_elim, ℕ, zero, suc, ◌+◌, ◌≤◌, List, [], ◌∷◌, ◌++◌, set, sym, refl, ap, ◌∙◌, subst, arith, sum_by, flat_map}
use mathlib.Core.Option.{some, some-injective, some-ne-none}
use lib.ListN.{get_elem?}
use Rattle.std.proofs.lemmas.List.Sums.{sum_by-cons, sum_by_push}
use Rattle.std.proofs.lemmas.List.{append-nil}
use Rattle.atomic_table.proofs.Lists.{at_set, at_snoc}
use Rattle.claim_board.specs.declared.rule.SeatView.{SeatView}
use Rattle.claim_board.specs.Once.{times}
use Rattle.claim_board.specs.Rule.{EachView}
use Rattle.claim_board.proofs.Numbers.{times-append}

abbrev pub all_claimed : List SeatView → List ℕ
all_claimed views = flat_map (λ h. h.claimed) views

pub sum_by_at : (f : SeatView → ℕ) (views : List SeatView) (id : ℕ) (h h' : SeatView) → get_elem? views id ≡ some h → sum_by f (set views id h') + f h ≡ sum_by f views + f h'
sum_by_at f [] id h h' e = absurd (some-ne-none h (sym e))
sum_by_at f (x ∷ xs) zero h h' e = let is : f x ≡ f h = ap f (some-injective x h e) in let a = sum_by-cons f x xs in let b = sum_by-cons f h' xs in omega arith
sum_by_at f (x ∷ xs) (suc id) h h' e = let r = sum_by_at f xs id h h' e in let a = sum_by-cons f x xs in let b = sum_by-cons f x (set xs id h') in omega arith

-- one seat's part is within the sum
pub sum_by_part : (f : SeatView → ℕ) (views : List SeatView) (id : ℕ) (h : SeatView) → get_elem? views id ≡ some h → f h ≤ sum_by f views
sum_by_part f [] id h e = absurd (some-ne-none h (sym e))
sum_by_part f (x ∷ xs) zero h e = let is : f x ≡ f h = ap f (some-injective x h e) in let a = sum_by-cons f x xs in omega arith
sum_by_part f (x ∷ xs) (suc id) h e = let r = sum_by_part f xs id h e in let a = sum_by-cons f x xs in omega arith

pub sum_by_within : (f g : SeatView → ℕ) (views : List SeatView) → EachView (λ h. f h ≤ g h) views → sum_by f views ≤ sum_by g views
sum_by_within f g [] each = omega arith
sum_by_within f g (x ∷ xs) each = let r = sum_by_within f g xs (λ id h e. each (suc id) h e) in let here : f x ≤ g x = each zero x refl in
    let a = sum_by-cons f x xs in let b = sum_by-cons g x xs in omega arith

-- how often a number was claimed is how often each seat claimed it, added up
pub times_claimed : (x : ℕ) (views : List SeatView) → times x (all_claimed views) ≡ sum_by (λ h. times x h.claimed) views
times_claimed x [] = refl
times_claimed x (h ∷ views) = let r = times_claimed x views in let a = times-append x h.claimed (all_claimed views) in let b = sum_by-cons (λ h. times x h.claimed) h views in omega arith

pub times_at : (x : ℕ) (views : List SeatView) (id : ℕ) (h h' : SeatView) → get_elem? views id ≡ some h
    → times x (all_claimed (set views id h')) + times x h.claimed ≡ times x (all_claimed views) + times x h'.claimed
times_at x views id h h' e = let a = times_claimed x views in let b = times_claimed x (set views id h') in let s = sum_by_at (λ h. times x h.claimed) views id h h' e in omega arith

pub times_snoc : (x : ℕ) (views : List SeatView) (h : SeatView) → times x (all_claimed (views ++ h ∷ [])) ≡ times x (all_claimed views) + times x h.claimed
times_snoc x views h = let a = times_claimed x views in let b = times_claimed x (views ++ h ∷ []) in let s = sum_by_push (λ h. times x h.claimed) views h in omega arith

pub each_set : (F : SeatView → Type 0) (views : List SeatView) (id : ℕ) (h : SeatView) → F h → EachView F views → EachView F (set views id h)
each_set F views id h mine all j u e = ⊎_elim (λ (x : (j ≡ id) × (h ≡ u)). subst F x.1 mine)
    (λ (x : (j ≢ id) × (get_elem? views j ≡ some u)). all j u x.1) (at_set views id j h u e)

pub each_snoc : (F : SeatView → Type 0) (views : List SeatView) (h : SeatView) → F h → EachView F views → EachView F (views ++ h ∷ [])
each_snoc F views h mine all j u e = ⊎_elim (λ (x : get_elem? views j ≡ some u). all j u x) (λ (is : h ≡ u). subst F is mine) (at_snoc views h u j e)

pub each_one : (F : SeatView → Type 0) (h : SeatView) → F h → EachView F (h ∷ [])
each_one F h mine zero u e = subst F (some-injective h u e) mine
each_one F h mine (suc j) u e = absurd (some-ne-none u (sym e))

pub each_weaker : (F G : SeatView → Type 0) (views : List SeatView) → ((h : SeatView) → F h → G h) → EachView F views → EachView G views
each_weaker F G views weaker all j u e = weaker u (all j u e)

abbrev SpentIsEmpty : SeatView → Type 0
SpentIsEmpty h = h.share ≡ 0 → h.claimed ≡ []

-- seats without shares have claimed nothing
all_spent : (views : List SeatView) → EachView SpentIsEmpty views → sum_by (λ h. h.share) views ≡ 0 → all_claimed views ≡ []
all_spent [] each none = refl
all_spent (x ∷ xs) each none = let a = sum_by-cons (λ h. h.share) x xs in let r = all_spent xs (λ id h e. each (suc id) h e) (omega arith) in
    let mine : x.claimed ≡ [] = each zero x refl (omega arith) in ap (λ ys. ys ++ all_claimed xs) mine ∙ r

-- where one seat has all shares, it has all numbers
pub all_in_one : (views : List SeatView) (id : ℕ) (h : SeatView) → EachView SpentIsEmpty views → get_elem? views id ≡ some h → sum_by (λ h. h.share) views ≡ h.share → all_claimed views ≡ h.claimed
all_in_one [] id h each e all = absurd (some-ne-none h (sym e))
all_in_one (x ∷ xs) zero h each e all = let a = sum_by-cons (λ h. h.share) x xs in let is : x ≡ h = some-injective x h e in let share : x.share ≡ h.share = ap (λ (h : SeatView). h.share) is in
    let r = all_spent xs (λ id h e. each (suc id) h e) (omega arith) in
    ap (λ ys. x.claimed ++ ys) r ∙ append-nil x.claimed ∙ ap (λ (h : SeatView). h.claimed) is
all_in_one (x ∷ xs) (suc id) h each e all = let a = sum_by-cons (λ h. h.share) x xs in let le = sum_by_part (λ h. h.share) xs id h e in
    let mine : x.claimed ≡ [] = each zero x refl (omega arith) in
    let r = all_in_one xs id h (λ id h e. each (suc id) h e) e (omega arith) in ap (λ ys. ys ++ all_claimed xs) mine ∙ r
