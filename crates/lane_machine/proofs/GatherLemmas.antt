-- What lanes give, one after another.
use Rattle.std.proofs.Common.{◌≡◌, ℕ, zero, suc, ◌+◌, ◌<◌, ℤ, Bool, true, false, List, [], ◌∷◌, ◌++◌, if◌then◌else◌, refl, sym, ap, ap₂, ◌∙◌, arith, fold}
use Rattle.std.proofs.lemmas.List.Sums.{fold-append}
use Rattle.pf_geom.specs.declared.axis.Axis.{Axis}
use Rattle.kern_tree.specs.declared.kernel.Combine.{Combine}
use Rattle.lane_code.specs.Outcome.{Given}
use Rattle.lane_machine.specs.Gathered.{gathered, numbers_to, goes_to}
use Rattle.lane_machine.specs.Total.{joined}
use Rattle.lane_machine.proofs.TotalLemmas.{past}

picked : (b : Bool) (n : ℤ) (xs ys : List ℤ) → (if b then n ∷ (xs ++ ys) else xs ++ ys) ≡ (if b then n ∷ xs else xs) ++ ys
picked true n xs ys = refl
picked false n xs ys = refl

pub numbers_to-append : (slots : List ℕ) (f : ℕ) (axis : Axis) (gs hs : List Given)
    → numbers_to slots f axis (gs ++ hs) ≡ numbers_to slots f axis gs ++ numbers_to slots f axis hs
numbers_to-append slots f axis [] hs = refl
numbers_to-append slots f axis (g ∷ gs) hs =
    ap (λ ns. if goes_to slots f axis g then g.number ∷ ns else ns) (numbers_to-append slots f axis gs hs)
    ∙ picked (goes_to slots f axis g) g.number (numbers_to slots f axis gs) (numbers_to slots f axis hs)

pub gathered_same : (g h : ℕ → List ℤ) (n : ℕ) → ((l : ℕ) → l < n → g l ≡ h l) → gathered g n ≡ gathered h n
gathered_same g h zero same = refl
gathered_same g h (suc n) same =
    ap₂ (λ xs ys. xs ++ ys) (gathered_same g h n (λ l less. same l (omega (arith, less)))) (same n (omega arith))

pub gathered_none : (g : ℕ → List ℤ) (n : ℕ) → ((l : ℕ) → l < n → g l ≡ []) → gathered g n ≡ []
gathered_none g zero none = refl
gathered_none g (suc n) none =
    ap₂ (λ xs ys. xs ++ ys) (gathered_none g n (λ l less. none l (omega (arith, less)))) (none n (omega arith))

pub gathered_more : (g : ℕ → List ℤ) (n : ℕ) → gathered g (n + 1) ≡ gathered g n ++ g n
gathered_more g n = let next : n + 1 ≡ suc n = omega arith in ap (gathered g) next

-- what is given first by all lanes can be added before what is given next
pub regrouped : (c : Combine) (t : ℤ) (g o : ℕ → List ℤ) (n : ℕ)
    → fold (joined c) t (gathered (λ l. g l ++ o l) n) ≡ fold (joined c) (fold (joined c) t (gathered g n)) (gathered o n)
regrouped c t g o zero = refl
regrouped c t g o (suc n) =
    let f = joined c in
    let first = gathered g n in
    let next = gathered o n in
    fold-append f t (gathered (λ l. g l ++ o l) n) (g n ++ o n)
    ∙ ap (λ a. fold f a (g n ++ o n)) (regrouped c t g o n)
    ∙ fold-append f (fold f (fold f t first) next) (g n) (o n)
    ∙ ap (λ a. fold f a (o n)) (past c (fold f t first) next (g n))
    ∙ sym (fold-append f (fold f (fold f t first) (g n)) next (o n))
    ∙ ap (λ a. fold f a (next ++ o n)) (sym (fold-append f t first (g n)))
