-- Checks that passed, one after another.
use Rattle.std.proofs.Common.{◌≡◌, ℕ, Bool, true, false, List, [], ◌∷◌, ◌++◌, Some, None, Ok, Err, cond, find, refl, arith}
use Rattle.std.specs.Prelude.{◌==◌}
use Rattle.std.proofs.lemmas.Bool.Decides.{nat_tests}
use Rattle.kern_tree.specs.declared.kernel.Kind.{Kind}
use Rattle.kern_tree.specs.declared.kernel.Kind.TheVariants as kinds
use Rattle.kern_types.specs.declared.fault.TypeFault.{TypeFault}
use Rattle.kern_types.specs.Declarations.{same_kind}
use Rattle.kern_types.specs.Statements.{same_check}
use Rattle.kern_types.specs.Steps.{OrFault, ◌>>◌, ◌>>=◌, Check, pass, unless}

pub passed_first : (first : Check) {A : Type 0} (next : OrFault A) (value : A) → (first >> next) ≡ Ok value → first ≡ pass
passed_first (Ok tt) next value e = refl
passed_first (Err fault) next value e = absurd (let no : ⊥ = cc in no)

pub passed_then : (first : Check) {A : Type 0} (next : OrFault A) (value : A) → (first >> next) ≡ Ok value → next ≡ Ok value
passed_then (Ok tt) next value e = e
passed_then (Err fault) next value e = absurd (let no : ⊥ = cc in no)

pub tested : (test : Bool) (fault : TypeFault) → unless test fault ≡ pass → test ≡ true
tested true fault e = refl
tested false fault e = absurd (let no : ⊥ = cc in no)

-- an answer and what follows it
pub record Reached {A B : Type 0} (first : OrFault A) (next : A → OrFault B) (last : B) : Type 0 where
  pub value : A
  pub is : first ≡ Ok value
  pub then_is : next value ≡ Ok last

pub reached : {A B : Type 0} (first : OrFault A) (next : A → OrFault B) (last : B) → (first >>= next) ≡ Ok last → Reached first next last
reached (Ok value) next last e = record { value = value; is = refl; then_is = e }
reached (Err fault) next last e = absurd (let no : ⊥ = cc in no)

same_kinds : (a b : Kind) → same_kind a b ≡ true → a ≡ b
same_kinds kinds.Num kinds.Num e = refl
same_kinds kinds.Vec3 kinds.Vec3 e = refl
same_kinds kinds.Num kinds.Vec3 e = absurd (let no : ⊥ = cc in no)
same_kinds kinds.Vec3 kinds.Num e = absurd (let no : ⊥ = cc in no)

one_scale : (a b : ℕ) → (a == b) ≡ true → a ≡ b
one_scale a b e = grind (arith, nat_tests)

pub checked_same : (place : ℕ) (kind : Kind) (scale : ℕ) (other : Kind) (other_scale : ℕ) → same_check place kind scale other other_scale ≡ pass → (kind ≡ other) × (scale ≡ other_scale)
checked_same place kind scale other other_scale e = (
  same_kinds kind other (tested (same_kind kind other) _ (passed_first (unless (same_kind kind other) _) (unless (scale == other_scale) _) tt e)),
  one_scale scale other_scale (tested (scale == other_scale) _ (passed_then (unless (same_kind kind other) _) (unless (scale == other_scale) _) tt e)),
)

-- ---- what `find` finds in longer lists

pub find_kept : {X : Type 0} (test : X → Bool) (xs ys : List X) (x : X) → find test xs ≡ Some x → find test (xs ++ ys) ≡ Some x
find_kept test [] ys x e = absurd (let no : ⊥ = cc in no)
find_kept test (y ∷ xs) ys x e = kept (test y) e (find_kept test xs ys x) where
  kept : (b : Bool) → cond b (Some y) (find test xs) ≡ Some x → (find test xs ≡ Some x → find test (xs ++ ys) ≡ Some x) → cond b (Some y) (find test (xs ++ ys)) ≡ Some x
  kept true e more = e
  kept false e more = more e

pub find_later : {X : Type 0} (test : X → Bool) (xs ys : List X) → find test xs ≡ None → find test (xs ++ ys) ≡ find test ys
find_later test [] ys e = refl
find_later test (y ∷ xs) ys e = later (test y) e (find_later test xs ys) where
  later : (b : Bool) → cond b (Some y) (find test xs) ≡ None → (find test xs ≡ None → find test (xs ++ ys) ≡ find test ys) → cond b (Some y) (find test (xs ++ ys)) ≡ find test ys
  later true e more = absurd (let no : ⊥ = cc in no)
  later false e more = more e
