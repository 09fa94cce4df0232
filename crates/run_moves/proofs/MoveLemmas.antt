-- The moves of a run, particle by particle.
use Rattle.std.proofs.Common.{◌≡◌, ℕ, ◌+◌, ◌<◌, zero, suc, ℤ, pos, List, [], ◌∷◌, ◌++◌, length, get_or, set, drop, take, map, Option, Some, None, Result, Ok, Err, refl, sym, ◌∙◌, ap, add-one, arith}
use Rattle.std.specs.Prelude.{slice_index_or, option_map}
use Rattle.std.proofs.Math.Seq.{drop-cons, take-suc}
use Rattle.std.proofs.lemmas.List.{map-append, get_or-take, get_or-drop}
use Rattle.pf_geom.specs.declared.axis.Axis.{Axis}
use Rattle.order_laws.specs.Order.{first_some}
use Rattle.pf_model.specs.Particle.{Particle}
use Rattle.run_model.specs.Setup.{Setup}
use Rattle.run_model.specs.Force.{acc_place, acceleration, first_given}
use Rattle.run_model.specs.Leapfrog.{Triple, along_axes, kicked, first_axis, is_fast, fast_axis, after_kick}
use Rattle.run_model.specs.declared.fault.Fault.{Fault}
use Rattle.run_model.specs.declared.fault.What.{What}
use Rattle.run_model.specs.declared.fault.What.TheVariants.{Fast}
use Rattle.run_model.specs.Run.{WithForces, numeric, Numeric, kicked_body, kick_fault}
use Rattle.leapfrog.specs.declared.fault.MoveFault.{MoveFault}
use Rattle.leapfrog.specs.declared.fault.MoveFault.TheVariants.{Overflow}
use Rattle.leapfrog.specs.Refusal.{refusal}
use Rattle.run_moves.specs.Moves.{what_of}

-- ---- a half kick

from_place : (row : List ℤ) (place k : ℕ) → k < 3 → slice_index_or (take 3 (drop place row)) k (pos 0) ≡ slice_index_or row (place + k) (pos 0)
from_place row place k within = get_or-take 3 (drop place row) k (pos 0) within ∙ get_or-drop place row k (pos 0)

-- three numbers that stand in a row from a place on
pub along_row : (row : List ℤ) (place : ℕ) (x y z : ℤ) → x ≡ slice_index_or row place (pos 0) → y ≡ slice_index_or row (place + 1) (pos 0) → z ≡ slice_index_or row (place + 2) (pos 0) → along_axes (x ∷ y ∷ z ∷ []) ≡ along_axes (take 3 (drop place row))
along_row row place x y z first second third =
    let at_first = from_place row place 0 (omega arith) in
    let at_second = from_place row place 1 (omega arith) in
    let at_third = from_place row place 2 (omega arith) in
    let start : slice_index_or row (place + 0) (pos 0) ≡ slice_index_or row place (pos 0) = ap (λ n. slice_index_or row n (pos 0)) (let e : place + 0 ≡ place = omega arith in e) in
    rw (first ∙ sym start ∙ sym at_first, second ∙ sym at_second, third ∙ sym at_third) refl

-- a particle after a half kick of this acceleration along the axes
kicked_by : ℕ → Particle → Triple → Particle
kicked_by dt p a =
    let v = along_axes p.vel in
    record p { vel = kicked dt a.x v.x ∷ kicked dt a.y v.y ∷ kicked dt a.z v.z ∷ [] }

-- the axis on which it is too fast
fast_by : ℕ → Particle → Triple → Option Axis
fast_by dt p a =
    let v = along_axes p.vel in
    first_axis is_fast (record { x = kicked dt a.x v.x; y = kicked dt a.y v.y; z = kicked dt a.z v.z })

no_axis : (o : Option Axis) → refusal Overflow o ≡ Ok tt → o ≡ None
no_axis None e = refl
no_axis (Some axis) e = cc

some_axis : (id : ℕ) (o : Option Axis) (fault : MoveFault) → refusal Overflow o ≡ Err fault → option_map (λ axis. numeric id (Fast axis)) o ≡ Some (Numeric (record { id = id; what = what_of fault }))
some_axis id None fault e = cc
some_axis id (Some axis) fault e =
    let same : Overflow axis ≡ fault = cc in
    ap (λ (f : MoveFault). Some (Numeric (record { id = id; what = what_of f }))) same

module _ (u : Setup) (place dt : ℕ) (b : WithForces) (acc : List ℤ) (placed : acc_place u.kernel ≡ place) (timed : u.dt ≡ dt) (along : along_axes acc ≡ along_axes (take 3 (drop place b.forces))) where
  same_acc : along_axes acc ≡ along_axes (acceleration u.kernel b.forces)
  unfolding acceleration
  same_acc = along ∙ ap (λ n. along_axes (take 3 (drop n b.forces))) (sym placed)

  pub kicked_is : after_kick dt acc b.body ≡ kicked_body u b
  unfolding kicked_by
  kicked_is = ap (kicked_by dt b.body) same_acc ∙ ap (λ n. after_kick n (acceleration u.kernel b.forces) b.body) (sym timed)

  pub fast_is : fast_axis dt acc b.body ≡ fast_axis u.dt (acceleration u.kernel b.forces) b.body
  unfolding fast_by
  fast_is = ap (fast_by dt b.body) same_acc ∙ ap (λ n. fast_axis n (acceleration u.kernel b.forces) b.body) (sym timed)

  pub not_fast : (answer : Result (Unit {0}) MoveFault) → answer ≡ refusal Overflow (fast_axis dt acc b.body) → answer ≡ Ok tt → kick_fault u b ≡ None
  not_fast answer is ok = rw (sym fast_is, no_axis (fast_axis dt acc b.body) (sym is ∙ ok)) refl

  pub too_fast : (answer : Result (Unit {0}) MoveFault) (fault : MoveFault) → answer ≡ refusal Overflow (fast_axis dt acc b.body) → answer ≡ Err fault → kick_fault u b ≡ Some (Numeric (record { id = b.body.id; what = what_of fault }))
  too_fast answer fault is err = rw (sym fast_is) (some_axis b.body.id (fast_axis dt acc b.body) fault (sym is ∙ err))

-- ---- the first that is given

pub first_given-drop : {X Y : Type 0} (f : X → Option Y) (xs : List X) (k : ℕ) (x : X) → k < length xs → x ≡ get_or xs k x → first_given f (drop k xs) ≡ first_some (f x) (first_given f (drop (k + 1) xs))
first_given-drop f xs k x within here = rw (add-one, drop-cons xs k x within, ← here) refl

pub map-take : {X Y : Type 0} (f : X → Y) (xs : List X) (k : ℕ) (x : X) → k < length xs → x ≡ get_or xs k x → map f (take (k + 1) xs) ≡ map f (take k xs) ++ f x ∷ []
map-take f xs k x within here = rw (add-one, take-suc xs k x within, ← here) (map-append f (take k xs) (x ∷ []))

-- ---- a list that is changed in place, element by element

set_next : {X : Type 0} (f : X → X) (xs : List X) (k : ℕ) (x y : X) → k < length xs → x ≡ get_or (map f (take k xs) ++ drop k xs) k x → y ≡ f x → set (map f (take k xs) ++ drop k xs) k y ≡ map f (take (suc k) xs) ++ drop (suc k) xs
set_next f [] k x y within here is = absurd (omega arith)
set_next f (v ∷ vs) zero x y within here is = rw (is, here) refl
set_next f (v ∷ vs) (suc k) x y within here is = ap (λ rest. f v ∷ rest) (set_next f vs k x y (omega arith) here is)

next_is : {X : Type 0} (f : X → X) (xs : List X) (k : ℕ) (x : X) → k < length xs → x ≡ get_or (map f (take k xs) ++ drop k xs) k x → x ≡ get_or xs k x
next_is f [] k x within here = absurd (omega arith)
next_is f (v ∷ vs) zero x within here = here
next_is f (v ∷ vs) (suc k) x within here = next_is f vs k x (omega arith) here

module _ {X : Type 0} (f : X → X) (xs ys : List X) (k : ℕ) (x : X) (within : k < length xs) (so_far : ys ≡ map f (take k xs) ++ drop k xs) (here : x ≡ get_or ys k x) where
  here_before : x ≡ get_or (map f (take k xs) ++ drop k xs) k x
  here_before = here ∙ ap (λ (zs : List X). get_or zs k x) so_far

  -- the element is still that of the list before
  pub unchanged : x ≡ get_or xs k x
  unchanged = next_is f xs k x within here_before

  pub set_more : (y : X) → y ≡ f (get_or ys k x) → set ys k y ≡ map f (take (k + 1) xs) ++ drop (k + 1) xs
  set_more y is = rw (add-one, so_far) (set_next f xs k x y within here_before (is ∙ ap f (sym here)))

  pub none_more : {Y : Type 0} (g : X → Option Y) → g (get_or ys k x) ≡ None → first_given g (drop (k + 1) xs) ≡ first_given g (drop k xs)
  none_more g none = sym (first_given-drop g xs k x within (next_is f xs k x within here_before) ∙ ap (λ o. first_some o (first_given g (drop (k + 1) xs))) (ap g here ∙ none))

-- ---- faults

-- the fault of this particle
fault_named : What → Particle → Fault
fault_named what p = record { id = p.id; what = what }

pub named_as : (q p : Particle) (what : What) (fault : Fault) → q ≡ p → fault ≡ record { id = q.id; what = what } → record { id = p.id; what = what } ≡ fault
unfolding fault_named
named_as q p what fault same is = ap (fault_named what) (sym same) ∙ sym is

-- a particle with its forces, read part by part
pub same_forced : (body : Particle) (forces row : List ℤ) (b : WithForces) → row ≡ forces → record { body = body; forces = forces } ≡ b → record { body = body; forces = row } ≡ b
same_forced body forces row b same is = rw same is
