-- Particles keep their limits where no step has a fault.
use Rattle.std.proofs.Common.{◌≡◌, ℕ, ℤ, pos, negsuc, zero, suc, ◌<◌, ◌^◌, Bool, true, false, List, [], ◌∷◌, map, Option, Some, None, refl, subst, arith}
use Rattle.std.specs.Prelude.{option_and_then, if◌then◌else◌}
use Rattle.std.specs.List.{All}
use Rattle.std.proofs.lemmas.Bool.Decides.{nat_tests}
use Rattle.std.proofs.lemmas.List.Elements.{All-nil, All-cons, All-head, All-tail}
use Rattle.pf_geom.specs.declared.axis.Axis.TheVariants.{X, Y, Z}
use Rattle.pf_geom.specs.declared.edge.Edge.{Edge}
use Rattle.pf_geom.specs.declared.edge.Edge.TheVariants.{Open, Periodic}
use Rattle.pf_model.specs.Particle.{Particle, IsParticle, IsVelocity}
use Rattle.order_laws.specs.Order.{first_some}
use Rattle.run_model.specs.Setup.{Setup}
use Rattle.run_model.specs.Leapfrog.{Triple, first_axis, is_fast, kicked_velocity, fast_axis, after_kick, is_escape, drift_target, escape_axis, coordinate_at, after_drift}
use Rattle.run_model.specs.Force.{first_given}
use Rattle.pf_model.specs.Particles.{by_id}
use Rattle.order_laws.specs.Order.{placed, in_order_once}
use Rattle.run_model.specs.Force.{acceleration}
use Rattle.std.specs.Option.{option_map}
use Rattle.std.proofs.lemmas.Bool.{cond_both}
use Rattle.run_model.specs.RunLaws.{StaysWithinLimits}
use Rattle.run_model.proofs.ParticleLemmas.{same_unless}
use Rattle.run_model.specs.Run.{WithForces, State, Stop, with_forces, kicked_body, moved_body, kicked_again, kick_fault, drift_fault, move_fault, lists_fault, forces_fault, is_build, built_at, moved, fault_at_start, state_at_start, fault_after, state_after, unless_stopped, state}

-- ---- faults that aren't there

pub none_first : {X : Type 0} (o p : Option X) → first_some o p ≡ None → o ≡ None
none_first None p e = refl
none_first (Some x) p e = cc

pub none_second : {X : Type 0} (o p : Option X) → first_some o p ≡ None → p ≡ None
none_second None p e = e
none_second (Some x) p e = cc

pub none_given : {X Y : Type 0} (f : X → Option Y) (xs : List X) → first_given f xs ≡ None → All (λ x. f x ≡ None) xs
none_given f [] e = All-nil (λ x. f x ≡ None)
none_given f (x ∷ xs) e = All-cons (λ x. f x ≡ None) x xs (none_first (f x) (first_given f xs) e) (none_given f xs (none_second (f x) (first_given f xs) e))

-- ---- axes

pub no_axis : (test : ℤ → Bool) (v : Triple) → first_axis test v ≡ None → (test v.x ≡ false) × (test v.y ≡ false) × (test v.z ≡ false)
no_axis test v = axes (test v.x) (test v.y) (test v.z)
  where
    axes : (x y z : Bool) → (if x then Some X else if y then Some Y else if z then Some Z else None) ≡ None → (x ≡ false) × (y ≡ false) × (z ≡ false)
    axes false false false e = (refl, refl, refl)
    axes true y z e = cc
    axes false true z e = cc
    axes false false true e = cc

slow : (v : ℤ) → is_fast v ≡ false → IsVelocity v
slow v e = grind (arith, nat_tests)

pub after_kick-limits : (dt : ℕ) (a : List ℤ) (p : Particle) → IsParticle p → fast_axis dt a p ≡ None → IsParticle (after_kick dt a p)
after_kick-limits dt a p h e =
    let v = kicked_velocity dt a p.vel in
    let none = no_axis is_fast v e in
    record {
      named = h.named;
      in_cube = h.in_cube;
      three = refl;
      eight = h.eight;
      limits = record {
        slow = All-cons IsVelocity v.x (v.y ∷ v.z ∷ []) (slow v.x none.0) (All-cons IsVelocity v.y (v.z ∷ []) (slow v.y none.1) (All-cons IsVelocity v.z [] (slow v.z none.2) (All-nil IsVelocity)));
        heavy = h.limits.heavy;
        small = h.limits.small;
      };
    }

in_cube : (edge : Edge) (z : ℤ) → is_escape edge z ≡ false → coordinate_at edge z < 2 ^ 30
unfolding is_escape coordinate_at
in_cube Open (pos n) e = grind (arith, nat_tests)
in_cube Open (negsuc n) e = cc
in_cube Periodic (pos n) e = omega arith
in_cube Periodic (negsuc n) e = omega arith

pub after_drift-limits : (edge : Edge) (dt : ℕ) (p : Particle) → IsParticle p → escape_axis edge dt p ≡ None → IsParticle (after_drift edge dt p)
after_drift-limits edge dt p h e =
    let t = drift_target dt p.vel p.at in
    let none = no_axis (is_escape edge) t e in
    record {
      named = h.named;
      in_cube = record { x_fits = in_cube edge t.x none.0; y_fits = in_cube edge t.y none.1; z_fits = in_cube edge t.z none.2 };
      three = h.three;
      eight = h.eight;
      limits = h.limits;
    }

-- ---- one particle of a step

no_value : {X Y : Type 0} (f : X → Y) (o : Option X) → option_map f o ≡ None → o ≡ None
no_value f None e = refl
no_value f (Some x) e = cc

kicked_one : (u : Setup) (b : WithForces) → IsParticle b.body → kick_fault u b ≡ None → IsParticle (kicked_body u b)
kicked_one u b h e = after_kick-limits u.dt (acceleration u.kernel b.forces) b.body h (no_value _ (fast_axis u.dt (acceleration u.kernel b.forces) b.body) e)

moved_one : (u : Setup) (b : WithForces) → IsParticle b.body → move_fault u b ≡ None → IsParticle (moved_body u b)
moved_one u b h e =
    let kicked = kicked_one u b h (none_first (kick_fault u b) (drift_fault u b) e) in
    let drifts = none_second (kick_fault u b) (drift_fault u b) e in
    after_drift-limits u.theta.edge u.dt (kicked_body u b) kicked (no_value _ (escape_axis u.theta.edge u.dt (kicked_body u b)) drifts)

-- ---- all particles of a step

abbrev pub AreParticles : List WithForces → Type 0
AreParticles bs = All (λ (b : WithForces). IsParticle b.body) bs

pub moved-limits : (u : Setup) (bs : List WithForces) → AreParticles bs → All (λ b. move_fault u b ≡ None) bs → All IsParticle (map (moved_body u) bs)
moved-limits u [] h none = All-nil IsParticle
moved-limits u (b ∷ bs) h none =
    let P : WithForces → Type 0 = λ c. IsParticle c.body in
    let N : WithForces → Type 0 = λ c. move_fault u c ≡ None in
    All-cons IsParticle (moved_body u b) (map (moved_body u) bs) (moved_one u b (All-head P b bs h) (All-head N b bs none)) (moved-limits u bs (All-tail P b bs h) (All-tail N b bs none))

kicked_again-limits : (u : Setup) (bs : List WithForces) → AreParticles bs → All (λ b. kick_fault u b ≡ None) bs → AreParticles (map (kicked_again u) bs)
kicked_again-limits u [] h none = All-nil (λ (b : WithForces). IsParticle b.body)
kicked_again-limits u (b ∷ bs) h none =
    let P : WithForces → Type 0 = λ c. IsParticle c.body in
    let N : WithForces → Type 0 = λ c. kick_fault u c ≡ None in
    All-cons P (kicked_again u b) (map (kicked_again u) bs) (kicked_one u b (All-head P b bs h) (All-head N b bs none)) (kicked_again-limits u bs (All-tail P b bs h) (All-tail N b bs none))

forced-limits : (f : Particle → List ℤ) (js : List Particle) → All IsParticle js → AreParticles (map (λ i. record { body = i; forces = f i }) js)
forced-limits f [] h = All-nil (λ (b : WithForces). IsParticle b.body)
forced-limits f (j ∷ js) h =
    All-cons (λ (b : WithForces). IsParticle b.body) (record { body = j; forces = f j }) _ (All-head IsParticle j js h) (forced-limits f js (All-tail IsParticle j js h))

pub with_forces-limits : (u : Setup) (built now : List Particle) → All IsParticle now → AreParticles (with_forces u built now)
with_forces-limits u built now h = forced-limits _ now h

All-placed : {X : Type 0} (P : X → Type 0) (before : X → X → Bool) (x : X) (ys : List X) → P x → All P ys → All P (placed before x ys)
All-placed P before x [] p h = All-cons P x [] p h
All-placed P before x (y ∷ ys) p h =
    cond_both (before x y) _ _ (All P) (λ _. All-cons P x (y ∷ ys) p h) (λ _.
    cond_both (before y x) _ _ (All P) (λ _. All-cons P y (placed before x ys) (All-head P y ys h) (All-placed P before x ys p (All-tail P y ys h))) (λ _. h))

pub All-in_order : {X : Type 0} (P : X → Type 0) (before : X → X → Bool) (xs : List X) → All P xs → All P (in_order_once before xs)
All-in_order P before [] h = h
All-in_order P before (x ∷ xs) h = All-placed P before x (in_order_once before xs) (All-head P x xs h) (All-in_order P before xs (All-tail P x xs h))

-- ---- all steps

not_stopped : {X : Type 0} (o : Option Stop) (x y : X) → unless_stopped o x ≡ Some y → o ≡ None
not_stopped None x y e = refl
not_stopped (Some stop) x y e = cc

kept_where_sound : {X : Type 0} (P : X → Type 0) (f : X → Option Stop) (g : X → X) (o : Option X) (y : X) → ((x : X) → o ≡ Some x → P x) → ((x : X) → f x ≡ None → P x → P (g x)) → option_and_then (λ x. unless_stopped (f x) (g x)) o ≡ Some y → P y
kept_where_sound P f g None y before step e = cc
kept_where_sound P f g (Some x) y before step e =
    subst P (same_unless (f x) (g x) y e) (step x (not_stopped (f x) (g x) y e) (before x refl))

step_keeps : (u : Setup) (s : ℕ) (before : State) → fault_after u s before ≡ None → StaysWithinLimits before → StaysWithinLimits (state_after u s before)
step_keeps u s before none h =
    let built = built_at u s before in
    let moves = first_given (move_fault u) before.bodies in
    let lists = if is_build u s then lists_fault u built else None in
    let forces = first_given (forces_fault u built (moved u before)) (moved u before) in
    let kicks = first_given (kick_fault u) (with_forces u built (moved u before)) in
    let no_kicks = none_second forces kicks (none_second lists (first_some forces kicks) (none_second moves (first_some lists (first_some forces kicks)) none)) in
    let here = moved-limits u before.bodies h.bodies (none_given (move_fault u) before.bodies (none_first moves _ none)) in
    record {
      bodies = kicked_again-limits u (with_forces u built (moved u before)) (with_forces-limits u built (moved u before) here) (none_given (kick_fault u) (with_forces u built (moved u before)) no_kicks);
      built = cond_both (is_build u s) (moved u before) before.built (All IsParticle) (λ _. here) (λ _. h.built);
    }

pub states_keep_limits : (u : Setup) (s : ℕ) (now : State) → All IsParticle u.particles → state u s ≡ Some now → StaysWithinLimits now
unfolding state
states_keep_limits u zero now h e =
    let read = All-in_order IsParticle _ u.particles h in
    subst StaysWithinLimits (same_unless (fault_at_start u) (state_at_start u) now e) (record { bodies = with_forces-limits u (by_id u.particles) (by_id u.particles) read; built = read })
states_keep_limits u (suc s) now h e =
    kept_where_sound StaysWithinLimits (fault_after u (suc s)) (state_after u (suc s)) (state u s) now (λ before f. states_keep_limits u s before h f) (step_keeps u (suc s)) e
