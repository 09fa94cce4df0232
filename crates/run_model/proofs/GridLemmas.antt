-- For groups of one particle, the grid changes owners alone.
use Rattle.std.proofs.Common.{◌≡◌, ℕ, zero, suc, ◌^◌, Bool, false, List, [], ◌∷◌, map, Option, Some, None, nat_eq, nat_lt, inl, inr, refl, sym, ◌∙◌, ap, subst}
use Rattle.std.specs.Prelude.{option_and_then, unwrap_or, find, is_some, if◌then◌else◌}
use Rattle.std.specs.List.{All}
use Rattle.std.specs.Option.{option_map}
use Rattle.std.proofs.lemmas.Bool.{cond_both, eqb-false}
use Rattle.pf_geom.specs.Bounds.{Bounds}
use Rattle.pf_model.specs.Particle.{Particle, IsParticle}
use Rattle.pf_model.specs.Particles.{by_id}
use Rattle.pf_model.specs.Division.{Division, IsDivision}
use Rattle.order_laws.specs.Order.{first_some, least_below}
use Rattle.pf_model.specs.Reuse.{as_in, kept_list}
use Rattle.run_model.specs.Setup.{Setup}
use Rattle.run_model.specs.Force.{first_given, force_row, force_fault}
use Rattle.run_model.specs.Run.{WithForces, State, Stop, Lists, list_for, with_forces, moved, kicked_again, kick_fault, move_fault, lists_fault, forces_fault, numeric, is_build, built_at, fault_at_start, state_at_start, fault_after, state_after, unless_stopped, state, first_fault}
use Rattle.run_model.specs.Text.{body_row}
use Rattle.run_model.specs.RunLaws.{HasAll, StaysWithinLimits, on_grid, but_for_owner, IsSameButForOwners}
use Rattle.run_model.proofs.OnceEach.{In, map_in, map_same}
use Rattle.run_model.proofs.PlaceLemmas.{PlaceLaws, AreInCube, same_count, box_with}
use Rattle.run_model.proofs.ParticleLemmas.{moved_ids, states_keep}
use Rattle.run_model.proofs.LimitLemmas.{none_given, none_first, moved-limits, All-in_order, states_keep_limits}

-- ---- options and lists

first_given-same : {X Y : Type 0} (f g : X → Option Y) (xs : List X) → ((x : X) → In x xs → f x ≡ g x) → first_given f xs ≡ first_given g xs
first_given-same f g [] same = refl
first_given-same f g (x ∷ xs) same = let head = same x (inl refl) in let rest = first_given-same f g xs (λ z h. same z (inr h)) in cc

first_some-same : {X : Type 0} (o p q : Option X) → (o ≡ None → p ≡ q) → first_some o p ≡ first_some o q
first_some-same None p q h = h refl
first_some-same (Some x) p q h = refl

unless_same : {X : Type 0} (o p : Option Stop) (x y : X) → o ≡ p → (o ≡ None → x ≡ y) → unless_stopped o x ≡ unless_stopped p y
unless_same None None x y e h = ap Some (h refl)
unless_same None (Some stop) x y e h = cc
unless_same (Some stop) None x y e h = cc
unless_same (Some stop) (Some other) x y e h = refl

and_then-same : {X Y : Type 0} (f g : X → Option Y) (o : Option X) → ((x : X) → o ≡ Some x → f x ≡ g x) → option_and_then f o ≡ option_and_then g o
and_then-same f g None same = refl
and_then-same f g (Some x) same = same x refl

least_below-same : (f g : ℕ → Bool) (n : ℕ) → ((k : ℕ) → f k ≡ g k) → least_below f n ≡ least_below g n
unfolding least_below
least_below-same f g zero same = refl
least_below-same f g (suc n) same = let here = same n in let rest = least_below-same f g n same in cc

-- ---- a particle as it was at the build

pub as_in-in : (built : List Particle) (i : Particle) → In i.id (map (λ (p : Particle). p.id) built) → In (as_in built i) built
as_in-in [] i h = absurd h
as_in-in (b ∷ bs) i h =
    cond_both (nat_eq i.id b.id) (Some b) (find (λ (c : Particle). nat_eq i.id c.id) bs) (λ (o : Option Particle). In (unwrap_or o i) (b ∷ bs)) (λ _. inl refl)
    (λ apart. inr (as_in-in bs i (later h apart)))
  where
    later : In i.id (b.id ∷ map (λ (p : Particle). p.id) bs) → nat_eq i.id b.id ≡ false → In i.id (map (λ (p : Particle). p.id) bs)
    later (inl e) apart = absurd (eqb-false i.id b.id apart (sym e))
    later (inr k) apart = k

in_cube : (js : List Particle) → All IsParticle js → AreInCube js
in_cube js h = λ k d below. (h k d below).in_cube

-- ---- one step on two grids

-- a run with groups of one particle
abbrev pub in_ones : Setup → Setup
in_ones u = record u { group = 1 }

module _ (laws : PlaceLaws) (u : Setup) (g : Division) (of_u : IsDivision u.grid) (of_g : IsDivision g) where
  list_for-same : (built now : List Particle) (i : Particle) → AreInCube built → In i.id (map (λ (p : Particle). p.id) built) → list_for (in_ones u) built now i ≡ list_for (on_grid (in_ones u) g) built now i
  list_for-same built now i h k =
      let b = as_in built i in
      let inside = as_in-in built i k in
      ap (λ (box : Bounds). kept_list u.theta box built now) (box_with laws u.grid built b h inside ∙ sym (box_with laws g built b h inside))

  in_ids : (built now : List Particle) → map (λ (p : Particle). p.id) now ≡ map (λ (p : Particle). p.id) built → (i : Particle) → In i now → In i.id (map (λ (p : Particle). p.id) built)
  in_ids built now e i h = subst (In i.id) e (map_in (λ (p : Particle). p.id) now i h)

  with_forces-same : (built now : List Particle) → AreInCube built → map (λ (p : Particle). p.id) now ≡ map (λ (p : Particle). p.id) built → with_forces (in_ones u) built now ≡ with_forces (on_grid (in_ones u) g) built now
  with_forces-same built now h e =
      map_same _ _ now (λ i k. ap (λ entries. record { body = i; forces = force_row u.theta.edge u.kernel entries i }) (list_for-same built now i h (in_ids built now e i k)))

  forces_fault-same : (built now : List Particle) → AreInCube built → map (λ (p : Particle). p.id) now ≡ map (λ (p : Particle). p.id) built → first_given (forces_fault (in_ones u) built now) now ≡ first_given (forces_fault (on_grid (in_ones u) g) built now) now
  forces_fault-same built now h e =
      first_given-same (forces_fault (in_ones u) built now) (forces_fault (on_grid (in_ones u) g) built now) now
      (λ i k. ap (λ entries. option_map (numeric i.id) (force_fault u.theta.edge u.kernel entries i)) (list_for-same built now i h (in_ids built now e i k)))

  lists_fault-same : (built : List Particle) → AreInCube built → lists_fault (in_ones u) built ≡ lists_fault (on_grid (in_ones u) g) built
  lists_fault-same built h =
      ap (λ (n : ℕ). if nat_lt (2 ^ 24) n then Some (Lists n) else None) (same_count laws u.theta u.grid g built of_u of_g h)

  rest-same : (s : ℕ) (built now : List Particle) → AreInCube built → map (λ (p : Particle). p.id) now ≡ map (λ (p : Particle). p.id) built → (b : Bool) →
      first_some (if b then lists_fault (in_ones u) built else None) (first_some (first_given (forces_fault (in_ones u) built now) now) (first_given (kick_fault (in_ones u)) (with_forces (in_ones u) built now)))
      ≡ first_some (if b then lists_fault (on_grid (in_ones u) g) built else None) (first_some (first_given (forces_fault (on_grid (in_ones u) g) built now) now) (first_given (kick_fault (in_ones u)) (with_forces (on_grid (in_ones u) g) built now)))
  rest-same s built now h e b =
      let lists = lists_fault-same built h in
      let forces = forces_fault-same built now h e in
      let kicks = with_forces-same built now h e in
      rw (lists, forces, kicks) refl

  -- the particles of the build at this step, where no move has a fault
  no_move : State → Type 0
  no_move before = first_given (move_fault (in_ones u)) before.bodies ≡ None

  built_in_cube : (s : ℕ) (before : State) → StaysWithinLimits before → no_move before → AreInCube (built_at (in_ones u) s before)
  unfolding no_move
  built_in_cube s before h none =
      let here = moved-limits (in_ones u) before.bodies h.bodies (none_given (move_fault (in_ones u)) before.bodies none) in
      in_cube _ (cond_both (is_build (in_ones u) s) (moved (in_ones u) before) before.built (All IsParticle) (λ _. here) (λ _. h.built))

  ids_stay : (s : ℕ) (before : State) → HasAll (in_ones u) before → map (λ (p : Particle). p.id) (moved (in_ones u) before) ≡ map (λ (p : Particle). p.id) (built_at (in_ones u) s before)
  ids_stay s before h =
      cond_both (is_build (in_ones u) s) (moved (in_ones u) before) before.built (λ (js : List Particle). map (λ (p : Particle). p.id) (moved (in_ones u) before) ≡ map (λ (p : Particle). p.id) js) (λ _. refl)
      (λ _. moved_ids (in_ones u) before.bodies ∙ h.bodies ∙ sym h.built)

  fault_after-same : (s : ℕ) (before : State) → HasAll (in_ones u) before → StaysWithinLimits before → fault_after (in_ones u) s before ≡ fault_after (on_grid (in_ones u) g) s before
  unfolding no_move
  fault_after-same s before all h =
      first_some-same (first_given (move_fault (in_ones u)) before.bodies) _ _
      (λ none. rest-same s (built_at (in_ones u) s before) (moved (in_ones u) before) (built_in_cube s before h none) (ids_stay s before all) (is_build (in_ones u) s))

  state_after-same : (s : ℕ) (before : State) → HasAll (in_ones u) before → StaysWithinLimits before → fault_after (in_ones u) s before ≡ None → state_after (in_ones u) s before ≡ state_after (on_grid (in_ones u) g) s before
  unfolding no_move
  state_after-same s before all h none =
      ap (λ (bs : List WithForces). record { bodies = map (kicked_again (in_ones u)) bs; built = built_at (in_ones u) s before })
      (with_forces-same (built_at (in_ones u) s before) (moved (in_ones u) before) (built_in_cube s before h (none_first _ _ none)) (ids_stay s before all))

  -- ---- all steps

  read_in_cube : All IsParticle u.particles → AreInCube (by_id u.particles)
  read_in_cube h = in_cube (by_id u.particles) (All-in_order IsParticle _ u.particles h)

  start_faults-same : All IsParticle u.particles → fault_at_start (in_ones u) ≡ fault_at_start (on_grid (in_ones u) g)
  start_faults-same h =
      let read = by_id u.particles in
      let lists = lists_fault-same read (read_in_cube h) in
      let forces = forces_fault-same read read (read_in_cube h) refl in
      rw (lists, forces) refl

  start_states-same : All IsParticle u.particles → state_at_start (in_ones u) ≡ state_at_start (on_grid (in_ones u) g)
  start_states-same h =
      let read = by_id u.particles in
      ap (λ (bs : List WithForces). record { bodies = bs; built = read }) (with_forces-same read read (read_in_cube h) refl)

  states-same : All IsParticle u.particles → (s : ℕ) → state (in_ones u) s ≡ state (on_grid (in_ones u) g) s
  unfolding state
  states-same h zero = unless_same (fault_at_start (in_ones u)) _ _ _ (start_faults-same h) (λ _. start_states-same h)
  states-same h (suc s) =
      and_then-same (λ before. unless_stopped (fault_after (in_ones u) (suc s) before) (state_after (in_ones u) (suc s) before))
      (λ before. unless_stopped (fault_after (on_grid (in_ones u) g) (suc s) before) (state_after (on_grid (in_ones u) g) (suc s) before))
      (state (in_ones u) s)
      (λ before e. (let all = states_keep (in_ones u) s before e in
      let limits = states_keep_limits (in_ones u) s before h e in
      unless_same (fault_after (in_ones u) (suc s) before) _ _ _ (fault_after-same (suc s) before all limits) (state_after-same (suc s) before all limits)))
      ∙ ap (option_and_then (λ before. unless_stopped (fault_after (on_grid (in_ones u) g) (suc s) before) (state_after (on_grid (in_ones u) g) (suc s) before))) (states-same h s)

  faults-same : All IsParticle u.particles → (s : ℕ) → first_fault (in_ones u) s ≡ first_fault (on_grid (in_ones u) g) s
  unfolding first_fault
  faults-same h zero = start_faults-same h
  faults-same h (suc s) =
      and_then-same (fault_after (in_ones u) (suc s)) (fault_after (on_grid (in_ones u) g) (suc s)) (state (in_ones u) s)
      (λ before e. fault_after-same (suc s) before (states_keep (in_ones u) s before e) (states_keep_limits (in_ones u) s before h e))
      ∙ ap (option_and_then (fault_after (on_grid (in_ones u) g) (suc s))) (states-same h s)

  lines-same : (built : List Particle) (bs : List WithForces) → map but_for_owner (map (body_row (in_ones u) built) bs) ≡ map but_for_owner (map (body_row (on_grid (in_ones u) g) built) bs)
  unfolding body_row
  lines-same built [] = refl
  lines-same built (b ∷ bs) = ap (λ rest. but_for_owner (body_row (in_ones u) built b) ∷ rest) (lines-same built bs)

  pub in_ones-same : All IsParticle u.particles → IsSameButForOwners (in_ones u) (on_grid (in_ones u) g)
  in_ones-same h = record {
    states = states-same h;
    faults = faults-same h;
    ends = least_below-same _ _ (suc u.steps) (λ s. ap is_some (faults-same h s));
    lines = λ s now. lines-same now.built now.bodies;
  }

pub grids_change_owners : PlaceLaws → (u : Setup) (g : Division) → IsDivision u.grid → IsDivision g → u.group ≡ 1 → All IsParticle u.particles → IsSameButForOwners u (on_grid u g)
grids_change_owners laws u g of_u of_g one h =
    subst (λ (n : ℕ). IsSameButForOwners (record u { group = n }) (record u { group = n; grid = g })) (sym one) (in_ones-same laws u g of_u of_g h)
