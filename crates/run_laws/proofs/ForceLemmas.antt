-- The forces of a thin run.
use Rattle.std.proofs.Common.{◌≡◌, ℕ, suc, ◌+◌, ◌*◌, ◌/◌, ◌<◌, ◌≤◌, ◌^◌, ℤ, pos, negsuc, ◌-ℤ◌, ◌+ℤ◌, unsigned_abs, Bool, true, false, not, List, [], ◌∷◌, ◌++◌, length, map, sum_by, Option, Some, None, Ok, nat_eq, eqb-true, refl, sym, ap, subst, ◌∙◌, arith}
use Rattle.std.specs.Prelude.{codes, slice_index_or, if◌then◌else◌}
use Rattle.std.specs.List.{All, Contains, filter, filter_map, flat_map, zip, enumerate_from, list_all}
use Rattle.std.proofs.Math.Nat.{mul-div_cancel_left}
use Rattle.std.proofs.lemmas.Bool.Decides.{nat_tests}
use Rattle.std.proofs.lemmas.Int.{ints}
use Rattle.std.proofs.lemmas.List.Elements.{All-head, All-tail, All-contains}
use Rattle.std.proofs.lemmas.List.Sums.{sum_by-cons}
use Rattle.pf_geom.specs.declared.edge.Edge.TheVariants.{Open}
use Rattle.pf_geom.specs.Position.{Position, IsPosition}
use Rattle.pf_model.specs.declared.entry.Entry.TheVariants.{One}
use Rattle.order_laws.specs.Order.{first_some}
use Rattle.pf_model.specs.Particle.{Particle, IsParticle}
use Rattle.model_laws.specs.ParticleLaws.{ParticlesOfOneIdAreOne}
use Rattle.pf_model.specs.Interaction.{entry_source}
use Rattle.pf_model.specs.Sums.{int_sum_by, moment_of}
use Rattle.pf_num.specs.Exact.{is_i64}
use Rattle.kern_tree.specs.declared.kernel.Combine.TheVariants.{Sum}
use Rattle.kern_tree.specs.declared.kernel.Kernel.{Kernel}
use Rattle.kern_tree.specs.declared.kernel.Kind.TheVariants.{Vec3}
use Rattle.kern_tree.specs.declared.stmt.Act.TheVariants as acts
use Rattle.kern_tree.specs.declared.stmt.Act.TheFolds.{fold-Act, fold-roll-Act}
use Rattle.kern_tree.specs.declared.stmt.Act.TheOpen as act_layers
use Rattle.kern_types.specs.declared.force_var.ForceVar.{ForceVar}
use Rattle.kern_types.specs.Declarations.{forces_of}
use Rattle.kern_meaning.specs.declared.value.Value.{Value}
use Rattle.kern_meaning.specs.declared.value.Value.TheVariants as values
use Rattle.kern_meaning.specs.Pair.{OrPairStop, act_targets, stmt_targets, targets_in, given_to}
use Rattle.kern_meaning.specs.Values.{components}
use Rattle.run_model.specs.declared.fault.What.{What}
use Rattle.run_model.specs.declared.fault.What.TheVariants as what
use Rattle.run_model.specs.Force.{first_given, pair_fault, pairs_of, pair_with, contributions, combined, axes_of, force_over, sum_fault, force_row, force_fault}
use Rattle.run_laws.specs.PullKernel.{IsPullKernel, DifferInName, away}
use Rattle.run_laws.specs.ThinForces.{total, pulled, PullsAddUp}
use Rattle.run_laws.proofs.PullLemmas.{gives_distance, same_name, other_name}

abbrev APair : Type 0
APair = OrPairStop (List (Option Value))

one_sum : (f : Particle → ℕ) (j : Particle) → sum_by f (j ∷ []) ≡ f j
one_sum f j = sum_by-cons f j [] ∙ (let e : f j + 0 ≡ f j = omega arith in e)

-- the item of one particle lies where it lies
item_place : (j : Particle) → 1 ≤ j.mass → (entry_source (One j)).at ≡ j.at
unfolding moment_of
item_place j some =
    let heavy : 0 < j.mass = omega arith in
    let mass = one_sum (λ (p : Particle). p.mass) j in
    let x = (λ n. one_sum (λ (p : Particle). p.mass * p.at.x) j n / mass n) ∙ mul-div_cancel_left j.at.x heavy in
    let y = (λ n. one_sum (λ (p : Particle). p.mass * p.at.y) j n / mass n) ∙ mul-div_cancel_left j.at.y heavy in
    let z = (λ n. one_sum (λ (p : Particle). p.mass * p.at.z) j n / mass n) ∙ mul-div_cancel_left j.at.z heavy in
    λ n. record { x = x n; y = y n; z = z n }

fits_well : (z : ℤ) → unsigned_abs z ≤ 2 ^ 62 → is_i64 z ≡ true
fits_well (pos n) h = grind (arith, nat_tests, h)
fits_well (negsuc n) h = grind (arith, nat_tests, h)

all_fit : (x y z : ℤ) → is_i64 x ≡ true → is_i64 y ≡ true → is_i64 z ≡ true → list_all is_i64 (x ∷ y ∷ z ∷ []) ≡ true
all_fit x y z a b c = rw (a, b, c) refl

module _ (i : Particle) where
  -- what is known of each particle: where one has the id of i it lies there
  abbrev Known : List Particle → Type 0
  Known [] = Unit {0}
  Known (j ∷ js) = (IsPosition j.at × (1 ≤ j.mass) × (nat_eq j.id i.id ≡ true → j.at ≡ i.at)) × Known js

  known : (js : List Particle) → All IsParticle js → ((j : Particle) → Contains js j → j.id ≡ i.id → j ≡ i) → Known js
  known [] all one = tt
  known (j ∷ js) all one =
      let own = All-head IsParticle j js all in (
        (own.in_cube, own.limits.heavy.positive, λ e. ap (λ (p : Particle). p.at) (one j (0, (omega arith), refl) (eqb-true j.id i.id e))),
        known js (All-tail IsParticle j js all) (λ k h e. one k (suc h.0, (let within : h.0 < length js = h.1 in omega arith), h.2) e),
      )

  abbrev others : List Particle → List Particle
  others js = filter (λ j. not (nat_eq j.id i.id)) js

  abbrev vec : Particle → Value
  vec j = values.Vec3 (away i.at j.at) 0

  abbrev pair_for : Particle → APair
  pair_for j = Ok (Some (vec j) ∷ [])

  no_pair_fault : (xs : List Particle) → first_given pair_fault (map pair_for xs) ≡ None
  no_pair_fault [] = refl
  no_pair_fault (x ∷ xs) = no_pair_fault xs

  -- ---- sums over the others

  module _ (along : Position → ℕ) (axis : ℕ) (is : (j : Particle) → slice_index_or (away i.at j.at) axis (pos 0) ≡ pos (along j.at) -ℤ pos (along i.at)) where
    over_others : List Particle → ℤ
    over_others js = int_sum_by (λ n. n) (map (λ value. slice_index_or (components value) axis (pos 0)) (map vec (others js)))

    sums_more : (j : Particle) (js : List Particle) (b : Bool) → nat_eq j.id i.id ≡ b → (nat_eq j.id i.id ≡ true → j.at ≡ i.at) → over_others js ≡ total along js i → over_others (j ∷ js) ≡ total along (j ∷ js) i
    unfolding over_others
    sums_more j js true e same more =
        let here : pos (along j.at) -ℤ pos (along i.at) ≡ pos 0 = ap (λ at. pos (along at) -ℤ pos (along i.at)) (same e) ∙ (omega (arith, ints)) in
        let none : (pos (along j.at) -ℤ pos (along i.at)) +ℤ total along js i ≡ total along js i = omega (arith, ints) in
        rw e (more ∙ sym none)
    sums_more j js false e same more = rw e (λ n. is j n +ℤ more n)

    sums_are : (js : List Particle) → Known js → over_others js ≡ total along js i
    unfolding over_others
    sums_are [] h = refl
    sums_are (j ∷ js) h = sums_more j js (nat_eq j.id i.id) refl h.0.2 (sums_are js h.1)

  small : (along : Position → ℕ) → ((p : Position) → IsPosition p → along p < 2 ^ 30) → IsPosition i.at → (js : List Particle) → Known js → unsigned_abs (total along js i) ≤ length js * 2 ^ 30
  small along axis here [] h = omega arith
  small along axis here (j ∷ js) h =
      let a = axis j.at h.0.0 in
      let b = axis i.at here in
      let rest = small along axis here js h.1 in
      omega (arith, ints)

abbrev Names : Type 0
Names = List (List ℕ)

module _ (k : Kernel) (taker giver pull : List ℕ) (h : IsPullKernel k taker giver pull) (apart : DifferInName taker giver pull) (i : Particle) (here : IsPosition i.at) where
  -- ---- the pairs

  pair_is : (j : Particle) → IsPosition j.at → 1 ≤ j.mass → pair_with Open k i (One j) ≡ pair_for i j
  pair_is j there some =
      let place = item_place j some in
      gives_distance k taker giver pull i (entry_source (One j)) h apart here (subst IsPosition (sym place) there)
      ∙ ap (λ at. Ok (Some (values.Vec3 (away i.at at) 0) ∷ [])) place

  pairs_more : (j : Particle) (js : List Particle) (b : Bool) → not (nat_eq j.id i.id) ≡ b → pair_with Open k i (One j) ≡ pair_for i j → pairs_of Open k (map One js) i ≡ map (pair_for i) (others i js)
      → pairs_of Open k (map One (j ∷ js)) i ≡ map (pair_for i) (others i (j ∷ js))
  unfolding pairs_of
  pairs_more j js true e one more = rw e (λ n. one n ∷ more n)
  pairs_more j js false e one more = rw e more

  pairs_are : (js : List Particle) → Known i js → pairs_of Open k (map One js) i ≡ map (pair_for i) (others i js)
  unfolding pairs_of
  pairs_are [] g = refl
  pairs_are (j ∷ js) g = pairs_more j js (not (nat_eq j.id i.id)) refl (pair_is j g.0.0 g.0.1) (pairs_are js g.1)

  -- ---- what they give

  targets_are : targets_in k.body ≡ pull ∷ []
  targets_are =
      ap targets_in h.body
      ∙ ap (λ (names : Names). names ++ []) (ap (fold-Act Names Names act_targets stmt_targets) h.gives ∙ ap (fold-Act Names Names act_targets stmt_targets) (sym (acts.rolls-Give pull h.value)) ∙ fold-roll-Act Names Names act_targets stmt_targets (act_layers.Give pull h.value))

  abbrev of_acc : ForceVar
  of_acc = record { name = codes "acc"; kind = Vec3; scale = 16; combine = Sum }

  abbrev of_pull : ForceVar
  of_pull = record { name = pull; kind = Vec3; scale = 0; combine = Sum }

  forces_are : forces_of k.decls ≡ of_acc ∷ of_pull ∷ []
  forces_are = rw h.decls refl

  acc_given : (j : Particle) → contributions k of_acc (pair_for i j) ≡ []
  acc_given j = ap (λ (names : Names). filter_map (given_to (codes "acc")) (zip names (Some (vec i j) ∷ []))) targets_are ∙ (rw (other_name pull (codes "acc") (λ e. apart.no_acc (sym e))) refl)

  pull_given : (j : Particle) → contributions k of_pull (pair_for i j) ≡ vec i j ∷ []
  pull_given j = ap (λ (names : Names). filter_map (given_to pull) (zip names (Some (vec i j) ∷ []))) targets_are ∙ (rw (same_name pull) refl)

  all_acc : (xs : List Particle) → flat_map (contributions k of_acc) (map (pair_for i) xs) ≡ []
  all_acc [] = refl
  all_acc (x ∷ xs) = λ n. acc_given x n ++ all_acc xs n

  all_pull : (xs : List Particle) → flat_map (contributions k of_pull) (map (pair_for i) xs) ≡ map (vec i) xs
  all_pull [] = refl
  all_pull (x ∷ xs) = λ n. pull_given x n ++ all_pull xs n

  -- ---- the forces

  abbrev by_values : List Value → List ℤ
  by_values given = map (λ axis. combined Sum (map (λ value. slice_index_or (components value) axis (pos 0)) given)) (axes_of Vec3)

  acc_force : (xs : List Particle) → force_over k (map (pair_for i) xs) of_acc ≡ pos 0 ∷ pos 0 ∷ pos 0 ∷ []
  acc_force xs = ap by_values (all_acc xs)

  pull_force : (js : List Particle) → Known i js → force_over k (map (pair_for i) (others i js)) of_pull ≡ total (λ p. p.x) js i ∷ total (λ p. p.y) js i ∷ total (λ p. p.z) js i ∷ []
  unfolding over_others
  pull_force js g =
      let x = sums_are i (λ p. p.x) 0 (λ j. refl) js g in
      let y = sums_are i (λ p. p.y) 1 (λ j. refl) js g in
      let z = sums_are i (λ p. p.z) 2 (λ j. refl) js g in
      ap by_values (all_pull (others i js)) ∙ (λ n. x n ∷ y n ∷ z n ∷ [])

  row_is : (js : List Particle) → Known i js → force_row Open k (map One js) i ≡ pulled js i
  unfolding force_row
  row_is js g =
      (λ n. flat_map (force_over k (pairs_are js g n)) (forces_are n))
      ∙ (λ n. acc_force (others i js) n ++ (pull_force js g n ++ []))

  abbrev fault_by : List ℤ → ℕ → Option What
  fault_by numbers n = if list_all is_i64 numbers then None else Some (what.Sum n)

  no_fault : (js : List Particle) → Known i js → length js ≤ 2 ^ 16 → force_fault Open k (map One js) i ≡ None
  unfolding force_fault
  no_fault js g few =
      let x = small i (λ p. p.x) (λ p a. a.x_fits) here js g in
      let y = small i (λ p. p.y) (λ p a. a.y_fits) here js g in
      let z = small i (λ p. p.z) (λ p a. a.z_fits) here js g in
      let fit = all_fit (total (λ p. p.x) js i) (total (λ p. p.y) js i) (total (λ p. p.z) js i) (fits_well (total (λ p. p.x) js i) (omega arith)) (fits_well (total (λ p. p.y) js i) (omega arith)) (fits_well (total (λ p. p.z) js i) (omega arith)) in
      let acc : sum_fault k (map (pair_for i) (others i js)) (1, of_acc) ≡ None = ap (λ numbers. fault_by numbers 1) (acc_force (others i js)) in
      let last : sum_fault k (map (pair_for i) (others i js)) (2, of_pull) ≡ None = ap (λ numbers. fault_by numbers 2) (pull_force js g) ∙ ap (λ b. if b then None else Some (what.Sum 2)) fit in
      (λ n. first_some (first_given pair_fault (pairs_are js g n)) (first_given (sum_fault k (pairs_are js g n)) (enumerate_from 1 (forces_are n))))
      ∙ (λ n. first_some (no_pair_fault i (others i js) n) (first_some (acc n) (first_some (last n) None)))

pub pulls_add_up : ParticlesOfOneIdAreOne → PullsAddUp
pulls_add_up law k taker giver pull js i h apart distinct all few inside =
    let own = All-contains IsParticle js i all inside in
    let g = known i js all (λ j there same. law js j i distinct there inside same) in
    (row_is k taker giver pull h apart i own.in_cube js g, no_fault k taker giver pull h apart i own.in_cube js g few)
