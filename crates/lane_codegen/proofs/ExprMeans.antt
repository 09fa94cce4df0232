-- The code of every expression gives its value in a lane, or faults where it has a fault.
use Rattle.std.proofs.Common.{◌≡◌, ℕ, ◌+◌, ◌<◌, ◌≤◌, List, [], ◌∷◌, length, Bool, true, false, ◌&&◌, ◌||◌, Some, None, Ok, Err, ℤ, refl, sym, ap, ◌∙◌, subst, arith}
use Rattle.std.specs.Prelude.{not}
use Rattle.std.proofs.lemmas.List.{get_or-set_same, get_or-set_other}
use Rattle.kern_tree.proofs.Layers.{number_layer, name_layer, part_layer, one_layer, two_layer, three_layer, to_layer}
use Rattle.kern_tree.specs.declared.expr.Expr.{Expr}
use Rattle.kern_tree.specs.declared.expr.Op2.{Op2}
use Rattle.kern_tree.specs.declared.expr.Op2.TheVariants as op2s
use Rattle.kern_tree.specs.declared.expr.Op3.{Op3}
use Rattle.kern_tree.specs.declared.kernel.Decl.{Decl}
use Rattle.kern_tree.specs.declared.kernel.Kind.TheVariants as kinds
use Rattle.kern_tree.specs.Limits as limits
use Rattle.kern_tree.specs.Limits.{IsLimited}
use Rattle.kern_types.specs.Names.{declaration}
use Rattle.kern_meaning.specs.declared.stop.Stop.TheVariants as stops
use Rattle.kern_meaning.specs.declared.value.Value.{Value}
use Rattle.kern_meaning.specs.declared.value.Value.TheVariants as values
use Rattle.kern_meaning.specs.Expressions.{form_meaning, value_of, value_of_form}
use Rattle.kern_meaning.specs.Names.{Known}
use Rattle.kern_meaning.specs.Operators.{and_value, one_value, or_value, part_value, three_value, to_value, truth, two_form, two_value}
use Rattle.kern_meaning.specs.Stops.{OrStop, ◌>>=◌}
use Rattle.lane_code.specs.declared.code.RawCode.{RawCode}
use Rattle.lane_code.specs.declared.instruction.Lane.{Lane}
use Rattle.lane_code.specs.declared.instruction.Lane.TheVariants as lanes
use Rattle.lane_code.specs.Steps.{LaneState, mask_at, number_at}
use Rattle.lane_codegen.specs.declared.place.Place.{Place}
use Rattle.lane_codegen.specs.declared.place.Place.TheVariants.{Scaled, Condition}
use Rattle.lane_codegen.specs.declared.variable.Assigned.{Assigned}
use Rattle.lane_codegen.specs.Expressions.{after, code_of, either_made, expr_maker, form_maker, one_made, part_made, right_made, three_made, to_made, two_made, with_right}
use Rattle.lane_codegen.specs.Writing.{Made, nothing_made, with_mask}
use Rattle.pf_model.specs.Particle.{Particle}
use Rattle.pf_model.specs.Totals.{Source}
use Rattle.lane_codegen.proofs.Evaluates.{Evaluates, mask_evaluates, value_at}
use Rattle.lane_codegen.proofs.ExprRuns.{Ready, Runs, bind_runs, fits_before, literal_runs, named_runs, ready_after, still_agrees}
use Rattle.lane_codegen.proofs.ExprSound.{expr_sound}
use Rattle.lane_codegen.proofs.Idle.{idle, kept, lane, lane_more, lane_none, stays_none}
use Rattle.lane_codegen.proofs.LaneSteps.{mask_written, with_truth}
use Rattle.lane_codegen.proofs.Operators.{Fits, one_runs, part_runs, three_runs, to_runs, two_runs}
use Rattle.lane_codegen.proofs.Runs.{Running, run_lengths}
use Rattle.lane_codegen.proofs.Sound.{AreHeld, Sound, Within, nothing_sound, one_made_sound, part_made_sound, still_held, still_within, three_made_sound, to_made_sound, two_made_sound, wider}
use Rattle.lane_codegen.proofs.Tidy.{Grows, Tidy, grows}
use Rattle.lane_codegen.proofs.Tidy as tidy

two_bind : (op : Op2) (left right : OrStop Value) → two_form op left right ≡ (left >>= (λ v. two_form op (Ok v) right))
two_bind op (Ok v) right = refl
two_bind op2s.And (Err stop) right = refl
two_bind op2s.Or (Err stop) right = refl
two_bind _ (Err stop) right = refl

-- a value stays where it is, while later code is written
value_kept : (base : ℕ) (w : RawCode) (place : Place) (t k : LaneState) → Within base w place → ((r : ℕ) → r < w.numbers → number_at k.numbers r ≡ number_at t.numbers r) → ((m : ℕ) → m < w.masks → mask_at k.masks m ≡ mask_at t.masks m) → value_at place k ≡ value_at place t
value_kept base w (Scaled kinds.Num scale at) t k h numbers masks = ap (λ x. values.Num x scale) (numbers at.x h.x)
value_kept base w (Scaled kinds.Vec3 scale at) t k h numbers masks = three (numbers at.x h.x) (numbers at.y h.y) (numbers at.z h.z) where
  three : {x y z x' y' z' : ℤ} → x' ≡ x → y' ≡ y → z' ≡ z → values.Vec3 (x' ∷ y' ∷ z' ∷ []) scale ≡ values.Vec3 (x ∷ y ∷ z ∷ []) scale
  three e f g = cc
value_kept base w (Condition mask) t k h numbers masks = ap values.Condition (masks mask h.1)

module _ (i : Particle) (j : Source) (decls : List Decl) (start : Running) (table : List Assigned) (known : Known) where
  abbrev IsReady : ℕ → RawCode → Running → Type 0
  IsReady u w l = Ready i j decls start table known u w l

  abbrev Gives : Made → OrStop Value → Type 0
  Gives made answer = Evaluates i j start made answer

  -- ---- &&

  right_holds : (mask : ℕ) (place : Place) (x : RawCode) (t : Running) (v : Value) → lane i j start x ≡ Some t → value_at place t.state ≡ v → Gives (with_right mask place, x) (truth v >>= (λ b. Ok (values.Condition b)))
  right_holds mask (Condition n) x t v is e = subst (λ (y : Value). Gives (Condition n, x) (truth y >>= (λ b. Ok (values.Condition b)))) e (record { there = t; is = is; value = refl })
  right_holds mask (Scaled kinds.Num s at) x t v is e = subst (λ (y : Value). Gives (Condition mask, x) (truth y >>= (λ b. Ok (values.Condition b)))) e tt
  right_holds mask (Scaled kinds.Vec3 s at) x t v is e = subst (λ (y : Value). Gives (Condition mask, x) (truth y >>= (λ b. Ok (values.Condition b)))) e tt

  right_answer : (mask : ℕ) (made : Made) (answer : OrStop Value) → Gives made answer → Gives (with_right mask made.0, made.1) (answer >>= (λ other. truth other >>= (λ b. Ok (values.Condition b))))
  right_answer mask made (Ok v) h = right_holds mask made.0 made.1 h.there v h.is h.value
  right_answer mask made (Err (stops.Fault fault)) h = h
  right_answer mask made (Err stops.NoResult) h = tt

  module _ (u : ℕ) (w : RawCode) (l : Running) (r : IsReady u w l) (mask : ℕ) (below : mask < w.masks) (b : Expr) (small : IsLimited b) (runs : Runs i j decls start table known b) where
    and_runs : Fits start (code_of decls table b mask w).1 → Gives (with_right mask (code_of decls table b mask w).0, (code_of decls table b mask w).1) (and_value (Ok (values.Condition (mask_at l.state.masks mask))) (value_of known b))
    and_runs fits = by_mask (mask_at l.state.masks mask) refl where
      made : Made
      made = code_of decls table b mask w

      sound : Sound mask w (code_of decls table b mask w)
      sound = expr_sound decls table small mask w below r.held

      off : (place : Place) → Within w.masks (code_of decls table b mask w).1 place → mask_at l.state.masks mask ≡ false → value_at (with_right mask place) l.state ≡ values.Condition false
      off (Condition n) h e = ap values.Condition (r.unmade n h.0)
      off (Scaled kind scale at) h e = ap values.Condition e

      by_mask : (x : Bool) → mask_at l.state.masks mask ≡ x → Gives (with_right mask (code_of decls table b mask w).0, (code_of decls table b mask w).1) (and_value (Ok (values.Condition x)) (value_of known b))
      by_mask true e = right_answer mask (code_of decls table b mask w) (value_of known b) (runs mask w l (record { is = r.is; masked = e; unmade = r.unmade; there = below; held = r.held; agrees = r.agrees }) fits)
      by_mask false e = record { there = l; is = idle i j start sound.tidy l e r.unmade r.is; value = off (code_of decls table b mask w).0 sound.within e }

  -- ---- ||

  module _ (u mask : ℕ) (x : RawCode) (t : Running) (is : lane i j start x ≡ Some t) where
    room_for : Fits start (with_mask u (lanes.Or mask mask) x) → x.masks < length t.state.masks
    room_for fits = let f = fits.masks in let g = (run_lengths i j x.steps start t is).masks in omega (arith, f, g)

    -- where the left operand holds
    left_holds : (place : Place) → mask_at t.state.masks mask ≡ true → Fits start (either_made mask place u x).1 → Gives (either_made mask place u x) (Ok (values.Condition true))
    left_holds (Condition n) e fits =
        subst (λ (b : Bool). Gives (either_made mask (Condition n) u x) (Ok (values.Condition b))) (ap (λ b. b || mask_at t.state.masks n) e)
        (mask_evaluates i j start u x t (lanes.Or mask n) (lanes.Or mask n) (lanes.Or mask n) (mask_at t.state.masks mask || mask_at t.state.masks n) is (room_for (record { numbers = fits.numbers; masks = fits.masks })) refl refl refl)
    left_holds (Scaled kind scale at) e fits = record { there = t; is = is; value = ap values.Condition e }

    -- where it doesn't
    other_holds : (place : Place) (v : Value) → value_at place t.state ≡ v → mask_at t.state.masks mask ≡ false → Fits start (either_made mask place u x).1 → Gives (either_made mask place u x) (truth v >>= (λ b. Ok (values.Condition b)))
    other_holds (Condition n) v h e fits =
        subst (λ (y : Value). Gives (either_made mask (Condition n) u x) (truth y >>= (λ b. Ok (values.Condition b)))) h
        (subst (λ (b : Bool). Gives (either_made mask (Condition n) u x) (Ok (values.Condition b))) (ap (λ b. b || mask_at t.state.masks n) e)
        (mask_evaluates i j start u x t (lanes.Or mask n) (lanes.Or mask n) (lanes.Or mask n) (mask_at t.state.masks mask || mask_at t.state.masks n) is (room_for (record { numbers = fits.numbers; masks = fits.masks })) refl refl refl))
    other_holds (Scaled kinds.Num s at) v h e fits = subst (λ (y : Value). Gives (Condition mask, x) (truth y >>= (λ b. Ok (values.Condition b)))) h tt
    other_holds (Scaled kinds.Vec3 s at) v h e fits = subst (λ (y : Value). Gives (Condition mask, x) (truth y >>= (λ b. Ok (values.Condition b)))) h tt

  either_none : (u mask : ℕ) (place : Place) (x : RawCode) → lane i j start x ≡ None → lane i j start (either_made mask place u x).1 ≡ None
  either_none u mask (Condition n) x e = lane_none i j start x _ e
  either_none u mask (Scaled kind scale at) x e = e

  either_fits : (u mask : ℕ) (place : Place) (x : RawCode) → Fits start (either_made mask place u x).1 → Fits start x
  either_fits u mask (Condition n) x fits = let f = fits.masks in record { numbers = fits.numbers; masks = omega (arith, f) }
  either_fits u mask (Scaled kind scale at) x fits = fits

  module _ (u : ℕ) (w : RawCode) (l : Running) (r : IsReady u w l) (mask : ℕ) (below : mask < w.masks) (b : Expr) (small : IsLimited b) (runs : Runs i j decls start table known b) where
    abbrev rest : RawCode
    rest = with_mask u (lanes.AndNot u mask) w

    abbrev made_in : Made
    made_in = code_of decls table b w.masks rest

    sound_in : Sound w.masks rest made_in
    sound_in = expr_sound decls table small w.masks rest (omega arith) r.held

    rest_is : (x : Bool) → mask_at l.state.masks mask ≡ x → lane i j start rest ≡ Some (with_truth w.masks (not x) l)
    rest_is x e = lane_more i j start w _ l r.is ∙ mask_written i j u w.masks (lanes.AndNot u mask) (not x) l refl (ap (λ m. Some (m && not (mask_at l.state.masks mask))) r.masked ∙ ap (λ m. Some (not m)) e) refl

    apart : (x : Bool) (n : ℕ) → n < w.masks → mask_at (with_truth w.masks x l).state.masks n ≡ mask_at l.state.masks n
    apart x n less = get_or-set_other l.state.masks w.masks n x false (λ e. omega (arith, less, e))

    unmade_in : (x : Bool) (n : ℕ) → w.masks + 1 ≤ n → mask_at (with_truth w.masks x l).state.masks n ≡ false
    unmade_in x n above = get_or-set_other l.state.masks w.masks n x false (λ e. omega (arith, above, e)) ∙ r.unmade n (omega (arith, above))

    new_is : Fits start rest → (x : Bool) → mask_at (with_truth w.masks x l).state.masks w.masks ≡ x
    new_is fits x = let f = fits.masks in let g = (run_lengths i j w.steps start l r.is).masks in get_or-set_same l.state.masks w.masks x false (omega (arith, f, g))

    or_runs : Fits start (either_made mask made_in.0 u made_in.1).1 → Gives (either_made mask made_in.0 u made_in.1) (or_value (Ok (values.Condition (mask_at l.state.masks mask))) (value_of known b))
    or_runs fits = by_mask (mask_at l.state.masks mask) refl where
      fits_in : Fits start made_in.1
      fits_in = either_fits u mask made_in.0 made_in.1 fits

      fits_rest : Fits start rest
      fits_rest = fits_before i j decls start table known rest made_in.1 (grows sound_in.tidy) fits_in

      other : mask_at l.state.masks mask ≡ false → (answer : OrStop Value) → Gives made_in answer → Gives (either_made mask made_in.0 u made_in.1) (answer >>= (λ o. truth o >>= (λ c. Ok (values.Condition c))))
      other e (Ok v) h =
          let k = kept i j start sound_in.tidy (with_truth w.masks true l) h.there (rest_is false e) h.is in
          other_holds u mask made_in.1 h.there h.is made_in.0 v h.value (k.masks mask (omega (arith, below)) ∙ apart true mask below ∙ e) fits
      other e (Err (stops.Fault fault)) h = either_none u mask made_in.0 made_in.1 h
      other e (Err stops.NoResult) h = tt

      by_mask : (x : Bool) → mask_at l.state.masks mask ≡ x → Gives (either_made mask made_in.0 u made_in.1) (or_value (Ok (values.Condition x)) (value_of known b))
      by_mask true e = left_holds u mask made_in.1 (with_truth w.masks false l) (idle i j start sound_in.tidy (with_truth w.masks false l) (new_is fits_rest false) (unmade_in false) (rest_is true e)) made_in.0 (apart false mask below ∙ e) fits
      by_mask false e = other e (value_of known b) (runs w.masks rest (with_truth w.masks true l) (record {
        is = rest_is false e;
        masked = new_is fits_rest true;
        unmade = unmade_in true;
        there = omega arith;
        held = r.held;
        agrees = still_agrees i j decls table known w.numbers l.state (with_truth w.masks true l).state r.held (λ n _. refl) r.agrees;
      }) fits_in)

  -- ---- after an operand

  record After (w x : RawCode) : Type 0 where
    grown : Grows w x
    none : lane i j start w ≡ None → lane i j start x ≡ None

  after_tidy : (v : ℕ) (w x : RawCode) → Tidy true v w x → After w x
  after_tidy v w x t = record { grown = grows t; none = λ e. stays_none i j start t e }

  after_both : (w x y : RawCode) → After w x → After x y → After w y
  after_both w x y a b =
      let n1 = a.grown.numbers in let n2 = b.grown.numbers in let m1 = a.grown.masks in let m2 = b.grown.masks in let s1 = a.grown.slots in let s2 = b.grown.slots in
      record { grown = record { numbers = omega (arith, n1, n2); masks = omega (arith, m1, m2); slots = omega (arith, s1, s2) }; none = λ e. b.none (a.none e) }

  after_more : (u : ℕ) (w : RawCode) (act : Lane) → After w (with_mask u act w)
  after_more u w act = record { grown = record { numbers = omega arith; masks = omega arith; slots = omega arith }; none = λ e. lane_none i j start w _ e }

  before : (w x : RawCode) → After w x → Fits start x → Fits start w
  before w x a fits = fits_before i j decls start table known w x a.grown fits

  module _ (u : ℕ) (w : RawCode) (there : u < w.masks) (held : AreHeld table w.numbers) (p : ℕ) (b : Expr) (small : IsLimited b) where
    right_after : (op : Op2) (a : Place) (base : ℕ) → Within base w a → After w (right_made p op a (code_of decls table b) u w).1
    right_after op2s.And (Condition m) base h = after_tidy m w (code_of decls table b m w).1 (expr_sound decls table small m w h.1 held).tidy
    right_after op2s.And (Scaled kind scale at) base h = after_tidy u w (nothing_made u w).1 (nothing_sound u w w tidy.same there).tidy
    right_after op2s.Or (Condition m) base h =
        let next : RawCode = with_mask u (lanes.AndNot u m) w in
        let made : Made = code_of decls table b w.masks next in
        after_both w next (either_made m made.0 u made.1).1 (after_more u w (lanes.AndNot u m))
        (after_both next made.1 (either_made m made.0 u made.1).1 (after_tidy w.masks next made.1 (expr_sound decls table small w.masks next (omega arith) held).tidy) (either_after m made.0 made.1)) where
          either_after : (mask : ℕ) (place : Place) (x : RawCode) → After x (either_made mask place u x).1
          either_after mask (Condition n) x = after_more u x (lanes.Or mask n)
          either_after mask (Scaled kind scale at) x = record { grown = record { numbers = omega arith; masks = omega arith; slots = omega arith }; none = λ e. e }
    right_after op2s.Or (Scaled kind scale at) base h = after_tidy u w (nothing_made u w).1 (nothing_sound u w w tidy.same there).tidy
    right_after op a base h =
        let r = expr_sound decls table small u w there held in
        let made : Made = code_of decls table b u w in
        let m = (grows r.tidy).masks in
        after_both w made.1 (two_made p op a made.0 u made.1).1 (after_tidy u w made.1 r.tidy)
        (after_tidy u made.1 (two_made p op a made.0 u made.1).1 (two_made_sound u made.1 made.1 tidy.same (omega (arith, there, m)) p op a made.0 0
        (wider base 0 made.1 (omega arith) a (still_within base w made.1 (grows r.tidy) a h)) (wider w.masks 0 made.1 (omega arith) made.0 r.within)).tidy)

  -- ---- after the left operand

  module _ (u : ℕ) (w : RawCode) (k : Running) (r : IsReady u w k) (p : ℕ) (b : Expr) (small : IsLimited b) (runs : Runs i j decls start table known b) where
    plain_right : (op : Op2) (a : Place) (base : ℕ) → Within base w a → Fits start (after (code_of decls table b u w) (λ y x. two_made p op a y u x)).1
        → Gives (after (code_of decls table b u w) (λ y x. two_made p op a y u x)) (value_of known b >>= (λ y. two_value op (value_at a k.state) y))
    plain_right op a base h fits =
        bind_runs i j decls start table known (code_of decls table b u w) (value_of known b) (λ y x. two_made p op a y u x) (λ y. two_value op (value_at a k.state) y)
        (runs u w k r (before made.1 (two_made p op a made.0 u made.1).1 last fits)) last.none
        (λ t is.
        let q = ready_after i j decls start table known u u w made.1 k t r sound.tidy is in
        let held = kept i j start sound.tidy k t r.is is in
        subst (λ (v : Value). Gives (two_made p op a made.0 u made.1) (two_value op v (value_at made.0 t.state))) (value_kept base w a k.state t.state h (held.numbers refl) held.masks)
        (two_runs i j start u made.1 t is q.masked q.there p op a made.0 0 (left_in made.1 sound.tidy) (wider w.masks 0 made.1 (omega arith) made.0 sound.within) fits)) where
          made : Made
          made = code_of decls table b u w

          sound : Sound u w (code_of decls table b u w)
          sound = expr_sound decls table small u w r.there r.held

          left_in : (x : RawCode) → Tidy true u w x → Within 0 x a
          left_in x t = wider base 0 x (omega arith) a (still_within base w x (grows t) a h)

          last : After (code_of decls table b u w).1 (two_made p op a (code_of decls table b u w).0 u (code_of decls table b u w).1).1
          last = after_tidy u (code_of decls table b u w).1 _ (two_made_sound u (code_of decls table b u w).1 (code_of decls table b u w).1 tidy.same (let m = (grows sound.tidy).masks in let there = r.there in omega (arith, there, m)) p op a (code_of decls table b u w).0 0 (left_in (code_of decls table b u w).1 sound.tidy) (wider w.masks 0 (code_of decls table b u w).1 (omega arith) (code_of decls table b u w).0 sound.within)).tidy

    right_runs : (op : Op2) (a : Place) (base : ℕ) → Within base w a → Fits start (right_made p op a (code_of decls table b) u w).1
        → Gives (right_made p op a (code_of decls table b) u w) (two_form op (Ok (value_at a k.state)) (value_of known b))
    right_runs op2s.And (Condition m) base h fits = and_runs u w k r m h.1 b small runs fits
    right_runs op2s.And (Scaled kinds.Num s at) base h fits = tt
    right_runs op2s.And (Scaled kinds.Vec3 s at) base h fits = tt
    right_runs op2s.Or (Condition m) base h fits = or_runs u w k r m h.1 b small runs fits
    right_runs op2s.Or (Scaled kinds.Num s at) base h fits = tt
    right_runs op2s.Or (Scaled kinds.Vec3 s at) base h fits = tt
    right_runs op2s.Add a base h fits = plain_right op2s.Add a base h fits
    right_runs op2s.Sub a base h fits = plain_right op2s.Sub a base h fits
    right_runs op2s.Mul a base h fits = plain_right op2s.Mul a base h fits
    right_runs op2s.Div a base h fits = plain_right op2s.Div a base h fits
    right_runs op2s.Lt a base h fits = plain_right op2s.Lt a base h fits
    right_runs op2s.Le a base h fits = plain_right op2s.Le a base h fits
    right_runs op2s.Gt a base h fits = plain_right op2s.Gt a base h fits
    right_runs op2s.Ge a base h fits = plain_right op2s.Ge a base h fits
    right_runs op2s.Eq a base h fits = plain_right op2s.Eq a base h fits
    right_runs op2s.Ne a base h fits = plain_right op2s.Ne a base h fits
    right_runs op2s.Least a base h fits = plain_right op2s.Least a base h fits
    right_runs op2s.Most a base h fits = plain_right op2s.Most a base h fits

  -- ---- three operands

  module _ (p : ℕ) (op : Op3) (a b c : Expr) (ha : IsLimited a) (hb : IsLimited b) (hc : IsLimited c) (u : ℕ) (w : RawCode) (l : Running) (r : IsReady u w l)
      (runs_a : Runs i j decls start table known a) (runs_b : Runs i j decls start table known b) (runs_c : Runs i j decls start table known c) where
    abbrev made_a : Made
    made_a = code_of decls table a u w

    abbrev made_b : Made
    made_b = code_of decls table b u made_a.1

    abbrev made_c : Made
    made_c = code_of decls table c u made_b.1

    sound_a : Sound u w made_a
    sound_a = expr_sound decls table ha u w r.there r.held

    there_a : u < made_a.1.masks
    there_a = let there = r.there in let m = (grows sound_a.tidy).masks in omega (arith, there, m)

    held_a : AreHeld table made_a.1.numbers
    held_a = still_held table w.numbers made_a.1.numbers (grows sound_a.tidy).numbers r.held

    sound_b : Sound u made_a.1 made_b
    sound_b = expr_sound decls table hb u made_a.1 there_a held_a

    there_b : u < made_b.1.masks
    there_b = let there = there_a in let m = (grows sound_b.tidy).masks in omega (arith, there, m)

    held_b : AreHeld table made_b.1.numbers
    held_b = still_held table made_a.1.numbers made_b.1.numbers (grows sound_b.tidy).numbers held_a

    sound_c : Sound u made_b.1 made_c
    sound_c = expr_sound decls table hc u made_b.1 there_b held_b

    there_c : u < made_c.1.masks
    there_c = let there = there_b in let m = (grows sound_c.tidy).masks in omega (arith, there, m)

    in_a : Within 0 made_a.1 made_a.0
    in_a = wider w.masks 0 made_a.1 (omega arith) made_a.0 sound_a.within

    in_b : Within 0 made_b.1 made_b.0
    in_b = wider made_a.1.masks 0 made_b.1 (omega arith) made_b.0 sound_b.within

    in_c : Within 0 made_c.1 made_c.0
    in_c = wider made_b.1.masks 0 made_c.1 (omega arith) made_c.0 sound_c.within

    a_later : Within 0 made_c.1 made_a.0
    a_later = still_within 0 made_b.1 made_c.1 (grows sound_c.tidy) made_a.0 (still_within 0 made_a.1 made_b.1 (grows sound_b.tidy) made_a.0 in_a)

    b_later : Within 0 made_c.1 made_b.0
    b_later = still_within 0 made_b.1 made_c.1 (grows sound_c.tidy) made_b.0 in_b

    abbrev made_all : Made
    made_all = three_made p op made_a.0 made_b.0 made_c.0 u made_c.1

    last : After made_c.1 made_all.1
    last = after_tidy u made_c.1 made_all.1 (three_made_sound u made_c.1 made_c.1 tidy.same there_c p op made_a.0 made_b.0 made_c.0 0 a_later b_later in_c).tidy

    after_b : After made_b.1 made_all.1
    after_b = after_both made_b.1 made_c.1 made_all.1 (after_tidy u made_b.1 made_c.1 sound_c.tidy) last

    after_a : After made_a.1 made_all.1
    after_a = after_both made_a.1 made_b.1 made_all.1 (after_tidy u made_a.1 made_b.1 sound_b.tidy) after_b

    three_run : Fits start made_all.1 → Gives made_all (value_of known a >>= (λ x. value_of known b >>= (λ y. value_of known c >>= (λ z. three_value op x y z))))
    three_run fits =
        bind_runs i j decls start table known made_a (value_of known a) (λ x w1. after (code_of decls table b u w1) (λ y w2. after (code_of decls table c u w2) (λ z w3. three_made p op x y z u w3))) (λ x. value_of known b >>= (λ y. value_of known c >>= (λ z. three_value op x y z)))
        (runs_a u w l r (before made_a.1 made_all.1 after_a fits)) after_a.none
        (λ k is.
        let q = ready_after i j decls start table known u u w made_a.1 l k r sound_a.tidy is in
        bind_runs i j decls start table known made_b (value_of known b) (λ y w2. after (code_of decls table c u w2) (λ z w3. three_made p op made_a.0 y z u w3)) (λ y. value_of known c >>= (λ z. three_value op (value_at made_a.0 k.state) y z))
        (runs_b u made_a.1 k q (before made_b.1 made_all.1 after_b fits)) after_b.none
        (λ k2 is2.
        let q2 = ready_after i j decls start table known u u made_a.1 made_b.1 k k2 q sound_b.tidy is2 in
        let kept_a = kept i j start sound_b.tidy k k2 is is2 in
        let same_a : value_at made_a.0 k2.state ≡ value_at made_a.0 k.state = value_kept 0 made_a.1 made_a.0 k.state k2.state in_a (kept_a.numbers refl) kept_a.masks in
        bind_runs i j decls start table known made_c (value_of known c) (λ z w3. three_made p op made_a.0 made_b.0 z u w3) (λ z. three_value op (value_at made_a.0 k.state) (value_at made_b.0 k2.state) z)
        (runs_c u made_b.1 k2 q2 (before made_c.1 made_all.1 last fits)) last.none
        (λ k3 is3.
        let q3 = ready_after i j decls start table known u u made_b.1 made_c.1 k2 k3 q2 sound_c.tidy is3 in
        let kept_b = kept i j start sound_c.tidy k2 k3 is2 is3 in
        let same_b : value_at made_b.0 k3.state ≡ value_at made_b.0 k2.state = value_kept 0 made_b.1 made_b.0 k2.state k3.state in_b (kept_b.numbers refl) kept_b.masks in
        let a_there : Within 0 made_b.1 made_a.0 = still_within 0 made_a.1 made_b.1 (grows sound_b.tidy) made_a.0 in_a in
        let same_a3 : value_at made_a.0 k3.state ≡ value_at made_a.0 k.state = value_kept 0 made_b.1 made_a.0 k2.state k3.state a_there (kept_b.numbers refl) kept_b.masks ∙ same_a in
        subst (λ (x : Value). Gives made_all (three_value op x (value_at made_b.0 k2.state) (value_at made_c.0 k3.state))) same_a3
        (subst (λ (y : Value). Gives made_all (three_value op (value_at made_a.0 k3.state) y (value_at made_c.0 k3.state))) same_b
        (three_runs i j start u made_c.1 k3 is3 q3.masked q3.there p op made_a.0 made_b.0 made_c.0 0 a_later b_later in_c fits)))))

  -- ---- all

  along : {made made' : Made} {a a' : OrStop Value} → made ≡ made' → a ≡ a' → (Fits start made'.1 → Gives made' a') → Fits start made.1 → Gives made a
  along {made} {made'} {a} {a'} e f h fits = subst (λ (x : Made). Gives x a) (sym e) (subst (λ (y : OrStop Value). Gives made' y) (sym f) (h (subst (λ (x : Made). Fits start x.1) e fits)))

  abbrev code : Expr → ℕ → RawCode → Made
  code e u w = code_of decls table e u w

  pub expr_means : {e : Expr} → IsLimited e → Runs i j decls start table known e
  expr_means (limits.literal {place = p} {mantissa = m} {scale = s} small bound) u w l r fits =
      along (ap (λ f. f p u w) (number_layer (form_maker decls table) expr_maker m s)) (number_layer (form_meaning known) value_of_form m s) (literal_runs i j decls start table known u w l r m s small) fits
  expr_means (limits.name {place = p} {called = n}) u w l r fits =
      along (ap (λ f. f p u w) (name_layer (form_maker decls table) expr_maker n)) (name_layer (form_meaning known) value_of_form n) (named_runs i j decls start table known u w l r n (declaration decls n) refl) fits
  expr_means (limits.part {place = p} {a = a} {axis = axis} h) u w l r fits =
      along (ap (λ f. f p u w) (part_layer (form_maker decls table) expr_maker a axis)) (part_layer (form_meaning known) value_of_form a axis)
      (λ fits.
      let s = expr_sound decls table h u w r.there r.held in
      let made : Made = code a u w in
      let there = r.there in let m = (grows s.tidy).masks in
      let last = after_tidy u made.1 (part_made axis made.0 u made.1).1 (part_made_sound u made.1 made.1 tidy.same (omega (arith, there, m)) axis made.0 w.masks s.within).tidy in
      bind_runs i j decls start table known made (value_of known a) (λ x y. part_made axis x u y) (part_value axis) (expr_means h u w l r (before made.1 (part_made axis made.0 u made.1).1 last fits)) last.none
      (λ k is. let q = ready_after i j decls start table known u u w made.1 l k r s.tidy is in part_runs i j start u made.1 k is q.masked q.there axis made.0))
      fits
  expr_means (limits.one {place = p} {op = op} {a = a} h) u w l r fits =
      along (ap (λ f. f p u w) (one_layer (form_maker decls table) expr_maker op a)) (one_layer (form_meaning known) value_of_form op a)
      (λ fits.
      let s = expr_sound decls table h u w r.there r.held in
      let made : Made = code a u w in
      let there = r.there in let m = (grows s.tidy).masks in
      let last = after_tidy u made.1 (one_made p op made.0 u made.1).1 (one_made_sound u made.1 made.1 tidy.same (omega (arith, there, m)) p op made.0 w.masks s.within).tidy in
      bind_runs i j decls start table known made (value_of known a) (λ x y. one_made p op x u y) (one_value op) (expr_means h u w l r (before made.1 (one_made p op made.0 u made.1).1 last fits)) last.none
      (λ k is. let q = ready_after i j decls start table known u u w made.1 l k r s.tidy is in one_runs i j start u made.1 k is q.masked q.there p op made.0 w.masks s.within fits))
      fits
  expr_means (limits.two {place = p} {op = op} {a = a} {b = b} h g) u w l r fits =
      along (ap (λ f. f p u w) (two_layer (form_maker decls table) expr_maker op a b)) (two_layer (form_meaning known) value_of_form op a b ∙ two_bind op (value_of known a) (value_of known b))
      (λ fits.
      let s = expr_sound decls table h u w r.there r.held in
      let made : Made = code a u w in
      let there = r.there in let m = (grows s.tidy).masks in
      let last = right_after u made.1 (omega (arith, there, m)) (still_held table w.numbers made.1.numbers (grows s.tidy).numbers r.held) p b g op made.0 w.masks s.within in
      bind_runs i j decls start table known made (value_of known a) (λ x y. right_made p op x (code_of decls table b) u y) (λ v. two_form op (Ok v) (value_of known b)) (expr_means h u w l r (before made.1 (right_made p op made.0 (code_of decls table b) u made.1).1 last fits)) last.none
      (λ k is. right_runs u made.1 k (ready_after i j decls start table known u u w made.1 l k r s.tidy is) p b g (λ v x t q f. expr_means g v x t q f) op made.0 w.masks s.within fits))
      fits
  expr_means (limits.three {place = p} {op = op} {a = a} {b = b} {c = c} h g f3) u w l r fits =
      along (ap (λ f. f p u w) (three_layer (form_maker decls table) expr_maker op a b c)) (three_layer (form_meaning known) value_of_form op a b c)
      (three_run p op a b c h g f3 u w l r (λ v x t q f. expr_means h v x t q f) (λ v x t q f. expr_means g v x t q f) (λ v x t q f. expr_means f3 v x t q f)) fits
  expr_means (limits.to {place = p} {scale = n} {a = a} h) u w l r fits =
      along (ap (λ f. f p u w) (to_layer (form_maker decls table) expr_maker n a)) (to_layer (form_meaning known) value_of_form n a)
      (λ fits.
      let s = expr_sound decls table h u w r.there r.held in
      let made : Made = code a u w in
      let there = r.there in let m = (grows s.tidy).masks in
      let last = after_tidy u made.1 (to_made p n made.0 u made.1).1 (to_made_sound u made.1 made.1 tidy.same (omega (arith, there, m)) p n made.0 w.masks s.within).tidy in
      bind_runs i j decls start table known made (value_of known a) (λ x y. to_made p n x u y) (to_value n) (expr_means h u w l r (before made.1 (to_made p n made.0 u made.1).1 last fits)) last.none
      (λ k is. let q = ready_after i j decls start table known u u w made.1 l k r s.tidy is in to_runs i j start u made.1 k is q.masked q.there p n made.0 w.masks s.within fits))
      fits
