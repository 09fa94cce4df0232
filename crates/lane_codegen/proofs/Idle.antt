-- Lanes in which written code is idle, and what it leaves as it was in others.
use Rattle.std.proofs.Common.{◌≡◌, ℕ, ◌+◌, ◌<◌, ◌≤◌, inl, inr, [], ◌∷◌, ◌++◌, Bool, true, false, ◌&&◌, ◌||◌, Option, Some, None, refl, sym, ap, ◌∙◌, arith}
use Rattle.std.specs.Prelude.{not}
use Rattle.lane_code.specs.declared.code.RawCode.{RawCode}
use Rattle.lane_code.specs.declared.instruction.Instr.{Instr}
use Rattle.lane_code.specs.declared.instruction.Lane.TheVariants as lanes
use Rattle.lane_code.specs.Steps.{LaneState, mask_at, number_at, are_related}
use Rattle.lane_codegen.specs.Writing.{with_part}
use Rattle.pf_geom.specs.declared.axis.Axis.TheVariants.{X, Y, Z}
use Rattle.pf_model.specs.Particle.{Particle}
use Rattle.pf_model.specs.Totals.{Source}
use Rattle.lane_codegen.proofs.LaneSteps.{NumberStep, MaskStep, number_idle, mask_idle, gift_idle, number_step, mask_step, gift_step}
use Rattle.lane_codegen.proofs.Runs.{Running, run, run_more, step_on}
use Rattle.lane_codegen.proofs.Tidy.{Low, Tidy, Grows, grows}
use Rattle.lane_codegen.proofs.Tidy as tidy

module _ (i : Particle) (j : Source) (start : Running) where
  -- the lane after code
  abbrev pub lane : RawCode → Option Running
  lane w = run i j w.steps start

  -- one instruction more
  pub lane_more : (w : RawCode) (x : Instr) (l : Running) → lane w ≡ Some l → run i j (w.steps ++ x ∷ []) start ≡ step_on i j x l
  lane_more w x l e = run_more i j w.steps x start (Some l) e

  pub lane_none : (w : RawCode) (x : Instr) → lane w ≡ None → run i j (w.steps ++ x ∷ []) start ≡ None
  lane_none w x e = run_more i j w.steps x start None e

  -- a lane that faulted stays so
  pub stays_none : {expressions : Bool} {u : ℕ} {s w : RawCode} → Tidy expressions u s w → lane s ≡ None → lane w ≡ None
  stays_none tidy.same e = e
  stays_none (tidy.number w under act t a b c) e = lane_none w _ (stays_none t e)
  stays_none (tidy.compare w under relation x y t a b c d) e = lane_none w _ (stays_none t e)
  stays_none (tidy.and_not w under m n t a b c) e = lane_none w _ (stays_none t e)
  stays_none (tidy.either w under m n t a b c d) e = lane_none w _ (stays_none t e)
  stays_none (tidy.copied w under out from t a b c d f) e = lane_none w _ (stays_none t e)
  stays_none (tidy.no_gift w t a) e = stays_none t e
  stays_none (tidy.gift w under from t a b c d) e = lane_none w _ (stays_none t e)
  stays_none (tidy.gifts w under x y z t a b c d f g) e = lane_none (with_part Y y under (with_part X x under w)) _ (lane_none (with_part X x under w) _ (lane_none w _ (stays_none t e)))

  -- ---- idle

  record IsIdle (u base : ℕ) (l : Running) : Type 0 where
    masked : mask_at l.state.masks u ≡ false
    unmade : (m : ℕ) → base ≤ m → mask_at l.state.masks m ≡ false

  low_off : (u base m : ℕ) (l : Running) → IsIdle u base l → Low u base m → mask_at l.state.masks m ≡ false
  low_off u base m l h (inl e) = ap (mask_at l.state.masks) e ∙ h.masked
  low_off u base m l h (inr b) = h.unmade m b

  and_off : (a b : Bool) → a ≡ false → (a && b) ≡ false
  and_off a b e = ap (λ x. x && b) e

  or_off : (a b : Bool) → a ≡ false → b ≡ false → (a || b) ≡ false
  or_off a b e f = ap (λ x. x || b) e ∙ f

  stays_idle : {expressions : Bool} {u : ℕ} {s w : RawCode} → Tidy expressions u s w → (l : Running) → IsIdle u s.masks l → lane s ≡ Some l → lane w ≡ Some l
  stays_idle tidy.same l h e = e
  stays_idle {u = u} {s = s} (tidy.number w under act t a b c) l h e = lane_more w _ l (stays_idle t l h e) ∙ number_idle i j under w.numbers act l c.makes (low_off u s.masks under l h a)
  stays_idle {u = u} {s = s} (tidy.compare w under relation x y t a b c d) l h e =
      lane_more w _ l (stays_idle t l h e) ∙ mask_idle i j under w.masks (lanes.Compare relation x y) _ l refl refl refl (and_off (mask_at l.state.masks under) (are_related relation (number_at l.state.numbers x) (number_at l.state.numbers y)) (low_off u s.masks under l h a)) (h.unmade w.masks (grows t).masks)
  stays_idle {u = u} {s = s} (tidy.and_not w under m n t a b c) l h e =
      lane_more w _ l (stays_idle t l h e) ∙ mask_idle i j under w.masks (lanes.AndNot m n) _ l refl refl refl (and_off (mask_at l.state.masks m) (not (mask_at l.state.masks n)) (low_off u s.masks m l h a)) (h.unmade w.masks (grows t).masks)
  stays_idle {u = u} {s = s} (tidy.either w under m n t a b c d) l h e =
      lane_more w _ l (stays_idle t l h e) ∙ mask_idle i j under w.masks (lanes.Or m n) _ l refl refl refl (or_off (mask_at l.state.masks m) (mask_at l.state.masks n) (low_off u s.masks m l h a) (low_off u s.masks n l h b)) (h.unmade w.masks (grows t).masks)
  stays_idle {u = u} {s = s} (tidy.copied w under out from t a b c d f) l h e = lane_more w _ l (stays_idle t l h e) ∙ number_idle i j under out (lanes.Copy from) l refl (low_off u s.masks under l h b)
  stays_idle (tidy.no_gift w t a) l h e = stays_idle t l h e
  stays_idle {u = u} {s = s} (tidy.gift w under from t a b c d) l h e = lane_more w _ l (stays_idle t l h e) ∙ gift_idle i j under w.slots X from l (low_off u s.masks under l h b)
  stays_idle {u = u} {s = s} (tidy.gifts w under x y z t a b c d f g) l h e =
      let off = low_off u s.masks under l h b in
      let one : lane (with_part X x under w) ≡ Some l = lane_more w _ l (stays_idle t l h e) ∙ gift_idle i j under w.slots X x l off in
      let two : lane (with_part Y y under (with_part X x under w)) ≡ Some l = lane_more (with_part X x under w) _ l one ∙ gift_idle i j under w.slots Y y l off in
      lane_more (with_part Y y under (with_part X x under w)) _ l two ∙ gift_idle i j under w.slots Z z l off

  pub idle : {expressions : Bool} {u : ℕ} {s w : RawCode} → Tidy expressions u s w → (l : Running) → mask_at l.state.masks u ≡ false → ((m : ℕ) → s.masks ≤ m → mask_at l.state.masks m ≡ false) → lane s ≡ Some l → lane w ≡ Some l
  idle t l masked unmade e = stays_idle t l (record { masked = masked; unmade = unmade }) e

  -- ---- kept

  pub record Kept (expressions : Bool) (s : RawCode) (made : ℕ) (l k : Running) : Type 0 where
    pub masks : (m : ℕ) → m < s.masks → mask_at k.state.masks m ≡ mask_at l.state.masks m
    pub unmade : (m : ℕ) → made ≤ m → mask_at k.state.masks m ≡ mask_at l.state.masks m
    pub numbers : expressions ≡ true → (r : ℕ) → r < s.numbers → number_at k.state.numbers r ≡ number_at l.state.numbers r
    pub given : expressions ≡ true → k.given ≡ l.given

  both : (a b : Running) → Some a ≡ Some b → a ≡ b
  both a b e = cc

  kept_all : (expressions : Bool) (s : RawCode) (made : ℕ) (l k : Running) → l ≡ k → Kept expressions s made l k
  kept_all expressions s made l k e = record {
    masks = λ m _. ap (λ (x : Running). mask_at x.state.masks m) (sym e);
    unmade = λ m _. ap (λ (x : Running). mask_at x.state.masks m) (sym e);
    numbers = λ _ r _. ap (λ (x : Running). number_at x.state.numbers r) (sym e);
    given = λ _. ap (λ (x : Running). x.given) (sym e);
  }

  -- after one instruction more
  module _ (expressions : Bool) (s w : RawCode) (g : Grows s w) (l m k : Running) (h : Kept expressions s w.masks l m) where
    kept_number : NumberStep i j w.numbers m k → Kept expressions s w.masks l k
    kept_number n = record {
      masks = λ r below. ap (λ ms. mask_at ms r) n.masks ∙ h.masks r below;
      unmade = λ r above. ap (λ ms. mask_at ms r) n.masks ∙ h.unmade r above;
      numbers = λ e r below. n.others r (λ same. let g1 = g.numbers in omega (arith, below, same, g1)) ∙ h.numbers e r below;
      given = λ e. n.given ∙ h.given e;
    }

    kept_copy : (out : ℕ) → expressions ≡ false → NumberStep i j out m k → Kept expressions s w.masks l k
    kept_copy out off n = record {
      masks = λ r below. ap (λ ms. mask_at ms r) n.masks ∙ h.masks r below;
      unmade = λ r above. ap (λ ms. mask_at ms r) n.masks ∙ h.unmade r above;
      numbers = λ e r below. absurd (let no : ⊥ = cc in no);
      given = λ e. absurd (let no : ⊥ = cc in no);
    }

    kept_mask : MaskStep i j w.masks m k → Kept expressions s (w.masks + 1) l k
    kept_mask n = record {
      masks = λ r below. n.others r (λ same. let g1 = g.masks in omega (arith, below, same, g1)) ∙ h.masks r below;
      unmade = λ r above. n.others r (λ same. omega (arith, above, same)) ∙ h.unmade r (omega (arith, above));
      numbers = λ e r below. ap (λ ns. number_at ns r) n.numbers ∙ h.numbers e r below;
      given = λ e. n.given ∙ h.given e;
    }

    kept_gift : expressions ≡ false → k.state ≡ m.state → Kept expressions s w.masks l k
    kept_gift off is = record {
      masks = λ r below. ap (λ (x : LaneState). mask_at x.masks r) is ∙ h.masks r below;
      unmade = λ r above. ap (λ (x : LaneState). mask_at x.masks r) is ∙ h.unmade r above;
      numbers = λ e r below. absurd (let no : ⊥ = cc in no);
      given = λ e. absurd (let no : ⊥ = cc in no);
    }

  -- the lane before an instruction
  record Reached (w : RawCode) (x : Instr) (k : Running) : Type 0 where
    there : Running
    is : lane w ≡ Some there
    next : step_on i j x there ≡ Some k

  reached : (w : RawCode) (x : Instr) (k : Running) → run i j (w.steps ++ x ∷ []) start ≡ Some k → Reached w x k
  reached w x k e = from (lane w) refl where
    from : (o : Option Running) → lane w ≡ o → Reached w x k
    from None is = let f = sym (lane_none w x is) ∙ e in absurd (let no : ⊥ = cc in no)
    from (Some m) is = record { there = m; is = is; next = sym (lane_more w x m is) ∙ e }

  pub kept : {expressions : Bool} {u : ℕ} {s w : RawCode} → Tidy expressions u s w → (l k : Running) → lane s ≡ Some l → lane w ≡ Some k → Kept expressions s w.masks l k
  kept {expressions = ex} {s = s} tidy.same l k e f = kept_all ex s s.masks l k (both l k (sym e ∙ f))
  kept {expressions = ex} {s = s} (tidy.number w under act t a b c) l k e f =
      let r = reached w _ k f in
      kept_number ex s w (grows t) l r.there k (kept t l r.there e r.is) (number_step i j under w.numbers act r.there k c.makes r.next)
  kept {expressions = ex} {s = s} (tidy.compare w under relation x y t a b c d) l k e f =
      let r = reached w _ k f in
      kept_mask ex s w (grows t) l r.there k (kept t l r.there e r.is) (mask_step i j under w.masks (lanes.Compare relation x y) _ r.there k refl refl refl r.next)
  kept {expressions = ex} {s = s} (tidy.and_not w under m n t a b c) l k e f =
      let r = reached w _ k f in
      kept_mask ex s w (grows t) l r.there k (kept t l r.there e r.is) (mask_step i j under w.masks (lanes.AndNot m n) _ r.there k refl refl refl r.next)
  kept {expressions = ex} {s = s} (tidy.either w under m n t a b c d) l k e f =
      let r = reached w _ k f in
      kept_mask ex s w (grows t) l r.there k (kept t l r.there e r.is) (mask_step i j under w.masks (lanes.Or m n) _ r.there k refl refl refl r.next)
  kept {expressions = ex} {s = s} (tidy.copied w under out from t a b c d g) l k e f =
      let r = reached w _ k f in
      kept_copy ex s w (grows t) l r.there k (kept t l r.there e r.is) out a (number_step i j under out (lanes.Copy from) r.there k refl r.next)
  kept {expressions = ex} {s = s} (tidy.no_gift w t a) l k e f = kept_gift ex s w (grows t) l k k (kept t l k e f) a refl
  kept {expressions = ex} {s = s} (tidy.gift w under from t a b c d) l k e f =
      let r = reached w _ k f in
      kept_gift ex s w (grows t) l r.there k (kept t l r.there e r.is) a (gift_step i j under w.slots X from r.there k r.next)
  kept {expressions = ex} {s = s} (tidy.gifts w under x y z t a b c d g h) l k e f =
      let r3 = reached (with_part Y y under (with_part X x under w)) _ k f in
      let r2 = reached (with_part X x under w) _ r3.there r3.is in
      let r1 = reached w _ r2.there r2.is in
      kept_gift ex s w (grows t) l r1.there k (kept t l r1.there e r1.is) a
      (gift_step i j under w.slots Z z r3.there k r3.next ∙ gift_step i j under w.slots Y y r2.there r3.there r2.next ∙ gift_step i j under w.slots X x r1.there r2.there r1.next)
