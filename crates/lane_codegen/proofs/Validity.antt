-- Code that is written in order is valid.
use Rattle.std.proofs.Common.{◌≡◌, ◌≢◌, ℕ, ◌+◌, ◌<◌, ◌≤◌, ◌⊎◌, inl, inr, ⊎_elim, List, [], ◌∷◌, ◌++◌, length, Bool, true, false, cond, ◌&&◌, ◌||◌, Some, None, refl, sym, ap, ap₂, ◌∙◌, arith, append_assoc}
use Rattle.std.specs.List.{list_any, list_all}
use Rattle.std.specs.Prelude.{not, nat_lt, ◌==◌}
use Rattle.std.proofs.lemmas.Bool.{cases_lt, lt-ltb}
use Rattle.std.proofs.lemmas.Bool.Decides.{nat_tests}
use Rattle.std.proofs.lemmas.List.Folds.{list_any-append}
use Rattle.lane_code.specs.declared.code.RawCode.{RawCode}
use Rattle.lane_code.specs.declared.instruction.Instr.{Instr}
use Rattle.lane_code.specs.declared.instruction.Lane.{Lane}
use Rattle.lane_code.specs.declared.instruction.Lane.TheVariants as lanes
use Rattle.lane_code.specs.Validity.{first_breach_after, gives, is_fine, is_gift_fine, is_mask_known, is_number_known, is_write_fine, makes_mask, makes_number, masks_read, numbers_read, writes_mask, writes_number, is_axis}
use Rattle.lane_codegen.specs.Writing.{instr, with_copy, with_mask, with_number, with_part, with_slot}
use Rattle.pf_geom.specs.declared.axis.Axis.{Axis}
use Rattle.pf_geom.specs.declared.axis.Axis.TheVariants.{X, Y, Z}
use Rattle.lane_codegen.proofs.Tidy.{AreBelow, IsPlain, Low, Tidy, Grows, grows}
use Rattle.lane_codegen.proofs.Tidy as tidy

-- ---- tests

and_holds : (a b : Bool) → a ≡ true → b ≡ true → (a && b) ≡ true
and_holds a b e f = ap₂ (λ x y. x && y) e f

or_first : (a b : Bool) → a ≡ true → (a || b) ≡ true
or_first a b e = ap (λ x. x || b) e

or_later : (a b : Bool) → b ≡ true → (a || b) ≡ true
or_later true b e = refl
or_later false b e = e

or_neither : (a b : Bool) → a ≡ false → b ≡ false → (a || b) ≡ false
or_neither a b e f = ap₂ (λ x y. x || y) e f

same_number : (n : ℕ) → (n == n) ≡ true
same_number n = grind (arith, nat_tests)

not_same : (m n : ℕ) → m ≢ n → (m == n) ≡ false
not_same m n h = grind (arith, nat_tests)

-- ---- an instruction more

any_more : (p : Instr → Bool) (xs : List Instr) (x : Instr) → list_any p xs ≡ true → list_any p (xs ++ x ∷ []) ≡ true
any_more p xs x e = list_any-append p xs (x ∷ []) ∙ or_first (list_any p xs) _ e

any_last : (p : Instr → Bool) (xs : List Instr) (x : Instr) → p x ≡ true → list_any p (xs ++ x ∷ []) ≡ true
any_last p xs x e = list_any-append p xs (x ∷ []) ∙ or_later (list_any p xs) _ (or_first (p x) false e)

none_more : (p : Instr → Bool) (xs : List Instr) (x : Instr) → list_any p xs ≡ false → p x ≡ false → list_any p (xs ++ x ∷ []) ≡ false
none_more p xs x e f = list_any-append p xs (x ∷ []) ∙ or_neither (list_any p xs) _ e (or_neither (p x) false f refl)

fine_more : (raw : RawCode) (before xs : List Instr) (x : Instr) → first_breach_after raw before xs ≡ None → is_fine raw (before ++ xs) x ≡ true → first_breach_after raw before (xs ++ x ∷ []) ≡ None
fine_more raw before [] x e f = ap (λ b. cond b (first_breach_after raw (before ++ x ∷ []) []) (Some (length before))) (ap (λ b. is_fine raw b x) (sym (none_after before)) ∙ f) where
  none_after : (ys : List Instr) → ys ++ [] ≡ ys
  none_after [] = refl
  none_after (y ∷ ys) = ap (λ l. y ∷ l) (none_after ys)
fine_more raw before (y ∷ xs) x e f = more (is_fine raw before y) e (λ h. fine_more raw (before ++ y ∷ []) xs x h (ap (λ b. is_fine raw b x) (append_assoc before (y ∷ []) xs) ∙ f)) where
  more : (b : Bool) → cond b (first_breach_after raw (before ++ y ∷ []) xs) (Some (length before)) ≡ None
      → (first_breach_after raw (before ++ y ∷ []) xs ≡ None → first_breach_after raw (before ++ y ∷ []) (xs ++ x ∷ []) ≡ None)
      → cond b (first_breach_after raw (before ++ y ∷ []) (xs ++ x ∷ [])) (Some (length before)) ≡ None
  more true h go = go h
  more false h go = absurd (let no : ⊥ = cc in no)

-- ---- what holds of written code

pub record Room (raw w : RawCode) : Type 0 where
  pub numbers : w.numbers ≤ raw.numbers
  pub masks : w.masks ≤ raw.masks
  pub slots : w.slots ≤ raw.slots

pub record IsValid (raw w : RawCode) : Type 0 where
  pub one : 0 < w.masks
  pub fine : first_breach_after raw [] w.steps ≡ None
  pub numbers : (r : ℕ) → r < w.numbers → list_any (writes_number r) w.steps ≡ true
  pub masks : (m : ℕ) → m < w.masks → (m == 0 || list_any (writes_mask m) w.steps) ≡ true
  pub slots : (slot : ℕ) (axis : Axis) → w.slots ≤ slot → list_any (gives slot axis) w.steps ≡ false

own_mask : (under : ℕ) (act : Lane) → makes_number act ≡ true → masks_read under act ≡ under ∷ []
own_mask under (lanes.And m n) e = absurd (let no : ⊥ = cc in no)
own_mask under (lanes.AndNot m n) e = absurd (let no : ⊥ = cc in no)
own_mask under (lanes.Or m n) e = absurd (let no : ⊥ = cc in no)
own_mask under _ e = refl

no_mask : (act : Lane) → makes_number act ≡ true → makes_mask act ≡ false
no_mask (lanes.Compare relation a b) e = absurd (let no : ⊥ = cc in no)
no_mask (lanes.And m n) e = absurd (let no : ⊥ = cc in no)
no_mask (lanes.AndNot m n) e = absurd (let no : ⊥ = cc in no)
no_mask (lanes.Or m n) e = absurd (let no : ⊥ = cc in no)
no_mask _ e = refl

gives_none : (slot : ℕ) (axis : Axis) (under out : ℕ) (act : Lane) → makes_number act ≡ true → gives slot axis (instr under out act) ≡ false
gives_none slot axis under out (lanes.Give other along a) e = absurd (let no : ⊥ = cc in no)
gives_none slot axis under out _ e = refl

no_gift : (raw : RawCode) (before : List Instr) (act : Lane) → makes_number act ≡ true → is_gift_fine raw before act ≡ true
no_gift raw before (lanes.Give slot axis a) e = absurd (let no : ⊥ = cc in no)
no_gift raw before _ e = refl

writes_no_mask : (m under out : ℕ) (act : Lane) → makes_number act ≡ true → writes_mask m (instr under out act) ≡ false
writes_no_mask m under out act e = ap (λ b. b && (out == m)) (no_mask act e)

or_kept : (b : Bool) (p : Instr → Bool) (xs : List Instr) (x : Instr) → (b || list_any p xs) ≡ true → (b || list_any p (xs ++ x ∷ [])) ≡ true
or_kept true p xs x e = refl
or_kept false p xs x e = any_more p xs x e

and_false : (a b : Bool) → b ≡ false → (a && b) ≡ false
and_false true b e = e
and_false false b e = refl

split : (a n : ℕ) → a < n + 1 → (a < n) ⊎ (a ≡ n)
split a n less = ⊎_elim inl (λ h. inr (omega (arith, less, h))) (cases_lt a n)

module _ (raw w : RawCode) (room : Room raw w) (h : IsValid raw w) where
  mask_known : (m : ℕ) → m < w.masks → is_mask_known raw w.steps m ≡ true
  mask_known m below = let g = room.masks in and_holds _ _ (lt-ltb m raw.masks (omega (arith, below, g))) (h.masks m below)

  number_known : (r : ℕ) → r < w.numbers → is_number_known raw w.steps r ≡ true
  number_known r below = let g = room.numbers in and_holds _ _ (lt-ltb r raw.numbers (omega (arith, below, g))) (h.numbers r below)

  numbers_known : (rs : List ℕ) → AreBelow w.numbers rs → list_all (is_number_known raw w.steps) rs ≡ true
  numbers_known [] below = refl
  numbers_known (r ∷ rs) below = and_holds _ _ (number_known r below.0) (numbers_known rs below.1)

  one_known : (m : ℕ) → m < w.masks → list_all (is_mask_known raw w.steps) (m ∷ []) ≡ true
  one_known m below = and_holds _ _ (mask_known m below) refl

  two_known : (m n : ℕ) → m < w.masks → n < w.masks → list_all (is_mask_known raw w.steps) (m ∷ n ∷ []) ≡ true
  two_known m n below also = and_holds _ _ (mask_known m below) (one_known n also)

  -- a number written to a register that is there
  fine_number : (under out : ℕ) (act : Lane) → IsPlain w.numbers act → under < w.masks → out < raw.numbers → is_fine raw w.steps (instr under out act) ≡ true
  fine_number under out act p below there =
      and_holds _ _ p.there (and_holds _ _ p.little (and_holds _ _ (ap (list_all (is_mask_known raw w.steps)) (own_mask under act p.makes) ∙ one_known under below)
      (and_holds _ _ (numbers_known (numbers_read act) p.reads) (and_holds _ _ written (no_gift raw w.steps act p.makes))))) where
        written : is_write_fine raw (instr under out act) ≡ true
        written =
            ap (λ b. cond b (nat_lt out raw.masks && not (out == 0)) (cond (makes_number act) (nat_lt out raw.numbers) true)) (no_mask act p.makes)
            ∙ ap (λ b. cond b (nat_lt out raw.numbers) true) p.makes ∙ lt-ltb out raw.numbers there

  -- a new mask
  new_mask : w.masks + 1 ≤ raw.masks → (nat_lt w.masks raw.masks && not (w.masks == 0)) ≡ true
  new_mask g =
      let one = h.one in
      and_holds _ _ (lt-ltb w.masks raw.masks (omega (arith, g))) (ap not (not_same w.masks 0 (λ e. omega (arith, one, e))))

  after_number : (under : ℕ) (act : Lane) → IsPlain w.numbers act → under < w.masks → Room raw (with_number under act w) → IsValid raw (with_number under act w)
  after_number under act p below next = record {
    one = h.one;
    fine = fine_more raw [] w.steps _ h.fine (let g = next.numbers in fine_number under w.numbers act p below (omega (arith, g)));
    numbers = λ r less. either r (split r w.numbers less);
    masks = λ m less. or_kept (m == 0) (writes_mask m) w.steps _ (h.masks m less);
    slots = λ slot axis above. none_more (gives slot axis) w.steps _ (h.slots slot axis above) (gives_none slot axis under w.numbers act p.makes);
  } where
    either : (r : ℕ) → (r < w.numbers) ⊎ (r ≡ w.numbers) → list_any (writes_number r) (w.steps ++ instr under w.numbers act ∷ []) ≡ true
    either r (inl less) = any_more (writes_number r) w.steps _ (h.numbers r less)
    either r (inr is) = any_last (writes_number r) w.steps _ (and_holds _ _ p.makes (ap (λ n. w.numbers == n) is ∙ same_number w.numbers))

  after_mask : (under : ℕ) (act : Lane) → makes_mask act ≡ true → ((slot : ℕ) (axis : Axis) → gives slot axis (instr under w.masks act) ≡ false) → is_fine raw w.steps (instr under w.masks act) ≡ true → IsValid raw (with_mask under act w)
  after_mask under act makes none fine = record {
    one = let one = h.one in omega (arith, one);
    fine = fine_more raw [] w.steps _ h.fine fine;
    numbers = λ r less. any_more (writes_number r) w.steps _ (h.numbers r less);
    masks = λ m less. either m (split m w.masks less);
    slots = λ slot axis above. none_more (gives slot axis) w.steps _ (h.slots slot axis above) (none slot axis);
  } where
    either : (m : ℕ) → (m < w.masks) ⊎ (m ≡ w.masks) → (m == 0 || list_any (writes_mask m) (w.steps ++ instr under w.masks act ∷ [])) ≡ true
    either m (inl less) = or_kept (m == 0) (writes_mask m) w.steps _ (h.masks m less)
    either m (inr is) = or_later (m == 0) _ (any_last (writes_mask m) w.steps _ (and_holds _ _ makes (ap (λ n. w.masks == n) is ∙ same_number w.masks)))

  after_copy : (under out from : ℕ) → under < w.masks → out < w.numbers → from < w.numbers → IsValid raw (with_copy under out from w)
  after_copy under out from below there read = record {
    one = h.one;
    fine = fine_more raw [] w.steps _ h.fine (let g = room.numbers in fine_number under out (lanes.Copy from) (record { makes = refl; there = refl; little = refl; reads = (read, tt) }) below (omega (arith, there, g)));
    numbers = λ r less. any_more (writes_number r) w.steps _ (h.numbers r less);
    masks = λ m less. or_kept (m == 0) (writes_mask m) w.steps _ (h.masks m less);
    slots = λ slot axis above. none_more (gives slot axis) w.steps _ (h.slots slot axis above) refl;
  }

  -- a component of the next slot, where instructions that give nothing of it, or other components, come before it
  fine_gift : (before : List Instr) (under from : ℕ) (axis : Axis) → list_all (is_mask_known raw before) (under ∷ []) ≡ true → list_all (is_number_known raw before) (from ∷ []) ≡ true → w.slots < raw.slots → list_any (gives w.slots axis) before ≡ false
      → is_fine raw before (instr under 0 (lanes.Give w.slots axis from)) ≡ true
  fine_gift before under from axis mask number some none = and_holds _ _ mask (and_holds _ _ number (and_holds _ _ (lt-ltb w.slots raw.slots some) (ap not none)))

  given_before : (slot : ℕ) (axis along : Axis) (under from : ℕ) → w.slots + 1 ≤ slot → gives slot axis (instr under 0 (lanes.Give w.slots along from)) ≡ false
  given_before slot axis along under from above = ap (λ b. b && is_axis along axis) (not_same w.slots slot (λ e. omega (arith, above, e)))

  after_gift : (under from : ℕ) → under < w.masks → from < w.numbers → w.slots < raw.slots → IsValid raw (with_slot (with_part X from under w))
  after_gift under from below read some = record {
    one = h.one;
    fine = fine_more raw [] w.steps _ h.fine (fine_gift w.steps under from X (one_known under below) (numbers_known (from ∷ []) (read, tt)) some (h.slots w.slots X (omega arith)));
    numbers = λ r less. any_more (writes_number r) w.steps _ (h.numbers r less);
    masks = λ m less. or_kept (m == 0) (writes_mask m) w.steps _ (h.masks m less);
    slots = λ slot axis above. none_more (gives slot axis) w.steps _ (h.slots slot axis (omega (arith, above))) (given_before slot axis X under from above);
  }

  -- after a part, what was known is known
  module _ (x : Instr) where
    mask_still : (m : ℕ) → m < w.masks → list_all (is_mask_known raw (w.steps ++ x ∷ [])) (m ∷ []) ≡ true
    mask_still m below = let g = room.masks in and_holds _ _ (and_holds _ _ (lt-ltb m raw.masks (omega (arith, below, g))) (or_kept (m == 0) (writes_mask m) w.steps x (h.masks m below))) refl

    number_still : (r : ℕ) → r < w.numbers → list_all (is_number_known raw (w.steps ++ x ∷ [])) (r ∷ []) ≡ true
    number_still r below = let g = room.numbers in and_holds _ _ (and_holds _ _ (lt-ltb r raw.numbers (omega (arith, below, g))) (any_more (writes_number r) w.steps x (h.numbers r below))) refl

    module _ (y : Instr) where
      mask_still_2 : (m : ℕ) → m < w.masks → list_all (is_mask_known raw ((w.steps ++ x ∷ []) ++ y ∷ [])) (m ∷ []) ≡ true
      mask_still_2 m below = let g = room.masks in and_holds _ _ (and_holds _ _ (lt-ltb m raw.masks (omega (arith, below, g))) (or_kept (m == 0) (writes_mask m) (w.steps ++ x ∷ []) y (or_kept (m == 0) (writes_mask m) w.steps x (h.masks m below)))) refl

      number_still_2 : (r : ℕ) → r < w.numbers → list_all (is_number_known raw ((w.steps ++ x ∷ []) ++ y ∷ [])) (r ∷ []) ≡ true
      number_still_2 r below = let g = room.numbers in and_holds _ _ (and_holds _ _ (lt-ltb r raw.numbers (omega (arith, below, g))) (any_more (writes_number r) (w.steps ++ x ∷ []) y (any_more (writes_number r) w.steps x (h.numbers r below)))) refl

  after_gifts : (under a b c : ℕ) → under < w.masks → a < w.numbers → b < w.numbers → c < w.numbers → w.slots < raw.slots → IsValid raw (with_slot (with_part Z c under (with_part Y b under (with_part X a under w))))
  after_gifts under a b c below read_a read_b read_c some =
      let x : Instr = instr under 0 (lanes.Give w.slots X a) in
      let y : Instr = instr under 0 (lanes.Give w.slots Y b) in
      let z : Instr = instr under 0 (lanes.Give w.slots Z c) in
      let one : List Instr = w.steps ++ x ∷ [] in
      let two : List Instr = one ++ y ∷ [] in
      let fresh : (axis : Axis) → list_any (gives w.slots axis) w.steps ≡ false = λ axis. h.slots w.slots axis (omega arith) in
      let fine_x = fine_more raw [] w.steps x h.fine (fine_gift w.steps under a X (one_known under below) (numbers_known (a ∷ []) (read_a, tt)) some (fresh X)) in
      let fine_y = fine_more raw [] one y fine_x (fine_gift one under b Y (mask_still x under below) (number_still x b read_b) some (none_more (gives w.slots Y) w.steps x (fresh Y) (and_false (w.slots == w.slots) false refl))) in
      let fine_z = fine_more raw [] two z fine_y (fine_gift two under c Z (mask_still_2 x y under below) (number_still_2 x y c read_c) some
      (none_more (gives w.slots Z) one y (none_more (gives w.slots Z) w.steps x (fresh Z) (and_false (w.slots == w.slots) false refl)) (and_false (w.slots == w.slots) false refl))) in
      record {
        one = h.one;
        fine = fine_z;
        numbers = λ r less. any_more (writes_number r) two z (any_more (writes_number r) one y (any_more (writes_number r) w.steps x (h.numbers r less)));
        masks = λ m less. or_kept (m == 0) (writes_mask m) two z (or_kept (m == 0) (writes_mask m) one y (or_kept (m == 0) (writes_mask m) w.steps x (h.masks m less)));
        slots = λ slot axis above. none_more (gives slot axis) two z (none_more (gives slot axis) one y (none_more (gives slot axis) w.steps x (h.slots slot axis (omega (arith, above))) (given_before slot axis X under a above)) (given_before slot axis Y under b above)) (given_before slot axis Z under c above);
      }

room_before : (raw s w : RawCode) → Grows s w → Room raw w → Room raw s
room_before raw s w g r = let a = g.numbers in let b = g.masks in let c = g.slots in let d = r.numbers in let e = r.masks in let f = r.slots in
    record { numbers = omega (arith, a, d); masks = omega (arith, b, e); slots = omega (arith, c, f) }

-- whatever is written in order is valid, in a code that has room for it
pub stays_valid : {expressions : Bool} {u : ℕ} {s w : RawCode} → (raw : RawCode) → Tidy expressions u s w → Room raw w → IsValid raw s → IsValid raw w
stays_valid raw tidy.same room h = h
stays_valid raw (tidy.number w under act t a b c) room h =
    let r = room_before raw w (with_number under act w) (record { numbers = omega arith; masks = omega arith; slots = omega arith }) room in
    after_number raw w r (stays_valid raw t r h) under act c b room
stays_valid raw (tidy.compare w under relation x y t a b c d) room h =
    let r = room_before raw w (with_mask under (lanes.Compare relation x y) w) (record { numbers = omega arith; masks = omega arith; slots = omega arith }) room in
    let v = stays_valid raw t r h in
    after_mask raw w r v under (lanes.Compare relation x y) refl (λ slot axis. refl)
    (and_holds _ _ (one_known raw w r v under b) (and_holds _ _ (numbers_known raw w r v (x ∷ y ∷ []) (c, (d, tt))) (and_holds _ _ (new_mask raw w r v room.masks) refl)))
stays_valid raw (tidy.and_not w under m n t a b c) room h =
    let r = room_before raw w (with_mask under (lanes.AndNot m n) w) (record { numbers = omega arith; masks = omega arith; slots = omega arith }) room in
    let v = stays_valid raw t r h in
    after_mask raw w r v under (lanes.AndNot m n) refl (λ slot axis. refl) (and_holds _ _ (two_known raw w r v m n b c) (and_holds _ _ (new_mask raw w r v room.masks) refl))
stays_valid raw (tidy.either w under m n t a b c d) room h =
    let r = room_before raw w (with_mask under (lanes.Or m n) w) (record { numbers = omega arith; masks = omega arith; slots = omega arith }) room in
    let v = stays_valid raw t r h in
    after_mask raw w r v under (lanes.Or m n) refl (λ slot axis. refl) (and_holds _ _ (two_known raw w r v m n c d) (and_holds _ _ (new_mask raw w r v room.masks) refl))
stays_valid raw (tidy.copied w under out from t a b c d e) room h = let r : Room raw w = record { numbers = room.numbers; masks = room.masks; slots = room.slots } in after_copy raw w r (stays_valid raw t r h) under out from c d e
stays_valid raw (tidy.no_gift w t a) room h =
    let r = room_before raw w (with_slot w) (record { numbers = omega arith; masks = omega arith; slots = omega arith }) room in
    let v = stays_valid raw t r h in
    record { one = v.one; fine = v.fine; numbers = v.numbers; masks = v.masks; slots = λ slot axis above. v.slots slot axis (omega (arith, above)) }
stays_valid raw (tidy.gift w under from t a b c d) room h =
    let r = room_before raw w (with_slot w) (record { numbers = omega arith; masks = omega arith; slots = omega arith }) (record { numbers = room.numbers; masks = room.masks; slots = room.slots }) in
    let g = room.slots in
    after_gift raw w r (stays_valid raw t r h) under from c d (omega (arith, g))
stays_valid raw (tidy.gifts w under x y z t a b c d e f) room h =
    let r = room_before raw w (with_slot w) (record { numbers = omega arith; masks = omega arith; slots = omega arith }) (record { numbers = room.numbers; masks = room.masks; slots = room.slots }) in
    let g = room.slots in
    after_gifts raw w r (stays_valid raw t r h) under x y z c d e f (omega (arith, g))
