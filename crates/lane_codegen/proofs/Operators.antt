-- Operators, in a lane in which their operands have values.
use Rattle.std.proofs.Common.{◌≡◌, ℕ, ◌+◌, ◌-◌, ◌<◌, ◌≤◌, ◌^◌, length, Bool, true, false, cond, ◌&&◌, ◌||◌, Some, Result, Ok, ℤ, pos, ◌*ℤ◌, refl, ap, ◌∙◌, arith}
use Rattle.std.specs.Prelude.{not, nat_le, ◌%◌, ◌==◌, int_div}
use Rattle.pf_num.specs.declared.fault.NumFault.{NumFault}
use Rattle.pf_num.specs.Exact.{exact}
use Rattle.pf_num.specs.Scale.{rescaled}
use Rattle.kern_tree.specs.declared.expr.Op1.{Op1}
use Rattle.kern_tree.specs.declared.expr.Op1.TheVariants as op1s
use Rattle.kern_tree.specs.declared.expr.Op2.{Op2}
use Rattle.kern_tree.specs.declared.expr.Op2.TheVariants as op2s
use Rattle.kern_tree.specs.declared.expr.Op3.{Op3}
use Rattle.kern_tree.specs.declared.expr.Op3.TheVariants as op3s
use Rattle.kern_tree.specs.declared.kernel.Kind.{Kind}
use Rattle.kern_tree.specs.declared.kernel.Kind.TheVariants as kinds
use Rattle.kern_types.specs.declared.expr_type.ExprType.TheVariants as types
use Rattle.kern_types.specs.Forms.{scaled_if}
use Rattle.kern_meaning.specs.declared.value.Value.{Value}
use Rattle.kern_meaning.specs.declared.value.Value.TheVariants as values
use Rattle.kern_meaning.specs.Operators.{num, vec_of, one_value, two_value, three_value, to_value, part_value, muldiv_fits}
use Rattle.kern_meaning.specs.Stops.{OrStop, only_if}
use Rattle.lane_code.specs.declared.code.RawCode.{RawCode}
use Rattle.lane_code.specs.declared.instruction.Lane.{Lane}
use Rattle.lane_code.specs.declared.instruction.Lane.TheVariants as lanes
use Rattle.lane_code.specs.declared.instruction.Relation.{Relation}
use Rattle.lane_code.specs.Steps.{are_related, mask_at, number_at, number_of}
use Rattle.lane_codegen.specs.declared.acts.Acts.{Acts}
use Rattle.lane_codegen.specs.declared.place.Place.{Place}
use Rattle.lane_codegen.specs.declared.place.Place.TheVariants.{Scaled, Condition}
use Rattle.lane_codegen.specs.declared.place.Registers.{Registers}
use Rattle.lane_codegen.specs.Acts.{both_acts, one_acts, spread, to_act, to_acts, two_act}
use Rattle.lane_codegen.specs.Expressions.{one_made, part_made, three_made, to_made, two_made}
use Rattle.lane_codegen.specs.Writing.{Made, nothing_made, typed_made, value_made, with_number, with_numbers}
use Rattle.pf_geom.specs.declared.axis.Axis.{Axis}
use Rattle.pf_geom.specs.declared.axis.Axis.TheVariants.{X, Y, Z}
use Rattle.pf_model.specs.Particle.{Particle}
use Rattle.pf_model.specs.Totals.{Source}
use Rattle.lane_codegen.proofs.Evaluates.{Evaluates, mask_evaluates, num_evaluates, value_at, vec_evaluates}
use Rattle.lane_codegen.proofs.Idle.{lane}
use Rattle.lane_codegen.proofs.Runs.{Running, run_lengths}
use Rattle.lane_codegen.proofs.Sound.{AreThere, ArePlain, Within, build_plain, dot_plain, muldiv_plain, plain_two, to_plain}
use Rattle.lane_codegen.proofs.Tidy.{IsPlain}
use Rattle.lane_codegen.proofs.Tidy as tidy

-- there is room for so many registers
pub record Fits (start : Running) (w : RawCode) : Type 0 where
  pub numbers : w.numbers ≤ length start.state.numbers
  pub masks : w.masks ≤ length start.state.masks

module _ (i : Particle) (j : Source) (start : Running) (u : ℕ) (w : RawCode) (l : Running) (is : lane i j start w ≡ Some l) (masked : mask_at l.state.masks u ≡ true) (there : u < w.masks) where
  long : length l.state.numbers ≡ length start.state.numbers
  long = (run_lengths i j w.steps start l is).numbers

  many : length l.state.masks ≡ length start.state.masks
  many = (run_lengths i j w.steps start l is).masks

  pub num_at : (scale : ℕ) (acts : Acts) (r : Result ℤ NumFault) → ArePlain w.numbers acts → number_of i j l.state.numbers acts.x ≡ Some r → Fits start (with_number u acts.x w) → Evaluates i j start (value_made (types.Scaled kinds.Num scale) acts u w) (num scale r)
  num_at scale acts r p e fits = let f = fits.numbers in let g = long in num_evaluates i j start u w l is masked (omega (arith, f, g)) scale acts r p e

  pub vec_at : (scale : ℕ) (acts : Acts) (r1 r2 r3 : Result ℤ NumFault) → ArePlain w.numbers acts → number_of i j l.state.numbers acts.x ≡ Some r1 → number_of i j l.state.numbers acts.y ≡ Some r2 → number_of i j l.state.numbers acts.z ≡ Some r3 → Fits start (with_numbers kinds.Vec3 acts u w)
      → Evaluates i j start (value_made (types.Scaled kinds.Vec3 scale) acts u w) (vec_of scale r1 r2 r3)
  vec_at scale acts r1 r2 r3 p e1 e2 e3 fits = let f = fits.numbers in let g = long in vec_evaluates i j start u w l is masked (omega (arith, f, g)) scale acts p r1 r2 r3 e1 e2 e3

  scaled_num : (p : ℕ) (test : Bool) (scale : ℕ) (acts : Acts) (r : Result ℤ NumFault) → ArePlain w.numbers acts → number_of i j l.state.numbers acts.x ≡ Some r → Fits start (typed_made (scaled_if p test (types.Scaled kinds.Num scale)) acts u w).1
      → Evaluates i j start (typed_made (scaled_if p test (types.Scaled kinds.Num scale)) acts u w) (only_if test (num scale r))
  scaled_num p true scale acts r h e fits = num_at scale acts r h e fits
  scaled_num p false scale acts r h e fits = tt

  scaled_vec : (p : ℕ) (test : Bool) (scale : ℕ) (acts : Acts) (r1 r2 r3 : Result ℤ NumFault) → ArePlain w.numbers acts → number_of i j l.state.numbers acts.x ≡ Some r1 → number_of i j l.state.numbers acts.y ≡ Some r2 → number_of i j l.state.numbers acts.z ≡ Some r3
      → Fits start (typed_made (scaled_if p test (types.Scaled kinds.Vec3 scale)) acts u w).1 → Evaluates i j start (typed_made (scaled_if p test (types.Scaled kinds.Vec3 scale)) acts u w) (only_if test (vec_of scale r1 r2 r3))
  scaled_vec p true scale acts r1 r2 r3 h e1 e2 e3 fits = vec_at scale acts r1 r2 r3 h e1 e2 e3 fits
  scaled_vec p false scale acts r1 r2 r3 h e1 e2 e3 fits = tt

  compared : (p : ℕ) (test : Bool) (relation : Relation) (a b : ℕ) (y z : Lane) → Fits start (typed_made (scaled_if p test types.Condition) (record { x = lanes.Compare relation a b; y = y; z = z }) u w).1
      → Evaluates i j start (typed_made (scaled_if p test types.Condition) (record { x = lanes.Compare relation a b; y = y; z = z }) u w) (only_if test (Ok (values.Condition (are_related relation (number_at l.state.numbers a) (number_at l.state.numbers b)))))
  compared p true relation a b y z fits =
      let f = fits.masks in let g = many in
      mask_evaluates i j start u w l (lanes.Compare relation a b) y z (are_related relation (number_at l.state.numbers a) (number_at l.state.numbers b)) is (omega (arith, f, g)) refl (ap (λ m. Some (m && are_related relation (number_at l.state.numbers a) (number_at l.state.numbers b))) masked) refl
  compared p false relation a b y z fits = tt

  -- ---- one operand

  one_plain : (op : Op1) (at : Registers) → AreThere w.numbers at → ArePlain w.numbers (one_acts op at)
  one_plain op1s.Neg at h = record { x = record { makes = refl; there = refl; little = refl; reads = (h.x, tt) }; y = record { makes = refl; there = refl; little = refl; reads = (h.y, tt) }; z = record { makes = refl; there = refl; little = refl; reads = (h.z, tt) } }
  one_plain op1s.Not at h = record { x = record { makes = refl; there = refl; little = refl; reads = (h.x, tt) }; y = record { makes = refl; there = refl; little = refl; reads = (h.y, tt) }; z = record { makes = refl; there = refl; little = refl; reads = (h.z, tt) } }
  one_plain op1s.Isqrt at h = record { x = record { makes = refl; there = refl; little = refl; reads = (h.x, tt) }; y = record { makes = refl; there = refl; little = refl; reads = (h.y, tt) }; z = record { makes = refl; there = refl; little = refl; reads = (h.z, tt) } }
  one_plain op1s.Abs at h = record { x = record { makes = refl; there = refl; little = refl; reads = (h.x, tt) }; y = record { makes = refl; there = refl; little = refl; reads = (h.y, tt) }; z = record { makes = refl; there = refl; little = refl; reads = (h.z, tt) } }

  pub one_runs : (p : ℕ) (op : Op1) (a : Place) (base : ℕ) → Within base w a → Fits start (one_made p op a u w).1 → Evaluates i j start (one_made p op a u w) (one_value op (value_at a l.state))
  one_runs p op1s.Neg (Scaled kinds.Num s at) base h fits = num_at s (one_acts op1s.Neg at) _ (one_plain op1s.Neg at h) refl fits
  one_runs p op1s.Neg (Scaled kinds.Vec3 s at) base h fits = vec_at s (one_acts op1s.Neg at) _ _ _ (one_plain op1s.Neg at h) refl refl refl fits
  one_runs p op1s.Not (Condition mask) base h fits =
      let f = fits.masks in let g = many in
      mask_evaluates i j start u w l (lanes.AndNot u mask) (lanes.AndNot u mask) (lanes.AndNot u mask) (not (mask_at l.state.masks mask)) is (omega (arith, f, g)) refl (ap (λ m. Some (m && not (mask_at l.state.masks mask))) masked) refl
  one_runs p op1s.Isqrt (Scaled kinds.Num s at) base h fits = scaled_num p (s % 2 == 0) _ (one_acts op1s.Isqrt at) _ (one_plain op1s.Isqrt at h) refl fits
  one_runs p op1s.Abs (Scaled kinds.Num s at) base h fits = num_at s (one_acts op1s.Abs at) _ (one_plain op1s.Abs at h) refl fits
  one_runs p op1s.Not (Scaled kinds.Num s at) base h fits = tt
  one_runs p op1s.Not (Scaled kinds.Vec3 s at) base h fits = tt
  one_runs p op1s.Isqrt (Scaled kinds.Vec3 s at) base h fits = tt
  one_runs p op1s.Abs (Scaled kinds.Vec3 s at) base h fits = tt
  one_runs p op1s.Neg (Condition mask) base h fits = tt
  one_runs p op1s.Isqrt (Condition mask) base h fits = tt
  one_runs p op1s.Abs (Condition mask) base h fits = tt

  -- ---- two operands

  module _ (p : ℕ) (a b : Registers) (ha : AreThere w.numbers a) (hb : AreThere w.numbers b) where
    plain_both : (k m : Kind) (op : Op2) → ((x y : ℕ) → x < w.numbers → y < w.numbers → IsPlain w.numbers (two_act op x y)) → ArePlain w.numbers (both_acts op (spread k a) (spread m b))
    plain_both k m op h = plain_two u w w tidy.same there p a b ha hb k m op h

    scaled_two : (op : Op2) (k : Kind) (s : ℕ) (m : Kind) (t : ℕ) → Fits start (two_made p op (Scaled k s a) (Scaled m t b) u w).1 → Evaluates i j start (two_made p op (Scaled k s a) (Scaled m t b) u w) (two_value op (value_at (Scaled k s a) l.state) (value_at (Scaled m t b) l.state))
    scaled_two op2s.Add kinds.Num s kinds.Num t fits = scaled_num p (s == t) s _ _ (plain_both kinds.Num kinds.Num op2s.Add (λ x y h k. record { makes = refl; there = refl; little = refl; reads = (h, (k, tt)) })) refl fits
    scaled_two op2s.Add kinds.Vec3 s kinds.Vec3 t fits = scaled_vec p (s == t) s _ _ _ _ (plain_both kinds.Vec3 kinds.Vec3 op2s.Add (λ x y h k. record { makes = refl; there = refl; little = refl; reads = (h, (k, tt)) })) refl refl refl fits
    scaled_two op2s.Sub kinds.Num s kinds.Num t fits = scaled_num p (s == t) s _ _ (plain_both kinds.Num kinds.Num op2s.Sub (λ x y h k. record { makes = refl; there = refl; little = refl; reads = (h, (k, tt)) })) refl fits
    scaled_two op2s.Sub kinds.Vec3 s kinds.Vec3 t fits = scaled_vec p (s == t) s _ _ _ _ (plain_both kinds.Vec3 kinds.Vec3 op2s.Sub (λ x y h k. record { makes = refl; there = refl; little = refl; reads = (h, (k, tt)) })) refl refl refl fits
    scaled_two op2s.Mul kinds.Num s kinds.Num t fits = scaled_num p (nat_le (s + t) 62) (s + t) _ _ (plain_both kinds.Num kinds.Num op2s.Mul (λ x y h k. record { makes = refl; there = refl; little = refl; reads = (h, (k, tt)) })) refl fits
    scaled_two op2s.Mul kinds.Num s kinds.Vec3 t fits = scaled_vec p (nat_le (s + t) 62) (s + t) _ _ _ _ (plain_both kinds.Num kinds.Vec3 op2s.Mul (λ x y h k. record { makes = refl; there = refl; little = refl; reads = (h, (k, tt)) })) refl refl refl fits
    scaled_two op2s.Mul kinds.Vec3 s kinds.Num t fits = scaled_vec p (nat_le (s + t) 62) (s + t) _ _ _ _ (plain_both kinds.Vec3 kinds.Num op2s.Mul (λ x y h k. record { makes = refl; there = refl; little = refl; reads = (h, (k, tt)) })) refl refl refl fits
    scaled_two op2s.Mul kinds.Vec3 s kinds.Vec3 t fits = scaled_num p (nat_le (s + t) 62) (s + t) _ _ (dot_plain u w w tidy.same there p a b ha hb) refl fits
    scaled_two op2s.Div kinds.Num s kinds.Num t fits = scaled_num p (nat_le t s) (s - t) _ _ (plain_both kinds.Num kinds.Num op2s.Div (λ x y h k. record { makes = refl; there = refl; little = refl; reads = (h, (k, tt)) })) refl fits
    scaled_two op2s.Div kinds.Vec3 s kinds.Num t fits = scaled_vec p (nat_le t s) (s - t) _ _ _ _ (plain_both kinds.Vec3 kinds.Num op2s.Div (λ x y h k. record { makes = refl; there = refl; little = refl; reads = (h, (k, tt)) })) refl refl refl fits
    scaled_two op2s.Lt kinds.Num s kinds.Num t fits = compared p (s == t) _ _ _ _ _ fits
    scaled_two op2s.Le kinds.Num s kinds.Num t fits = compared p (s == t) _ _ _ _ _ fits
    scaled_two op2s.Gt kinds.Num s kinds.Num t fits = compared p (s == t) _ _ _ _ _ fits
    scaled_two op2s.Ge kinds.Num s kinds.Num t fits = compared p (s == t) _ _ _ _ _ fits
    scaled_two op2s.Eq kinds.Num s kinds.Num t fits = compared p (s == t) _ _ _ _ _ fits
    scaled_two op2s.Ne kinds.Num s kinds.Num t fits = compared p (s == t) _ _ _ _ _ fits
    scaled_two op2s.Least kinds.Num s kinds.Num t fits = scaled_num p (s == t) s _ (Ok _) (plain_both kinds.Num kinds.Num op2s.Least (λ x y h k. record { makes = refl; there = refl; little = refl; reads = (h, (k, tt)) })) refl fits
    scaled_two op2s.Most kinds.Num s kinds.Num t fits = scaled_num p (s == t) s _ (Ok _) (plain_both kinds.Num kinds.Num op2s.Most (λ x y h k. record { makes = refl; there = refl; little = refl; reads = (h, (k, tt)) })) refl fits
    scaled_two op2s.Lt kinds.Num s kinds.Vec3 t fits = tt
    scaled_two op2s.Lt kinds.Vec3 s m t fits = tt
    scaled_two op2s.Le kinds.Num s kinds.Vec3 t fits = tt
    scaled_two op2s.Le kinds.Vec3 s m t fits = tt
    scaled_two op2s.Gt kinds.Num s kinds.Vec3 t fits = tt
    scaled_two op2s.Gt kinds.Vec3 s m t fits = tt
    scaled_two op2s.Ge kinds.Num s kinds.Vec3 t fits = tt
    scaled_two op2s.Ge kinds.Vec3 s m t fits = tt
    scaled_two op2s.Eq kinds.Num s kinds.Vec3 t fits = tt
    scaled_two op2s.Eq kinds.Vec3 s m t fits = tt
    scaled_two op2s.Ne kinds.Num s kinds.Vec3 t fits = tt
    scaled_two op2s.Ne kinds.Vec3 s m t fits = tt
    scaled_two op2s.And k s m t fits = tt
    scaled_two op2s.Or k s m t fits = tt
    scaled_two op2s.Add kinds.Num s kinds.Vec3 t fits = tt
    scaled_two op2s.Add kinds.Vec3 s kinds.Num t fits = tt
    scaled_two op2s.Sub kinds.Num s kinds.Vec3 t fits = tt
    scaled_two op2s.Sub kinds.Vec3 s kinds.Num t fits = tt
    scaled_two op2s.Div kinds.Num s kinds.Vec3 t fits = tt
    scaled_two op2s.Div kinds.Vec3 s kinds.Vec3 t fits = tt
    scaled_two op2s.Least kinds.Num s kinds.Vec3 t fits = tt
    scaled_two op2s.Least kinds.Vec3 s m t fits = tt
    scaled_two op2s.Most kinds.Num s kinds.Vec3 t fits = tt
    scaled_two op2s.Most kinds.Vec3 s m t fits = tt

  no_left : (op : Op2) (mask : ℕ) (b : Place) (made : Made) → Evaluates i j start made (two_value op (value_at (Condition mask) l.state) (value_at b l.state))
  no_left op2s.Add mask b made = tt
  no_left op2s.Sub mask b made = tt
  no_left op2s.Mul mask b made = tt
  no_left op2s.Div mask b made = tt
  no_left op2s.Lt mask b made = tt
  no_left op2s.Le mask b made = tt
  no_left op2s.Gt mask b made = tt
  no_left op2s.Ge mask b made = tt
  no_left op2s.Eq mask b made = tt
  no_left op2s.Ne mask b made = tt
  no_left op2s.And mask b made = tt
  no_left op2s.Or mask b made = tt
  no_left op2s.Least mask b made = tt
  no_left op2s.Most mask b made = tt

  no_right : (op : Op2) (kind : Kind) (s : ℕ) (a : Registers) (mask : ℕ) (made : Made) → Evaluates i j start made (two_value op (value_at (Scaled kind s a) l.state) (value_at (Condition mask) l.state))
  no_right op2s.And kind s a mask made = tt
  no_right op2s.Or kind s a mask made = tt
  no_right op2s.Add kinds.Num s a mask made = tt
  no_right op2s.Add kinds.Vec3 s a mask made = tt
  no_right op2s.Sub kinds.Num s a mask made = tt
  no_right op2s.Sub kinds.Vec3 s a mask made = tt
  no_right op2s.Mul kinds.Num s a mask made = tt
  no_right op2s.Mul kinds.Vec3 s a mask made = tt
  no_right op2s.Div kinds.Num s a mask made = tt
  no_right op2s.Div kinds.Vec3 s a mask made = tt
  no_right op2s.Least kinds.Num s a mask made = tt
  no_right op2s.Least kinds.Vec3 s a mask made = tt
  no_right op2s.Most kinds.Num s a mask made = tt
  no_right op2s.Most kinds.Vec3 s a mask made = tt
  no_right op2s.Lt kinds.Num s a mask made = tt
  no_right op2s.Lt kinds.Vec3 s a mask made = tt
  no_right op2s.Le kinds.Num s a mask made = tt
  no_right op2s.Le kinds.Vec3 s a mask made = tt
  no_right op2s.Gt kinds.Num s a mask made = tt
  no_right op2s.Gt kinds.Vec3 s a mask made = tt
  no_right op2s.Ge kinds.Num s a mask made = tt
  no_right op2s.Ge kinds.Vec3 s a mask made = tt
  no_right op2s.Eq kinds.Num s a mask made = tt
  no_right op2s.Eq kinds.Vec3 s a mask made = tt
  no_right op2s.Ne kinds.Num s a mask made = tt
  no_right op2s.Ne kinds.Vec3 s a mask made = tt

  pub two_runs : (p : ℕ) (op : Op2) (a b : Place) (base : ℕ) → Within base w a → Within base w b → Fits start (two_made p op a b u w).1 → Evaluates i j start (two_made p op a b u w) (two_value op (value_at a l.state) (value_at b l.state))
  two_runs p op (Scaled k s a) (Scaled m t b) base ha hb fits = scaled_two p a b ha hb op k s m t fits
  two_runs p op (Scaled k s a) (Condition n) base ha hb fits = no_right op k s a n (nothing_made u w)
  two_runs p op (Condition n) b base ha hb fits = no_left op n b (nothing_made u w)

  -- ---- three operands

  module _ (p : ℕ) (a b c : Registers) (ha : AreThere w.numbers a) (hb : AreThere w.numbers b) (hc : AreThere w.numbers c) where
    scaled_three : (op : Op3) (k : Kind) (s : ℕ) (m : Kind) (t : ℕ) (n : Kind) (v : ℕ) → Fits start (three_made p op (Scaled k s a) (Scaled m t b) (Scaled n v c) u w).1
        → Evaluates i j start (three_made p op (Scaled k s a) (Scaled m t b) (Scaled n v c) u w) (three_value op (value_at (Scaled k s a) l.state) (value_at (Scaled m t b) l.state) (value_at (Scaled n v c) l.state))
    scaled_three op3s.Muldiv kinds.Num s kinds.Num t kinds.Num v fits = scaled_num p (muldiv_fits s t v) (s + t - v) _ _ (muldiv_plain u w w tidy.same there p a b c ha hb hc) refl fits
    scaled_three op3s.Muldiv kinds.Num s kinds.Vec3 t kinds.Num v fits = scaled_vec p (muldiv_fits s t v) (s + t - v) _ _ _ _ (muldiv_plain u w w tidy.same there p a b c ha hb hc) refl refl refl fits
    scaled_three op3s.Build kinds.Num s kinds.Num t kinds.Num v fits = scaled_vec p (s == t && t == v) s _ (Ok _) (Ok _) (Ok _) (build_plain u w w tidy.same there p a b c ha hb hc) refl refl refl fits
    scaled_three op3s.Muldiv kinds.Vec3 s m t n v fits = tt
    scaled_three op3s.Muldiv kinds.Num s kinds.Num t kinds.Vec3 v fits = tt
    scaled_three op3s.Muldiv kinds.Num s kinds.Vec3 t kinds.Vec3 v fits = tt
    scaled_three op3s.Build kinds.Vec3 s m t n v fits = tt
    scaled_three op3s.Build kinds.Num s kinds.Vec3 t n v fits = tt
    scaled_three op3s.Build kinds.Num s kinds.Num t kinds.Vec3 v fits = tt

  pub three_runs : (p : ℕ) (op : Op3) (a b c : Place) (base : ℕ) → Within base w a → Within base w b → Within base w c → Fits start (three_made p op a b c u w).1
      → Evaluates i j start (three_made p op a b c u w) (three_value op (value_at a l.state) (value_at b l.state) (value_at c l.state))
  three_runs p op (Scaled k s a) (Scaled m t b) (Scaled n v c) base ha hb hc fits = scaled_three p a b c ha hb hc op k s m t n v fits
  three_runs p op3s.Muldiv (Condition x) b c base ha hb hc fits = tt
  three_runs p op3s.Build (Condition x) b c base ha hb hc fits = tt
  three_runs p op3s.Muldiv (Scaled kinds.Num s a) (Condition x) c base ha hb hc fits = tt
  three_runs p op3s.Muldiv (Scaled kinds.Vec3 s a) (Condition x) c base ha hb hc fits = tt
  three_runs p op3s.Build (Scaled kinds.Num s a) (Condition x) c base ha hb hc fits = tt
  three_runs p op3s.Build (Scaled kinds.Vec3 s a) (Condition x) c base ha hb hc fits = tt
  three_runs p op3s.Muldiv (Scaled kinds.Num s a) (Scaled kinds.Num t b) (Condition x) base ha hb hc fits = tt
  three_runs p op3s.Muldiv (Scaled kinds.Num s a) (Scaled kinds.Vec3 t b) (Condition x) base ha hb hc fits = tt
  three_runs p op3s.Muldiv (Scaled kinds.Vec3 s a) (Scaled m t b) (Condition x) base ha hb hc fits = tt
  three_runs p op3s.Build (Scaled kinds.Num s a) (Scaled kinds.Num t b) (Condition x) base ha hb hc fits = tt
  three_runs p op3s.Build (Scaled kinds.Num s a) (Scaled kinds.Vec3 t b) (Condition x) base ha hb hc fits = tt
  three_runs p op3s.Build (Scaled kinds.Vec3 s a) (Scaled m t b) (Condition x) base ha hb hc fits = tt

  -- ---- scales and components

  to_number : (to scale a : ℕ) → nat_le to 62 ≡ true → nat_le scale 62 ≡ true → number_of i j l.state.numbers (to_act to scale a) ≡ Some (exact (rescaled (number_at l.state.numbers a) scale to))
  unfolding rescaled
  to_number to scale a e f =
      ap (λ b. number_of i j l.state.numbers (cond (not b || not (nat_le scale 62)) (lanes.Const (pos 0)) (cond (nat_le scale to) (lanes.Up a (to - scale)) (lanes.Down a (scale - to))))) e
      ∙ ap (λ b. number_of i j l.state.numbers (cond (not b) (lanes.Const (pos 0)) (cond (nat_le scale to) (lanes.Up a (to - scale)) (lanes.Down a (scale - to))))) f
      ∙ by_test (nat_le scale to) where
        by_test : (z : Bool) → number_of i j l.state.numbers (cond z (lanes.Up a (to - scale)) (lanes.Down a (scale - to))) ≡ Some (exact (cond z (number_at l.state.numbers a *ℤ pos (2 ^ (to - scale))) (int_div (number_at l.state.numbers a) (pos (2 ^ (scale - to))))))
        by_test true = refl
        by_test false = refl

  module _ (p to s : ℕ) (at : Registers) (h : AreThere w.numbers at) where
    plain : ArePlain w.numbers (to_acts to s at)
    plain = record { x = to_plain u w w tidy.same there to s at.x h.x; y = to_plain u w w tidy.same there to s at.y h.y; z = to_plain u w w tidy.same there to s at.z h.z }

    abbrev to_answer : Kind → Bool → OrStop Value
    to_answer kinds.Num test = only_if test (num to (exact (rescaled (number_at l.state.numbers at.x) s to)))
    to_answer kinds.Vec3 test = only_if test (vec_of to (exact (rescaled (number_at l.state.numbers at.x) s to)) (exact (rescaled (number_at l.state.numbers at.y) s to)) (exact (rescaled (number_at l.state.numbers at.z) s to)))

    to_scaled : (k : Kind) (x y : Bool) → nat_le to 62 ≡ x → nat_le s 62 ≡ y → Fits start (typed_made (scaled_if p x (types.Scaled k to)) (to_acts to s at) u w).1 → Evaluates i j start (typed_made (scaled_if p x (types.Scaled k to)) (to_acts to s at) u w) (to_answer k (x && y))
    to_scaled kinds.Num true true e f fits = num_at to (to_acts to s at) _ plain (to_number to s at.x e f) fits
    to_scaled kinds.Vec3 true true e f fits = vec_at to (to_acts to s at) _ _ _ plain (to_number to s at.x e f) (to_number to s at.y e f) (to_number to s at.z e f) fits
    to_scaled kinds.Num true false e f fits = tt
    to_scaled kinds.Vec3 true false e f fits = tt
    to_scaled kinds.Num false y e f fits = tt
    to_scaled kinds.Vec3 false y e f fits = tt

  pub to_runs : (p to : ℕ) (a : Place) (base : ℕ) → Within base w a → Fits start (to_made p to a u w).1 → Evaluates i j start (to_made p to a u w) (to_value to (value_at a l.state))
  to_runs p to (Condition mask) base h fits = tt
  to_runs p to (Scaled kinds.Num s at) base h fits = to_scaled p to s at h kinds.Num (nat_le to 62) (nat_le s 62) refl refl fits
  to_runs p to (Scaled kinds.Vec3 s at) base h fits = to_scaled p to s at h kinds.Vec3 (nat_le to 62) (nat_le s 62) refl refl fits

  pub part_runs : (axis : Axis) (a : Place) → Evaluates i j start (part_made axis a u w) (part_value axis (value_at a l.state))
  part_runs X (Scaled kinds.Vec3 s at) = record { there = l; is = is; value = refl }
  part_runs Y (Scaled kinds.Vec3 s at) = record { there = l; is = is; value = refl }
  part_runs Z (Scaled kinds.Vec3 s at) = record { there = l; is = is; value = refl }
  part_runs axis (Scaled kinds.Num s at) = tt
  part_runs axis (Condition mask) = tt
