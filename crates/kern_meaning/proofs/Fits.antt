-- Values of a type, and the forms that keep them so: where an expression has a type, its value is of that
-- type, or it has a fault.
use Rattle.std.proofs.Common.{◌≡◌, ℕ, ◌+◌, ◌-◌, ◌/◌, ◌≤◌, Bool, true, false, ◌&&◌, List, ℤ, pos, ◌+ℤ◌, ◌-ℤ◌, ◌*ℤ◌, neg_ℤ, unsigned_abs, Result, Ok, Err, cond, refl, sym, ap, subst, arith}
use Rattle.std.specs.Prelude.{◌==◌, ◌%◌, nat_le}
use Rattle.std.proofs.lemmas.Bool.Decides.{nat_tests}
use Rattle.pf_num.specs.declared.fault.NumFault.{NumFault}
use Rattle.pf_num.specs.Exact.{exact}
use Rattle.pf_num.specs.InnerProduct.{inner_product}
use Rattle.pf_num.specs.Quotient.{exact_quotient}
use Rattle.pf_num.specs.Scale.{rescaled}
use Rattle.pf_num.specs.SquareRoot.{exact_root}
use Rattle.pf_geom.specs.declared.axis.Axis.{Axis}
use Rattle.kern_tree.specs.declared.expr.Op1.{Op1}
use Rattle.kern_tree.specs.declared.expr.Op1.TheVariants as op1s
use Rattle.kern_tree.specs.declared.expr.Op2.{Op2}
use Rattle.kern_tree.specs.declared.expr.Op2.TheVariants as op2s
use Rattle.kern_tree.specs.declared.expr.Op3.{Op3}
use Rattle.kern_tree.specs.declared.expr.Op3.TheVariants as op3s
use Rattle.kern_tree.specs.declared.kernel.Kind.{Kind}
use Rattle.kern_tree.specs.declared.kernel.Kind.TheVariants as kinds
use Rattle.kern_types.specs.declared.expr_type.ExprType.{ExprType}
use Rattle.kern_types.specs.declared.expr_type.ExprType.TheVariants as types
use Rattle.kern_types.specs.Forms.{scaled_if, negative_type, not_type, abs_type, root_type, sum_type, product_type, quotient_type, least_type, relation_type, both_type, muldiv_type, build_type, to_type, part_type, one_type, two_type, three_type}
use Rattle.kern_types.specs.Steps.{OrFault}
use Rattle.kern_types.specs.TypingLaws.{HasFittingScale}
use Rattle.kern_meaning.specs.declared.stop.Stop.TheVariants.{Fault, NoResult}
use Rattle.kern_meaning.specs.declared.value.Value.{Value}
use Rattle.kern_meaning.specs.declared.value.Value.TheVariants.{Num, Vec3, Condition}
use Rattle.kern_meaning.specs.Operators.{num, vec_of, vec, vec_by_two, negative_value, not_value, root_value, abs_value, sum_value, difference_value, product_value, quotient_value, muldiv_fits, muldiv_value, build_value, to_value, part_value, relation_value, least_value, greatest_value, truth, and_value, or_value, one_value, two_form, three_value}
use Rattle.kern_meaning.specs.Stops.{OrStop, ◌>>=◌, only_if}
use Rattle.kern_meaning.specs.Values.{type_of_value, x_of, y_of, z_of}

abbrev pub FitsAs : ExprType → OrStop Value → Type 0
FitsAs type (Ok value) = type_of_value value ≡ type
FitsAs type (Err (Fault fault)) = Unit {0}
FitsAs type (Err NoResult) = ⊥

-- what has a type has a value of it, or a fault
abbrev pub Fits : OrFault ExprType → OrStop Value → Type 0
Fits (Ok type) answer = FitsAs type answer
Fits (Err fault) answer = Unit {0}

pub fits_along : {t t' : OrFault ExprType} {v v' : OrStop Value} → t ≡ t' → v ≡ v' → Fits t' v' → Fits t v
fits_along {t} {t'} {v} {v'} e f h = subst (λ (x : OrFault ExprType). Fits x v) (sym e) (subst (λ (y : OrStop Value). Fits t' y) (sym f) h)

fault_fits : (type : OrFault ExprType) (fault : NumFault) → Fits type (Err (Fault fault))
fault_fits (Ok type) fault = tt
fault_fits (Err f) fault = tt

-- one step after another
pub bind_typed : (type : OrFault ExprType) (value : OrStop Value) (then_type : ExprType → OrFault ExprType) (then_value : Value → OrStop Value) → Fits type value
    → ((v : Value) → type ≡ Ok (type_of_value v) → Fits (then_type (type_of_value v)) (then_value v)) → Fits (type >>= then_type) (value >>= then_value)
bind_typed (Err fault) value f g h step = tt
bind_typed (Ok type) (Ok v) f g h step = subst (λ (t : ExprType). Fits (f t) (g v)) h (step v (ap Ok (sym h)))
bind_typed (Ok type) (Err (Fault fault)) f g h step = fault_fits (f type) fault
bind_typed (Ok type) (Err NoResult) f g h step = absurd h

pub bind_fits : (type : OrFault ExprType) (value : OrStop Value) (then_type : ExprType → OrFault ExprType) (then_value : Value → OrStop Value) → Fits type value
    → ((v : Value) → Fits (then_type (type_of_value v)) (then_value v)) → Fits (type >>= then_type) (value >>= then_value)
bind_fits type value f g h step = bind_typed type value f g h (λ v e. step v)

-- ---- forms

pub num_fits : (scale : ℕ) (answer : Result ℤ NumFault) → FitsAs (types.Scaled kinds.Num scale) (num scale answer)
num_fits scale (Ok mantissa) = refl
num_fits scale (Err fault) = tt

vec_fits : (scale : ℕ) (x y z : Result ℤ NumFault) → FitsAs (types.Scaled kinds.Vec3 scale) (vec_of scale x y z)
vec_fits scale (Ok x) (Ok y) (Ok z) = refl
vec_fits scale (Ok x) (Ok y) (Err fault) = tt
vec_fits scale (Ok x) (Err fault) z = tt
vec_fits scale (Err fault) y z = tt

test_le : (a b : ℕ) → a ≤ b → nat_le a b ≡ true
test_le a b h = grind (arith, nat_tests)

vec_by : (scale : ℕ) (of : ℤ → Result ℤ NumFault) (v : List ℤ) → FitsAs (types.Scaled kinds.Vec3 scale) (vec scale of v)
vec_by scale of v = vec_fits scale (of (x_of v)) (of (y_of v)) (of (z_of v))

vec_by_both : (scale : ℕ) (of : ℤ → ℤ → Result ℤ NumFault) (v w : List ℤ) → FitsAs (types.Scaled kinds.Vec3 scale) (vec_by_two scale of v w)
vec_by_both scale of v w = vec_fits scale (of (x_of v) (x_of w)) (of (y_of v) (y_of w)) (of (z_of v) (z_of w))

module _ (place : ℕ) where
  guarded : (test : Bool) (type : ExprType) (answer : OrStop Value) → FitsAs type answer → Fits (scaled_if place test type) (only_if test answer)
  guarded true type answer h = h
  guarded false type answer h = tt

  -- a test more, which holds
  guarded_more : (test more : Bool) (type : ExprType) (answer : OrStop Value) → more ≡ true → FitsAs type answer → Fits (scaled_if place test type) (only_if (test && more) answer)
  guarded_more true true type answer e h = h
  guarded_more true false type answer e h = absurd (let no : ⊥ = cc in no)
  guarded_more false more type answer e h = tt

  negative_fits : (v : Value) → Fits (negative_type place (type_of_value v)) (negative_value v)
  negative_fits (Num a s) = num_fits s (exact (neg_ℤ a))
  negative_fits (Vec3 a s) = vec_by s (λ x. exact (neg_ℤ x)) a
  negative_fits (Condition a) = tt

  not_fits : (v : Value) → Fits (not_type place (type_of_value v)) (not_value v)
  not_fits (Num a s) = tt
  not_fits (Vec3 a s) = tt
  not_fits (Condition a) = refl

  abs_fits : (v : Value) → Fits (abs_type place (type_of_value v)) (abs_value v)
  abs_fits (Num a s) = num_fits s (exact (pos (unsigned_abs a)))
  abs_fits (Vec3 a s) = tt
  abs_fits (Condition a) = tt

  root_fits : (v : Value) → Fits (root_type place (type_of_value v)) (root_value v)
  root_fits (Num a s) = guarded (s % 2 == 0) _ _ (num_fits (s / 2) (exact_root a))
  root_fits (Vec3 a s) = tt
  root_fits (Condition a) = tt

  pub part_fits : (axis : Axis) (v : Value) → Fits (part_type place (type_of_value v)) (part_value axis v)
  part_fits axis (Num a s) = tt
  part_fits axis (Vec3 a s) = refl
  part_fits axis (Condition a) = tt

  pub to_fits : (k : ℕ) (v : Value) → HasFittingScale (type_of_value v) → Fits (to_type place k (type_of_value v)) (to_value k v)
  to_fits k (Num a s) h = guarded_more (nat_le k 62) (nat_le s 62) _ _ (test_le s 62 h) (num_fits k (exact (rescaled a s k)))
  to_fits k (Vec3 a s) h = guarded_more (nat_le k 62) (nat_le s 62) _ _ (test_le s 62 h) (vec_by k (λ x. exact (rescaled x s k)) a)
  to_fits k (Condition a) h = tt

  pub one_fits : (op : Op1) (v : Value) → Fits (one_type place op (type_of_value v)) (one_value op v)
  one_fits op1s.Neg v = negative_fits v
  one_fits op1s.Not v = not_fits v
  one_fits op1s.Isqrt v = root_fits v
  one_fits op1s.Abs v = abs_fits v

  sum_fits : (v w : Value) → Fits (sum_type place (type_of_value v) (type_of_value w)) (sum_value v w)
  sum_fits (Num a s) (Num b t) = guarded (s == t) _ _ (num_fits s (exact (a +ℤ b)))
  sum_fits (Vec3 a s) (Vec3 b t) = guarded (s == t) _ _ (vec_by_both s (λ x y. exact (x +ℤ y)) a b)
  sum_fits _ _ = tt

  difference_fits : (v w : Value) → Fits (sum_type place (type_of_value v) (type_of_value w)) (difference_value v w)
  difference_fits (Num a s) (Num b t) = guarded (s == t) _ _ (num_fits s (exact (a -ℤ b)))
  difference_fits (Vec3 a s) (Vec3 b t) = guarded (s == t) _ _ (vec_by_both s (λ x y. exact (x -ℤ y)) a b)
  difference_fits _ _ = tt

  product_fits : (v w : Value) → Fits (product_type place (type_of_value v) (type_of_value w)) (product_value v w)
  product_fits (Num a s) (Num b t) = guarded (nat_le (s + t) 62) _ _ (num_fits (s + t) (exact (a *ℤ b)))
  product_fits (Num a s) (Vec3 b t) = guarded (nat_le (s + t) 62) _ _ (vec_by (s + t) (λ x. exact (a *ℤ x)) b)
  product_fits (Vec3 a s) (Num b t) = guarded (nat_le (s + t) 62) _ _ (vec_by (s + t) (λ x. exact (x *ℤ b)) a)
  product_fits (Vec3 a s) (Vec3 b t) = guarded (nat_le (s + t) 62) _ _ (num_fits (s + t) (exact (inner_product a b)))
  product_fits _ _ = tt

  quotient_fits : (v w : Value) → Fits (quotient_type place (type_of_value v) (type_of_value w)) (quotient_value v w)
  quotient_fits (Num a s) (Num b t) = guarded (nat_le t s) _ _ (num_fits (s - t) (exact_quotient a b))
  quotient_fits (Vec3 a s) (Num b t) = guarded (nat_le t s) _ _ (vec_by (s - t) (λ x. exact_quotient x b) a)
  quotient_fits _ _ = tt

  relation_fits : (op : Op2) (v w : Value) → Fits (relation_type place (type_of_value v) (type_of_value w)) (relation_value op v w)
  relation_fits op (Num a s) (Num b t) = guarded (s == t) _ _ refl
  relation_fits op _ _ = tt

  least_fits : (v w : Value) → Fits (least_type place (type_of_value v) (type_of_value w)) (least_value v w)
  least_fits (Num a s) (Num b t) = guarded (s == t) _ _ refl
  least_fits _ _ = tt

  greatest_fits : (v w : Value) → Fits (least_type place (type_of_value v) (type_of_value w)) (greatest_value v w)
  greatest_fits (Num a s) (Num b t) = guarded (s == t) _ _ refl
  greatest_fits _ _ = tt

  muldiv_fit : (v w x : Value) → Fits (muldiv_type place (type_of_value v) (type_of_value w) (type_of_value x)) (muldiv_value v w x)
  muldiv_fit (Num a s) (Num b t) (Num c u) = guarded (muldiv_fits s t u) _ _ (num_fits (s + t - u) (exact_quotient (a *ℤ b) c))
  muldiv_fit (Num a s) (Vec3 b t) (Num c u) = guarded (muldiv_fits s t u) _ _ (vec_by (s + t - u) (λ x. exact_quotient (a *ℤ x) c) b)
  muldiv_fit _ _ _ = tt

  build_fit : (v w x : Value) → Fits (build_type place (type_of_value v) (type_of_value w) (type_of_value x)) (build_value v w x)
  build_fit (Num a s) (Num b t) (Num c u) = guarded (s == t && t == u) _ _ refl
  build_fit _ _ _ = tt

  pub three_fits : (op : Op3) (v w x : Value) → Fits (three_type place op (type_of_value v) (type_of_value w) (type_of_value x)) (three_value op v w x)
  three_fits op3s.Muldiv v w x = muldiv_fit v w x
  three_fits op3s.Build v w x = build_fit v w x

  -- ---- two operands

  module _ (ta tb : OrFault ExprType) (va vb : OrStop Value) (h : Fits ta va) (k : Fits tb vb) where
    plain : (f : ExprType → ExprType → OrFault ExprType) (g : Value → Value → OrStop Value)
        → ((v w : Value) → Fits (f (type_of_value v) (type_of_value w)) (g v w))
        → Fits (ta >>= (λ a. tb >>= (λ b. f a b))) (va >>= (λ v. vb >>= (λ w. g v w)))
    plain f g fit =
        bind_fits ta va (λ a. tb >>= (λ b. f a b)) (λ v. vb >>= (λ w. g v w)) h
        (λ v. bind_fits tb vb (f (type_of_value v)) (g v) k (λ w. fit v w))

    -- a condition is needed
    truth_fits : (w : Value) → Fits (both_type place types.Condition (type_of_value w)) (truth w >>= (λ b. Ok (Condition b)))
    truth_fits (Num a s) = tt
    truth_fits (Vec3 a s) = tt
    truth_fits (Condition b) = refl

    needed : Fits (tb >>= (λ b. both_type place types.Condition b)) (vb >>= (λ w. truth w >>= (λ b. Ok (Condition b))))
    needed = bind_fits tb vb (both_type place types.Condition) (λ w. truth w >>= (λ b. Ok (Condition b))) k truth_fits

    settled : (b : Bool) (t : OrFault ExprType) → Fits (t >>= (λ b. both_type place types.Condition b)) (Ok (Condition b))
    settled b (Ok types.Condition) = refl
    settled b (Ok (types.Scaled kind scale)) = tt
    settled b (Err fault) = tt

    scaled_first : (kind : Kind) (scale : ℕ) (t : OrFault ExprType) (answer : OrStop Value) → Fits (t >>= (λ b. both_type place (types.Scaled kind scale) b)) answer
    scaled_first kind scale (Ok types.Condition) answer = tt
    scaled_first kind scale (Ok (types.Scaled k s)) answer = tt
    scaled_first kind scale (Err fault) answer = tt

    and_fits : Fits (ta >>= (λ a. tb >>= (λ b. both_type place a b))) (and_value va vb)
    and_fits = bind_fits ta va (λ a. tb >>= (λ b. both_type place a b)) _ h first where
      first : (v : Value) → Fits (tb >>= (λ b. both_type place (type_of_value v) b)) (truth v >>= (λ a. cond a (vb >>= (λ w. truth w >>= (λ b. Ok (Condition b)))) (Ok (Condition false))))
      first (Num a s) = scaled_first kinds.Num s tb _
      first (Vec3 a s) = scaled_first kinds.Vec3 s tb _
      first (Condition true) = needed
      first (Condition false) = settled false tb

    or_fits : Fits (ta >>= (λ a. tb >>= (λ b. both_type place a b))) (or_value va vb)
    or_fits = bind_fits ta va (λ a. tb >>= (λ b. both_type place a b)) _ h first where
      first : (v : Value) → Fits (tb >>= (λ b. both_type place (type_of_value v) b)) (truth v >>= (λ a. cond a (Ok (Condition true)) (vb >>= (λ w. truth w >>= (λ b. Ok (Condition b))))))
      first (Num a s) = scaled_first kinds.Num s tb _
      first (Vec3 a s) = scaled_first kinds.Vec3 s tb _
      first (Condition true) = settled true tb
      first (Condition false) = needed

    pub two_fits : (op : Op2) → Fits (ta >>= (λ a. tb >>= (λ b. two_type place op a b))) (two_form op va vb)
    two_fits op2s.Add = plain (sum_type place) sum_value sum_fits
    two_fits op2s.Sub = plain (sum_type place) difference_value difference_fits
    two_fits op2s.Mul = plain (product_type place) product_value product_fits
    two_fits op2s.Div = plain (quotient_type place) quotient_value quotient_fits
    two_fits op2s.Lt = plain (relation_type place) (relation_value op2s.Lt) (relation_fits op2s.Lt)
    two_fits op2s.Le = plain (relation_type place) (relation_value op2s.Le) (relation_fits op2s.Le)
    two_fits op2s.Gt = plain (relation_type place) (relation_value op2s.Gt) (relation_fits op2s.Gt)
    two_fits op2s.Ge = plain (relation_type place) (relation_value op2s.Ge) (relation_fits op2s.Ge)
    two_fits op2s.Eq = plain (relation_type place) (relation_value op2s.Eq) (relation_fits op2s.Eq)
    two_fits op2s.Ne = plain (relation_type place) (relation_value op2s.Ne) (relation_fits op2s.Ne)
    two_fits op2s.And = and_fits
    two_fits op2s.Or = or_fits
    two_fits op2s.Least = plain (least_type place) least_value least_fits
    two_fits op2s.Most = plain (least_type place) greatest_value greatest_fits
