-- The scales of typed kernels are within the limit.
use Rattle.std.proofs.Common.{◌≡◌, ℕ, ◌+◌, ◌-◌, ◌/◌, ◌≤◌, Bool, true, false, ◌&&◌, List, [], ◌∷◌, ◌++◌, Option, Some, None, Ok, Err, cond, find, bytes_eq, refl, sym, ap, subst, arith}
use Rattle.std.specs.Prelude.{◌==◌, ◌%◌, nat_le}
use Rattle.std.specs.List.{AllByRecursion}
use Rattle.std.proofs.lemmas.Bool.Decides.{nat_tests}
use Rattle.kern_token.specs.declared.limits.TheConstants.{MOST_SCALE}
use Rattle.kern_tree.specs.declared.expr.Expr.{Expr}
use Rattle.kern_tree.specs.declared.expr.Op1.{Op1}
use Rattle.kern_tree.specs.declared.expr.Op1.TheVariants as op1s
use Rattle.kern_tree.specs.declared.expr.Op2.{Op2}
use Rattle.kern_tree.specs.declared.expr.Op2.TheVariants as op2s
use Rattle.kern_tree.specs.declared.expr.Op3.{Op3}
use Rattle.kern_tree.specs.declared.expr.Op3.TheVariants as op3s
use Rattle.kern_tree.specs.declared.kernel.Decl.{Decl}
use Rattle.kern_tree.specs.declared.kernel.DeclKind.{DeclKind}
use Rattle.kern_tree.specs.declared.kernel.DeclKind.TheVariants as declared_as
use Rattle.kern_tree.specs.declared.kernel.Kind.TheVariants as kinds
use Rattle.kern_tree.specs.Limits as limits
use Rattle.kern_tree.specs.Limits.{IsLimited, HasLimitedScale, ParsedKernelsKeepLimits}
use Rattle.kern_types.specs.declared.expr_type.ExprType.{ExprType}
use Rattle.kern_types.specs.declared.expr_type.ExprType.TheVariants.{Scaled, Condition}
use Rattle.kern_types.specs.declared.scope.Variable.{Variable}
use Rattle.kern_types.specs.Forms.{scaled_if, negative_type, not_type, abs_type, root_type, sum_type, product_kind, product_type, quotient_type, least_type, relation_type, both_type, muldiv_type, build_type, to_type, part_type, one_type, two_type, three_type}
use Rattle.kern_types.specs.NameLists.{is_among}
use Rattle.kern_types.specs.Names.{declaration, earlier_assignment, declared_type, undeclared_type, named_type, type_of, form_typing, at_place}
use Rattle.kern_types.specs.Paths.{Path}
use Rattle.kern_types.specs.Scopes.{Scope}
use Rattle.kern_types.specs.Steps.{OrFault, ◌>>=◌}
use Rattle.kern_types.specs.TypingLaws.{HasFittingScale, FitsIfTyped, AreFitting, ExpressionScalesFit, AssignedScalesFit}
use Rattle.kern_types.specs.WellTyped.{at_start}
use Rattle.kern_tree.proofs.Layers.{number_layer, name_layer, part_layer, one_layer, two_layer, three_layer, to_layer}
use Rattle.kern_types.proofs.LawsOfStatements.{block_holds, after_decls}

le_tested : (a b : ℕ) → nat_le a b ≡ true → a ≤ b
le_tested a b e = grind (arith, nat_tests)

second_of : (a b : Bool) → (a && b) ≡ true → b ≡ true
second_of true b e = e
second_of false b e = absurd (let no : ⊥ = cc in no)

then_fits : (answer : OrFault ExprType) (next : ExprType → OrFault ExprType) → FitsIfTyped answer → ((type : ExprType) → HasFittingScale type → FitsIfTyped (next type)) → FitsIfTyped (answer >>= next)
then_fits (Ok type) next h step = step type h
then_fits (Err fault) next h step = tt

-- ---- forms

module _ (place : ℕ) where
  scaled_fits : (test : Bool) (type : ExprType) → (test ≡ true → HasFittingScale type) → FitsIfTyped (scaled_if place test type)
  scaled_fits true type h = h refl
  scaled_fits false type h = tt

  negative_fits : (a : ExprType) → HasFittingScale a → FitsIfTyped (negative_type place a)
  negative_fits (Scaled kind s) h = h
  negative_fits Condition h = tt

  not_fits : (a : ExprType) → HasFittingScale a → FitsIfTyped (not_type place a)
  not_fits (Scaled kind s) h = tt
  not_fits Condition h = tt

  abs_fits : (a : ExprType) → HasFittingScale a → FitsIfTyped (abs_type place a)
  abs_fits (Scaled kinds.Num s) h = h
  abs_fits (Scaled kinds.Vec3 s) h = tt
  abs_fits Condition h = tt

  root_fits : (a : ExprType) → HasFittingScale a → FitsIfTyped (root_type place a)
  root_fits (Scaled kinds.Num s) h = scaled_fits (s % 2 == 0) (Scaled kinds.Num (s / 2)) (λ e. omega (arith, h))
  root_fits (Scaled kinds.Vec3 s) h = tt
  root_fits Condition h = tt

  sum_fits : (a b : ExprType) → HasFittingScale a → FitsIfTyped (sum_type place a b)
  sum_fits (Scaled kinds.Num s) (Scaled kinds.Num t) h = scaled_fits (s == t) (Scaled kinds.Num s) (λ e. h)
  sum_fits (Scaled kinds.Num s) (Scaled kinds.Vec3 t) h = tt
  sum_fits (Scaled kinds.Num s) Condition h = tt
  sum_fits (Scaled kinds.Vec3 s) (Scaled kinds.Num t) h = tt
  sum_fits (Scaled kinds.Vec3 s) (Scaled kinds.Vec3 t) h = scaled_fits (s == t) (Scaled kinds.Vec3 s) (λ e. h)
  sum_fits (Scaled kinds.Vec3 s) Condition h = tt
  sum_fits Condition b h = tt

  product_fits : (a b : ExprType) → FitsIfTyped (product_type place a b)
  product_fits (Scaled a s) (Scaled b t) = scaled_fits (nat_le (s + t) MOST_SCALE) (Scaled (product_kind a b) (s + t)) (λ e. le_tested (s + t) MOST_SCALE e)
  product_fits (Scaled a s) Condition = tt
  product_fits Condition b = tt

  quotient_fits : (a b : ExprType) → HasFittingScale a → FitsIfTyped (quotient_type place a b)
  quotient_fits (Scaled kind s) (Scaled kinds.Num t) h = scaled_fits (nat_le t s) (Scaled kind (s - t)) (λ e. omega (arith, h))
  quotient_fits (Scaled kind s) (Scaled kinds.Vec3 t) h = tt
  quotient_fits (Scaled kind s) Condition h = tt
  quotient_fits Condition b h = tt

  least_fits : (a b : ExprType) → HasFittingScale a → FitsIfTyped (least_type place a b)
  least_fits (Scaled kinds.Num s) (Scaled kinds.Num t) h = scaled_fits (s == t) (Scaled kinds.Num s) (λ e. h)
  least_fits (Scaled kinds.Num s) (Scaled kinds.Vec3 t) h = tt
  least_fits (Scaled kinds.Num s) Condition h = tt
  least_fits (Scaled kinds.Vec3 s) b h = tt
  least_fits Condition b h = tt

  relation_fits : (a b : ExprType) → FitsIfTyped (relation_type place a b)
  relation_fits (Scaled kinds.Num s) (Scaled kinds.Num t) = scaled_fits (s == t) Condition (λ e. tt)
  relation_fits (Scaled kinds.Num s) (Scaled kinds.Vec3 t) = tt
  relation_fits (Scaled kinds.Num s) Condition = tt
  relation_fits (Scaled kinds.Vec3 s) b = tt
  relation_fits Condition b = tt

  both_fits : (a b : ExprType) → FitsIfTyped (both_type place a b)
  both_fits Condition Condition = tt
  both_fits Condition (Scaled kind t) = tt
  both_fits (Scaled kind s) b = tt

  muldiv_fits : (a b c : ExprType) → FitsIfTyped (muldiv_type place a b c)
  muldiv_fits (Scaled kinds.Num s) (Scaled kind t) (Scaled kinds.Num u) =
      scaled_fits (nat_le u (s + t) && nat_le (s + t) (u + MOST_SCALE)) (Scaled kind (s + t - u))
      (λ e. let within = le_tested (s + t) (u + MOST_SCALE) (second_of (nat_le u (s + t)) (nat_le (s + t) (u + MOST_SCALE)) e) in omega (arith, within))
  muldiv_fits (Scaled kinds.Num s) (Scaled kind t) (Scaled kinds.Vec3 u) = tt
  muldiv_fits (Scaled kinds.Num s) (Scaled kind t) Condition = tt
  muldiv_fits (Scaled kinds.Num s) Condition c = tt
  muldiv_fits (Scaled kinds.Vec3 s) b c = tt
  muldiv_fits Condition b c = tt

  build_fits : (a b c : ExprType) → HasFittingScale a → FitsIfTyped (build_type place a b c)
  build_fits (Scaled kinds.Num s) (Scaled kinds.Num t) (Scaled kinds.Num u) h = scaled_fits (s == t && t == u) (Scaled kinds.Vec3 s) (λ e. h)
  build_fits (Scaled kinds.Num s) (Scaled kinds.Num t) (Scaled kinds.Vec3 u) h = tt
  build_fits (Scaled kinds.Num s) (Scaled kinds.Num t) Condition h = tt
  build_fits (Scaled kinds.Num s) (Scaled kinds.Vec3 t) c h = tt
  build_fits (Scaled kinds.Num s) Condition c h = tt
  build_fits (Scaled kinds.Vec3 s) b c h = tt
  build_fits Condition b c h = tt

  to_fits : (k : ℕ) (a : ExprType) → FitsIfTyped (to_type place k a)
  to_fits k (Scaled kind s) = scaled_fits (nat_le k MOST_SCALE) (Scaled kind k) (λ e. le_tested k MOST_SCALE e)
  to_fits k Condition = tt

  part_fits : (a : ExprType) → HasFittingScale a → FitsIfTyped (part_type place a)
  part_fits (Scaled kinds.Num s) h = tt
  part_fits (Scaled kinds.Vec3 s) h = h
  part_fits Condition h = tt

  one_fits : (op : Op1) (a : ExprType) → HasFittingScale a → FitsIfTyped (one_type place op a)
  one_fits op1s.Neg = negative_fits
  one_fits op1s.Not = not_fits
  one_fits op1s.Isqrt = root_fits
  one_fits op1s.Abs = abs_fits

  two_fits : (op : Op2) (a b : ExprType) → HasFittingScale a → FitsIfTyped (two_type place op a b)
  two_fits op2s.Add a b h = sum_fits a b h
  two_fits op2s.Sub a b h = sum_fits a b h
  two_fits op2s.Mul a b h = product_fits a b
  two_fits op2s.Div a b h = quotient_fits a b h
  two_fits op2s.Lt a b h = relation_fits a b
  two_fits op2s.Le a b h = relation_fits a b
  two_fits op2s.Gt a b h = relation_fits a b
  two_fits op2s.Ge a b h = relation_fits a b
  two_fits op2s.Eq a b h = relation_fits a b
  two_fits op2s.Ne a b h = relation_fits a b
  two_fits op2s.And a b h = both_fits a b
  two_fits op2s.Or a b h = both_fits a b
  two_fits op2s.Least a b h = least_fits a b h
  two_fits op2s.Most a b h = least_fits a b h

  three_fits : (op : Op3) (a b c : ExprType) → HasFittingScale a → FitsIfTyped (three_type place op a b c)
  three_fits op3s.Muldiv a b c h = muldiv_fits a b c
  three_fits op3s.Build a b c h = build_fits a b c h

-- ---- names

found : {X : Type 0} (P : X → Type 0) (test : X → Bool) (xs : List X) (x : X) → AllByRecursion P xs → find test xs ≡ Some x → P x
found P test [] x h e = absurd (let no : ⊥ = cc in no)
found P test (y ∷ xs) x h e = either (test y) e (found P test xs x h.1) where
  either : (b : Bool) → cond b (Some y) (find test xs) ≡ Some x → (find test xs ≡ Some x → P x) → P x
  either true e more = subst P (let same : y ≡ x = cc in same) h.0
  either false e more = more e

module _ (decls : List Decl) (small : AllByRecursion HasLimitedScale decls) (scope : Scope) (fit : AreFitting scope.earlier) where
  declared_fits : (place : ℕ) (decl : Decl) → HasLimitedScale decl → FitsIfTyped (declared_type place decl.what)
  declared_fits place decl h = by_kind decl.what h where
    by_kind : (what : DeclKind) → limits.scale_declared what ≤ MOST_SCALE → FitsIfTyped (declared_type place what)
    by_kind (declared_as.Epi kind scale field) h = h
    by_kind (declared_as.Epj kind scale field) h = h
    by_kind (declared_as.Param scale value) h = h
    by_kind (declared_as.Force kind scale combine) h = tt

  assigned_fits : (place : ℕ) (name : List ℕ) (earlier : Option Variable) (certain : Bool) → earlier_assignment scope.earlier name ≡ earlier → FitsIfTyped (undeclared_type place earlier certain)
  assigned_fits place name None certain e = tt
  assigned_fits place name (Some v) true e = found (λ (x : Variable). x.scale ≤ MOST_SCALE) (λ x. bytes_eq x.name name) scope.earlier v fit e
  assigned_fits place name (Some v) false e = tt

  named_fits : (place : ℕ) (name : List ℕ) (decl : Option Decl) → declaration decls name ≡ decl → FitsIfTyped (named_type place decl (undeclared_type place (earlier_assignment scope.earlier name) (is_among scope.certain name)))
  named_fits place name (Some decl) e = declared_fits place decl (found HasLimitedScale (λ x. bytes_eq x.name name) decls decl small e)
  named_fits place name None e = assigned_fits place name (earlier_assignment scope.earlier name) (is_among scope.certain name) refl

  -- ---- expressions

  along : {a b : OrFault ExprType} → a ≡ b → FitsIfTyped b → FitsIfTyped a
  along e h = subst FitsIfTyped (sym e) h

  pub type_fits : {e : Expr} → IsLimited e → FitsIfTyped (type_of decls scope e)
  type_fits (limits.literal {place = p} {mantissa = m} {scale = s} little bound) = along (ap (λ f. f p) (number_layer (form_typing decls scope) at_place m s)) bound
  type_fits (limits.name {place = p} {called = n}) =
      along (ap (λ f. f p) (name_layer (form_typing decls scope) at_place n)) (named_fits p n (declaration decls n) refl)
  type_fits (limits.part {place = p} {a = a} {axis = axis} h) =
      along (ap (λ f. f p) (part_layer (form_typing decls scope) at_place a axis)) (then_fits (type_of decls scope a) (part_type p) (type_fits h) (part_fits p))
  type_fits (limits.one {place = p} {op = op} {a = a} h) =
      along (ap (λ f. f p) (one_layer (form_typing decls scope) at_place op a)) (then_fits (type_of decls scope a) (one_type p op) (type_fits h) (one_fits p op))
  type_fits (limits.two {place = p} {op = op} {a = a} {b = b} h k) =
      along (ap (λ f. f p) (two_layer (form_typing decls scope) at_place op a b))
      (then_fits (type_of decls scope a) (λ x. type_of decls scope b >>= (λ y. two_type p op x y)) (type_fits h) (λ x hx.
      then_fits (type_of decls scope b) (λ y. two_type p op x y) (type_fits k) (λ y hy. two_fits p op x y hx)))
  type_fits (limits.three {place = p} {op = op} {a = a} {b = b} {c = c} h k l) =
      along (ap (λ f. f p) (three_layer (form_typing decls scope) at_place op a b c))
      (then_fits (type_of decls scope a) (λ x. type_of decls scope b >>= (λ y. type_of decls scope c >>= (λ z. three_type p op x y z))) (type_fits h) (λ x hx.
      then_fits (type_of decls scope b) (λ y. type_of decls scope c >>= (λ z. three_type p op x y z)) (type_fits k) (λ y hy.
      then_fits (type_of decls scope c) (λ z. three_type p op x y z) (type_fits l) (λ z hz. three_fits p op x y z hx))))
  type_fits (limits.to {place = p} {scale = s} {a = a} h) =
      along (ap (λ f. f p) (to_layer (form_typing decls scope) at_place s a)) (then_fits (type_of decls scope a) (to_type p s) (type_fits h) (λ x hx. to_fits p s x))

pub expression_scales_fit : ParsedKernelsKeepLimits → ExpressionScalesFit
expression_scales_fit keep kernel parsed scope e fit small = type_fits kernel.decls (keep kernel parsed).decls scope fit small

-- ---- assignments

fitting_more : (earlier : List Variable) (v : Variable) → AreFitting earlier → v.scale ≤ MOST_SCALE → AreFitting (earlier ++ v ∷ [])
fitting_more [] v h k = (k, tt)
fitting_more (w ∷ earlier) v h k = (h.0, fitting_more earlier v h.1 k)

abbrev KeepsFitting : Scope → Scope → List Path → Type 0
KeepsFitting before after paths = AreFitting before.earlier → AreFitting after.earlier

pub assigned_scales_fit : ParsedKernelsKeepLimits → AssignedScalesFit
assigned_scales_fit keep kernel end parsed e =
    block_holds kernel.decls KeepsFitting (λ scope h. h) (λ a b c first second f g h. g (f h))
    (λ place name value scope after small is h.
    let v : Variable = record { name = name; kind = is.assignment.kind; scale = is.assignment.scale } in
    subst (λ (s : Scope). AreFitting s.earlier) (sym is.assignment.ends)
    (fitting_more scope.earlier v h (subst FitsIfTyped is.assignment.typed (type_fits kernel.decls (keep kernel parsed).decls scope h small))))
    (λ scope first second one two f g h. g (f h)) (keep kernel parsed).body at_start end (after_decls kernel end e) tt
