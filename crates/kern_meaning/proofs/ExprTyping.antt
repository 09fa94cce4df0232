-- An expression that has a type has a value of it, or a fault.
use Rattle.std.proofs.Common.{ℕ, List, ap, subst}
use Rattle.kern_tree.specs.declared.expr.Expr.{Expr}
use Rattle.kern_tree.specs.declared.kernel.Decl.{Decl}
use Rattle.kern_tree.specs.Limits as limits
use Rattle.kern_tree.specs.Limits.{IsLimited}
use Rattle.kern_types.specs.Scopes.{Scope}
use Rattle.kern_types.specs.Forms.{part_type, one_type, three_type, to_type}
use Rattle.kern_types.specs.Names.{name_type, type_of, form_typing, at_place}
use Rattle.kern_types.specs.TypingLaws.{FitsIfTyped}
use Rattle.kern_meaning.specs.Expressions.{value_of, form_meaning, value_of_form}
use Rattle.kern_meaning.specs.Names.{Known, name_value}
use Rattle.kern_meaning.specs.Operators.{part_value, one_value, three_value, to_value}
use Rattle.kern_meaning.specs.Stops.{◌>>=◌}
use Rattle.kern_meaning.proofs.Fits.{Fits, fits_along, bind_fits, bind_typed, num_fits, part_fits, one_fits, two_fits, three_fits, to_fits}
use Rattle.kern_tree.proofs.Layers.{number_layer, name_layer, part_layer, one_layer, two_layer, three_layer, to_layer}

module _ (decls : List Decl) (scope : Scope) (known : Known) (names_fit : (place : ℕ) (name : List ℕ) → Fits (name_type decls scope place name) (name_value (known name)))
    (scales_fit : (e : Expr) → IsLimited e → FitsIfTyped (type_of decls scope e)) where
  pub expr_fits : {e : Expr} → IsLimited e → Fits (type_of decls scope e) (value_of known e)
  expr_fits (limits.literal {place = p} {mantissa = m} {scale = s} small bound) =
      fits_along (ap (λ f. f p) (number_layer (form_typing decls scope) at_place m s)) (number_layer (form_meaning known) value_of_form m s)
      (num_fits s _)
  expr_fits (limits.name {place = p} {called = n}) =
      fits_along (ap (λ f. f p) (name_layer (form_typing decls scope) at_place n)) (name_layer (form_meaning known) value_of_form n)
      (names_fit p n)
  expr_fits (limits.part {place = p} {a = a} {axis = axis} h) =
      fits_along (ap (λ f. f p) (part_layer (form_typing decls scope) at_place a axis)) (part_layer (form_meaning known) value_of_form a axis)
      (bind_fits (type_of decls scope a) (value_of known a) (part_type p) (part_value axis) (expr_fits h) (part_fits p axis))
  expr_fits (limits.one {place = p} {op = op} {a = a} h) =
      fits_along (ap (λ f. f p) (one_layer (form_typing decls scope) at_place op a)) (one_layer (form_meaning known) value_of_form op a)
      (bind_fits (type_of decls scope a) (value_of known a) (one_type p op) (one_value op) (expr_fits h) (one_fits p op))
  expr_fits (limits.two {place = p} {op = op} {a = a} {b = b} h k) =
      fits_along (ap (λ f. f p) (two_layer (form_typing decls scope) at_place op a b)) (two_layer (form_meaning known) value_of_form op a b)
      (two_fits p (type_of decls scope a) (type_of decls scope b) (value_of known a) (value_of known b) (expr_fits h) (expr_fits k) op)
  expr_fits (limits.three {place = p} {op = op} {a = a} {b = b} {c = c} h k l) =
      fits_along (ap (λ f. f p) (three_layer (form_typing decls scope) at_place op a b c)) (three_layer (form_meaning known) value_of_form op a b c)
      (bind_fits (type_of decls scope a) (value_of known a) (λ x. type_of decls scope b >>= (λ y. type_of decls scope c >>= (λ z. three_type p op x y z)))
      (λ x. value_of known b >>= (λ y. value_of known c >>= (λ z. three_value op x y z))) (expr_fits h) (λ v.
      bind_fits (type_of decls scope b) (value_of known b) _ (λ y. value_of known c >>= (λ z. three_value op v y z)) (expr_fits k) (λ w.
      bind_fits (type_of decls scope c) (value_of known c) _ (λ z. three_value op v w z) (expr_fits l) (three_fits p op v w))))
  expr_fits (limits.to {place = p} {scale = s} {a = a} h) =
      fits_along (ap (λ f. f p) (to_layer (form_typing decls scope) at_place s a)) (to_layer (form_meaning known) value_of_form s a)
      (bind_typed (type_of decls scope a) (value_of known a) (to_type p s) (to_value s) (expr_fits h) (λ v is. to_fits p s v (subst FitsIfTyped is (scales_fit a h))))
