use Rattle.std.proofs.Common.{◌∙◌, ap₂, ◌*ℤ◌, w64}
use Rattle.std.specs.Int.{int_max}
use Rattle.std.proofs.lemmas.Int.{to_z-of_z}
use Rattle.kern_range.proofs.product.greatest_corner.Goals as goal

pub returns : goal.returns
returns k =
    let a = to_z-of_z w64 k.args.a k.ranges.a in
    let b = to_z-of_z w64 k.args.b k.ranges.b in
    let c = to_z-of_z w64 k.args.c k.ranges.c in
    let d = to_z-of_z w64 k.args.d k.ranges.d in
    k.greater.ensures
    ∙ ap₂ int_max (k.greater-second.ensures
    ∙ ap₂ int_max (k.greater-first.ensures
    ∙ ap₂ int_max (k.factors_of.ensures ∙ ap₂ (λ x y. x *ℤ y) a c) (k.factors_of-2.ensures ∙ ap₂ (λ x y. x *ℤ y) a d))
    (k.factors_of-3.ensures ∙ ap₂ (λ x y. x *ℤ y) b c))
    (k.factors_of-4.ensures ∙ ap₂ (λ x y. x *ℤ y) b d)
