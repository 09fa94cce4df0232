use Rattle.std.proofs.Common.{◌∙◌, ap, ap₂, ℤ, w64}
use Rattle.std.proofs.lemmas.Int.{to_z-of_z}
use Rattle.kern_range.specs.declared.interval.Interval.{Interval}
use Rattle.kern_range.specs.Intervals.{wider}
use Rattle.kern_range.proofs.product.among.Goals as goal

pub returns : goal.returns
returns c =
    c.wider.ensures
    ∙ ap₂ wider (c.wider-second.ensures
    ∙ ap₂ wider (c.wider-first.ensures
    ∙ ap₂ wider (c.only.ensures ∙ ap (λ (n : ℤ). record { least = n; greatest = n }) (to_z-of_z w64 c.args.w c.ranges.w)) (c.only-2.ensures ∙ ap (λ (n : ℤ). record { least = n; greatest = n }) (to_z-of_z w64 c.args.x c.ranges.x)))
    (c.only-3.ensures ∙ ap (λ (n : ℤ). record { least = n; greatest = n }) (to_z-of_z w64 c.args.y c.ranges.y)))
    (c.only-4.ensures ∙ ap (λ (n : ℤ). record { least = n; greatest = n }) (to_z-of_z w64 c.args.z c.ranges.z))
