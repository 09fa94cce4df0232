use Rattle.std.proofs.Common.{ℕ, inl, inr, sym, ◌∙◌, arith}
use Rattle.std.proofs.lemmas.List.{length-map, get_or-map}
use Rattle.std.proofs.lemmas.Option.{slice_get_cases}
use Rattle.list_reuse.specs.Refreshing.{Renewal}
use Rattle.list_reuse.proofs.values.values_from.Goals as goal

pub unreachable-requires : goal.unreachable-requires
unreachable-requires c =
    let parcels = c.args.parcels.now in
    let h = c.requires in
    let src : Renewal → ℕ = λ r. r.src in
    let long = length-map parcels src in
    let here = h.1 in
    elim (slice_get_cases parcels h.0).1 [
      | inl x ↦ absurd (c.loop-parcel.invariant h.0 x.0 (omega (arith, x.1)) (sym (get_or-map src parcels h.0 x.0 c.args.src x.1) ∙ h.2))
      | inr y ↦ absurd (omega (arith, y.0))
    ]
