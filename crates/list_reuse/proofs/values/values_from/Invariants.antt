use Rattle.std.proofs.Common.{◌≡◌, ℕ, ◌<◌, get_or}
use Rattle.list_reuse.specs.Refreshing.{Renewal}
use Rattle.list_reuse.proofs.values.values_from.Given as goal

abbrev pub invariant-loop-parcel : goal.invariant-loop-parcel
invariant-loop-parcel l = (k : ℕ) (d : Renewal) → k < l.parcel-index → (get_or l.parcels k d).src ≡ l.src → ⊥
