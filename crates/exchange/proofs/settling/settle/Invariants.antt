use Rattle.std.proofs.Common.{◌≡◌, ◌++◌, take}
use Rattle.std.specs.List.{flat_map}
use Rattle.exchange.proofs.settling.settle.Given as goal

abbrev pub invariant-loop-parcel : goal.invariant-loop-parcel
invariant-loop-parcel l = l.bodies.items ≡ l.initial.bodies.items ++ flat_map (λ p. p.bodies) (take l.parcel-index l.parcel-items)
