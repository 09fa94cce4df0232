use Rattle.std.proofs.Common.{◌≡◌, ◌-◌, ◌/◌, ◌^◌}
use Rattle.pf_geom.specs.Key.{spread_bits}
use Rattle.pf_geom.proofs.key.spread.Given as goal

abbrev pub invariant-loop-bit : goal.invariant-loop-bit
invariant-loop-bit l = l.spread ≡ spread_bits (30 - l.bit) (l.coordinate / 2 ^ l.bit)
