use Rattle.std.proofs.Common.{◌-◌, ◌/◌, ◌^◌, sym, arith}
use Rattle.std.proofs.lemmas.Nat.{and_le_r}
use Rattle.pf_geom.proofs.KeyLoops.{spread_more, spread_bits-zero, spread_bits-lt}
use Rattle.pf_geom.proofs.key.spread.Goals as goal

pub loop-bit-init : goal.loop-bit-init
loop-bit-init c = sym (spread_bits-zero _)

pub overflow_mul-spread : goal.overflow_mul-spread
overflow_mul-spread c =
    omega (arith, spread_bits-lt (30 - c.loop-bit.bit) (c.args.coordinate / 2 ^ c.loop-bit.bit))

pub overflow_add-spread : goal.overflow_add-spread
overflow_add-spread c =
    omega (arith, spread_bits-lt (30 - c.loop-bit.bit) (c.args.coordinate / 2 ^ c.loop-bit.bit), and_le_r (c.args.coordinate / 2 ^ (c.loop-bit.bit - 1)) 1)

pub loop-bit-preserved : goal.loop-bit-preserved
loop-bit-preserved c =
    let more = spread_more 30 c.args.coordinate c.loop-bit.bit c.loop-bit-test.true c.loop-bit.auto.bit in
    omega (arith, c.loop-bit.invariant, more)

pub returns-clause-fits : goal.returns-clause-fits
returns-clause-fits c =
    omega (arith, spread_bits-lt (30 - c.loop-bit.bit) (c.args.coordinate / 2 ^ c.loop-bit.bit))
