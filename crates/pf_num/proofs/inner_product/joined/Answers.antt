use Rattle.std.proofs.Common.{arith, ◌/◌, ◌^◌, ◌+ℤ◌, to_z, of_z}
use Rattle.std.specs.Int.{w128}
use Rattle.std.proofs.lemmas.Int.{ints}
use Rattle.pf_num.proofs.HalvesLemmas.{exact-far}
use Rattle.pf_num.proofs.inner_product.joined.Goals as goal

pub returns-else-high : goal.returns-else-high
returns-else-high c =
    let high = to_z w128 (of_z w128 c.args.high) +ℤ to_z w128 (c.args.low / 2 ^ 64) in
    exact-far c.args.high c.args.low high (omega (arith, ints)) c.if-high.false.0 c.if-high.false.1
