use Rattle.std.proofs.Common.{FitsSigned, w64, arith, rules}
use Rattle.pf_num.proofs.HalvesLemmas.{sum_halves}
use Rattle.pf_num.proofs.inner_product.sum.Goals as goal

pub overflow_add-high-2 : goal.overflow_add-high-2
overflow_add-high-2 c =
    let x : FitsSigned w64 c.x.inside.high = search rules in
    let y : FitsSigned w64 c.y.inside.high = search rules in
    let z : FitsSigned w64 c.z.inside.high = search rules in
    grind (arith, sum_halves)

pub joined-requires-clause-high_at_least : goal.joined-requires-clause-high_at_least
joined-requires-clause-high_at_least c =
    let x : FitsSigned w64 c.x.inside.high = search rules in
    let y : FitsSigned w64 c.y.inside.high = search rules in
    let z : FitsSigned w64 c.z.inside.high = search rules in
    grind (arith, sum_halves)

pub joined-requires-clause-high_at_most : goal.joined-requires-clause-high_at_most
joined-requires-clause-high_at_most c =
    let x : FitsSigned w64 c.x.inside.high = search rules in
    let y : FitsSigned w64 c.y.inside.high = search rules in
    let z : FitsSigned w64 c.z.inside.high = search rules in
    grind (arith, sum_halves)

pub returns : goal.returns
returns c =
    let x : FitsSigned w64 c.x.inside.high = search rules in
    let y : FitsSigned w64 c.y.inside.high = search rules in
    let z : FitsSigned w64 c.z.inside.high = search rules in
    grind (arith, sum_halves)
