use Rattle.std.proofs.Common.{arith}
use Rattle.pf_num.proofs.HalvesLemmas.{product_halves}
use Rattle.pf_num.proofs.inner_product.product.Goals as goal

pub returns : goal.returns
returns c = grind (arith, product_halves)
