use Rattle.pf_geom.proofs.CellLemmas.{eight_pow}
use Rattle.pf_geom.proofs.laws.levels_take_three_bits.Goals as goal

pub returns : goal.returns
returns c = eight_pow
