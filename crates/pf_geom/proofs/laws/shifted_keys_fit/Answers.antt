use Rattle.pf_geom.proofs.CellLemmas.{shifted}
use Rattle.pf_geom.proofs.laws.shifted_keys_fit.Goals as goal

pub returns : goal.returns
returns c = shifted
