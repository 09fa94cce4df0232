use Rattle.pf_geom.proofs.CellLemmas.{IsCell-cell_at}
use Rattle.pf_geom.proofs.laws.positions_have_cells.Goals as goal

pub returns : goal.returns
returns c = IsCell-cell_at
