use Rattle.pf_geom.proofs.CellLemmas.{shared_cell}
use Rattle.pf_geom.proofs.laws.positions_share_lower_cells.Goals as goal

pub returns : goal.returns
returns c = shared_cell
