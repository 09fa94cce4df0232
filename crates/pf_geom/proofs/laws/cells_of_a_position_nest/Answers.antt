use Rattle.pf_geom.proofs.CellLemmas.{ancestor_at-cell_at}
use Rattle.pf_geom.proofs.laws.cells_of_a_position_nest.Goals as goal

pub returns : goal.returns
returns c = ancestor_at-cell_at
