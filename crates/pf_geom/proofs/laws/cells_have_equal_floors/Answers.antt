use Rattle.pf_geom.proofs.CellLemmas.{floors_from_cell, cell_from_floors}
use Rattle.pf_geom.proofs.laws.cells_have_equal_floors.Goals as goal

pub returns : goal.returns
returns c = λ p x level p_fits x_fits within. (floors_from_cell p x level p_fits x_fits within, cell_from_floors p x level within)
