use Rattle.pf_geom.proofs.CellLemmas.{key_range_from_cell, cell_from_key_range}
use Rattle.pf_geom.proofs.laws.cells_are_key_ranges.Goals as goal

pub returns : goal.returns
returns c = λ p cell _ _. (key_range_from_cell p cell, λ h. cell_from_key_range p cell h.0 h.1)
