use Rattle.pf_geom.proofs.GapLemmas.{gap2_to-grows_with_cell}
use Rattle.pf_geom.proofs.laws.gaps_grow_as_cells_shrink.Goals as goal

pub returns : goal.returns
returns c = λ edge b inner outer _. gap2_to-grows_with_cell edge b inner outer
