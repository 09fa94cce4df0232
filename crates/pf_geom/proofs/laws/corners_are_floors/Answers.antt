use Rattle.pf_geom.proofs.CornerLemmas.{corner_of-cell_at}
use Rattle.pf_geom.proofs.laws.corners_are_floors.Goals as goal

pub returns : goal.returns
returns c = corner_of-cell_at
