use Rattle.pf_geom.proofs.CornerLemmas.{IsBox-closed_box, IsInBox-closed_box, IsIn-closed_box}
use Rattle.pf_geom.proofs.laws.closed_boxes_hold_their_cells.Goals as goal

pub returns : goal.returns
returns c = λ p cell fits h. (IsBox-closed_box cell h, (IsInBox-closed_box p cell fits h, IsIn-closed_box p cell h))
