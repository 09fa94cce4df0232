use Rattle.pf_geom.proofs.GapLemmas.{gap2_to-grows_with_box}
use Rattle.pf_geom.proofs.laws.gaps_grow_as_boxes_shrink.Goals as goal

pub returns : goal.returns
returns c = λ edge inner outer cell _ _ within _. gap2_to-grows_with_box edge inner outer cell within
