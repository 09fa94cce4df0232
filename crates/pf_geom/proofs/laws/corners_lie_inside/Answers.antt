use Rattle.pf_geom.proofs.CornerLemmas.{IsPosition-corner_of, IsCornerOf-corner_of, morton_key-corner_of}
use Rattle.pf_geom.proofs.laws.corners_lie_inside.Goals as goal

pub returns : goal.returns
returns c = λ cell h. (IsPosition-corner_of cell, IsCornerOf-corner_of cell h, morton_key-corner_of cell h)
