use Rattle.pf_geom.proofs.CornerLemmas.{ancestor_from_inside, inside_from_ancestor}
use Rattle.pf_geom.proofs.laws.cells_nest.Goals as goal

pub returns : goal.returns
returns c = λ inner outer inner_is outer_is. (ancestor_from_inside inner outer inner_is outer_is, λ h. inside_from_ancestor inner outer inner_is h.0 h.1)
