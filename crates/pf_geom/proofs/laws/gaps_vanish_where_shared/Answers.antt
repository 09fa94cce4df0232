use Rattle.pf_geom.proofs.GapLemmas.{shared_from_gap, gap_from_shared_position}
use Rattle.pf_geom.proofs.laws.gaps_vanish_where_shared.Goals as goal

pub returns : goal.returns
returns c = λ edge b cell b_is cell_is. (shared_from_gap edge b cell b_is cell_is, λ h. gap_from_shared_position edge b cell h.0 cell_is h.1 h.2 h.3)
