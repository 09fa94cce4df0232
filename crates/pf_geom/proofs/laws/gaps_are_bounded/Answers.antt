use Rattle.pf_geom.proofs.GapLemmas.{gap2_to-lt}
use Rattle.pf_geom.proofs.laws.gaps_are_bounded.Goals as goal

pub returns : goal.returns
returns c = gap2_to-lt
