use Rattle.std.proofs.Common.{refl}
use Rattle.pf_model.specs.Sums.{moment_of}
use Rattle.pf_model.proofs.moment.Moment.none.Goals as goal

pub returns : goal.returns
unfolding moment_of
returns c = refl
