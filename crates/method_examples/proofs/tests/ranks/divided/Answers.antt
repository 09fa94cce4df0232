use Rattle.std.proofs.Common.{ap}
use Rattle.pf_model.specs.Division.{rank_count}
use Rattle.pf_model.specs.Domains.{cuts_for}
use Rattle.multisection.specs.Regions.{Regions}
use Rattle.method_examples.proofs.tests.ranks.divided.Goals as goal

pub returns : goal.returns
unfolding cuts_for
returns c = ap (λ (d : Regions). rank_count d.cuts.grid) c.in_ok-d.ensures.value
