use Rattle.refresh_phase.proofs.BuildLemmas.{present_groups}
use Rattle.refresh_phase.proofs.laws.kept_groups_have_their_lists.Goals as goal

pub returns : goal.returns
returns c = present_groups
