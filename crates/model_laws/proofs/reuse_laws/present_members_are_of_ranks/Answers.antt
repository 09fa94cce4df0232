use Rattle.model_laws.proofs.KeptLemmas.{present_members_are_of_ranks}
use Rattle.model_laws.proofs.reuse_laws.present_members_are_of_ranks.Goals as goal

pub returns : goal.returns
returns c = present_members_are_of_ranks c.ranks_have_their_own.ensures
