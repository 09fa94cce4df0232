use Rattle.model_laws.proofs.TogetherLemmas.{entries_join_their_moments}
use Rattle.model_laws.proofs.moment_laws.entries_join_their_moments.Goals as goal

pub returns : goal.returns
returns c = entries_join_their_moments
