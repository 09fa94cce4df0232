use Rattle.model_laws.proofs.ReuseLemmas.{kept_lists_begin_as_lists}
use Rattle.model_laws.proofs.reuse_laws.kept_lists_begin_as_lists.Goals as goal

pub returns : goal.returns
returns c = kept_lists_begin_as_lists
