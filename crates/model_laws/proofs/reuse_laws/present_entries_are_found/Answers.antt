use Rattle.model_laws.proofs.PresentLemmas.{present_entries_are_found}
use Rattle.model_laws.proofs.reuse_laws.present_entries_are_found.Goals as goal

pub returns : goal.returns
returns c = present_entries_are_found
