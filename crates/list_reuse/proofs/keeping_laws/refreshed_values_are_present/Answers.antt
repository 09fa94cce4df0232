use Rattle.list_reuse.proofs.PresentLemmas.{refreshed_values_are_present}
use Rattle.list_reuse.proofs.keeping_laws.refreshed_values_are_present.Goals as goal

pub returns : goal.returns
returns c = refreshed_values_are_present c.laws.ensures c.present_of_some_stay_some.ensures c.present_entries_are_found.ensures
