use Rattle.list_reuse.proofs.BeginLemmas.{moved_bodies_are_present}
use Rattle.list_reuse.proofs.keeping_laws.moved_bodies_are_present.Goals as goal

pub returns : goal.returns
returns c = moved_bodies_are_present c.present_entries_are_found.ensures
