use Rattle.list_reuse.proofs.BeginLemmas.{lists_of_a_build_are_kept}
use Rattle.list_reuse.proofs.keeping_laws.lists_of_a_build_are_kept.Goals as goal

pub returns : goal.returns
returns c = lists_of_a_build_are_kept c.kept_lists_begin_as_lists.ensures c.present_entries_are_found.ensures c.tests_keep_what_passes.ensures
