use Rattle.refresh_phase.proofs.BuildLemmas.{all_begin}
use Rattle.refresh_phase.proofs.laws.builds_begin_as_kept.Goals as goal

pub returns : goal.returns
returns c limit t g js trees gathers finished ranks built are = all_begin c.present_entries_are_found.ensures c.lists_of_a_build_are_kept.ensures limit t g js trees gathers finished built ranks are
