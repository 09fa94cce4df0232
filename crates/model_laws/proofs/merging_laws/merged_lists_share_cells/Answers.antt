use Rattle.model_laws.proofs.ListMergeLemmas.{merged_lists_share_cells}
use Rattle.model_laws.proofs.merging_laws.merged_lists_share_cells.Goals as goal

pub returns : goal.returns
returns c = merged_lists_share_cells c.lists_merge.ensures
