use Rattle.model_laws.proofs.ListMergeLemmas.{lists_merge}
use Rattle.model_laws.proofs.merging_laws.lists_merge.Goals as goal

pub returns : goal.returns
returns c = lists_merge c.lists_hold_first_cells.ensures c.lists_hold_near_particles.ensures c.positions_have_cells.ensures
