use Rattle.run_model.proofs.GridLemmas.{grids_change_owners}
use Rattle.run_model.proofs.laws.grids_change_owners_alone.Goals as goal

pub returns : goal.returns
returns c =
    grids_change_owners (record {
      one = c.groups_of_one_are_one_place.ensures;
      cells = c.group_cells_are_ordered.ensures;
      owners = c.owners_are_ranks.ensures;
    })
