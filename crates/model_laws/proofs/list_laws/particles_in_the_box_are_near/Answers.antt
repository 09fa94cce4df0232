use Rattle.model_laws.proofs.ListCellLemmas.{particles_in_the_box_are_near}
use Rattle.model_laws.proofs.list_laws.particles_in_the_box_are_near.Goals as goal

pub returns : goal.returns
returns c = particles_in_the_box_are_near c.passing_cells_lie_apart.ensures c.positions_have_cells.ensures
