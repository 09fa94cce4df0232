use Rattle.std.proofs.Common.{◌≡◌, ◌*◌, ◌≤◌, take}
use Rattle.run_model.specs.Text.{cells_in, particles_within}
use Rattle.tree_phase.specs.Counts.{all_entries}
use Rattle.tree_phase.proofs.counts.counts_of.Given as goal

abbrev pub invariant-loop-group : goal.invariant-loop-group
invariant-loop-group l = record {
  cells : l.listcells ≡ cells_in (all_entries (take l.group l.lists.groups));
  few_cells : l.listcells ≤ 65536 * l.group;
  particles : l.listparts ≡ particles_within (all_entries (take l.group l.lists.groups));
  few_particles : l.listparts ≤ 65536 * l.group;
}
