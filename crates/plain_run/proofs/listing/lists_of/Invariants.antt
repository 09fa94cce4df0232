use Rattle.std.proofs.Common.{◌≡◌, ◌++◌, drop}
use Rattle.std.specs.List.{flat_map}
use Rattle.pf_model.specs.Group.{particles_in, box_of}
use Rattle.pf_model.specs.Interaction.{list_of}
use Rattle.plain_run.proofs.listing.lists_of.Given as goal

abbrev pub invariant-loop-cell : goal.invariant-loop-cell
invariant-loop-cell l =
    l.entries.items ++ flat_map (λ c. list_of l.theta (box_of (particles_in c l.own.items)) l.built) (drop l.cell-index l.cell-items)
    ≡ flat_map (λ c. list_of l.theta (box_of (particles_in c l.own.items)) l.built) l.cell-items
