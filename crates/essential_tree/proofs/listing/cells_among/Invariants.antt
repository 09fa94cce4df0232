use Rattle.std.proofs.Common.{◌≡◌, take}
use Rattle.essential_tree.specs.Sending.{cells_among}
use Rattle.essential_tree.proofs.listing.cells_among.Given as goal

abbrev pub invariant-loop-entry : goal.invariant-loop-entry
invariant-loop-entry l = l.cells.items ≡ cells_among (take l.entry-index l.entries)
