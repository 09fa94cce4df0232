use Rattle.std.proofs.Common.{◌≡◌, ◌++◌, map, take}
use Rattle.step_core.specs.Plain.{site_in}
use Rattle.step_core.proofs.grouping.add_sites.Given as goal

abbrev pub invariant-loop-cell : goal.invariant-loop-cell
invariant-loop-cell l = l.sites.items ≡ l.fn.sites.items ++ map (site_in l.own l.rank) (take l.cell-index l.cell-items)
