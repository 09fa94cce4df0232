use Rattle.std.proofs.Common.{◌≡◌, ◌+◌, length, take, flat_map}
use Rattle.force_phase.proofs.numbered.group_of.Given as goal

abbrev pub invariant-loop-has : goal.invariant-loop-has
invariant-loop-has g l = length (flat_map g.H.HasLists.has (take l.has-index l.lists)) + l.left ≡ l.number
