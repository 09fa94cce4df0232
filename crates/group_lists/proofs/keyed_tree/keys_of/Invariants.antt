use Rattle.std.proofs.Common.{◌≡◌, ◌^◌, ◌<◌, map, take}
use Rattle.std.specs.List.{All}
use Rattle.group_lists.specs.Keyed.{item_key}
use Rattle.group_lists.proofs.keyed_tree.keys_of.Given as goal

abbrev pub invariant-loop-item : goal.invariant-loop-item
invariant-loop-item l = (l.keys.items ≡ map item_key (take l.item-index l.items)) × All (λ key. key < 2 ^ 90) l.keys.items
