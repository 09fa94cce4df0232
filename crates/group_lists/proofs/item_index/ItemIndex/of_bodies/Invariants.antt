use Rattle.std.proofs.Common.{◌≡◌, map, take}
use Rattle.group_lists.specs.Indexed.{as_items}
use Rattle.group_lists.proofs.KeyedLemmas.{place_key}
use Rattle.group_lists.proofs.IndexLemmas.{AreIdsUpTo}
use Rattle.group_lists.proofs.item_index.ItemIndex.of_bodies.Given as goal

abbrev pub invariant-loop-place : goal.invariant-loop-place
invariant-loop-place l = (l.keys.items ≡ map place_key (take l.place l.bodies)) × AreIdsUpTo (as_items l.bodies) l.place l.ids.items
