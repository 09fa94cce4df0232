use Rattle.std.proofs.Common.{◌≡◌, List, take}
use Rattle.pf_geom.specs.Bounds.{Bounds}
use Rattle.pf_model.specs.declared.entry.Entry.{Entry}
use Rattle.pf_model.specs.Criterion.{Criterion}
use Rattle.list_reuse.specs.Refreshing.{IsKeptOf, present_items}
use Rattle.list_reuse.proofs.refreshing.refreshed.Given as goal

abbrev pub invariant-loop-place : goal.invariant-loop-place
invariant-loop-place l =
    (t : Criterion) (box : Bounds) (items : List Entry) → IsKeptOf t box l.tree.built items l.sent →
    l.values.items ≡ take l.place (present_items t box l.tree.built l.tree.bodies items)
