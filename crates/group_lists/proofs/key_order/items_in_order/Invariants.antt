use Rattle.std.proofs.Common.{◌≡◌, get_or, map, take}
use Rattle.pf_model.specs.declared.entry.Entry.{Entry}
use Rattle.group_lists.specs.declared.key_order.KeyPlace.{KeyPlace}
use Rattle.group_lists.proofs.key_order.items_in_order.Given as goal

abbrev pub invariant-loop-o : goal.invariant-loop-o
invariant-loop-o l = (item : Entry) → l.moved.items ≡ map (λ (o : KeyPlace). get_or l.items o.place item) (take l.o-index l.order)
