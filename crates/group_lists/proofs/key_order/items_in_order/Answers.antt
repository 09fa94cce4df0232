use Rattle.std.proofs.Common.{get_or, map, ◌∙◌, ap}
use Rattle.std.proofs.lemmas.List.{take_all, get_or_default}
use Rattle.group_lists.specs.declared.key_order.KeyPlace.{KeyPlace}
use Rattle.group_lists.proofs.PlacedLemmas.{moved_more}
use Rattle.group_lists.proofs.key_order.items_in_order.Goals as goal

pub loop-o-preserved : goal.loop-o-preserved
loop-o-preserved c = λ item.
    let order = c.args.order.now in
    let n = c.loop-o.o-index in
    let first : KeyPlace = record { key = 0; place = 0 } in
    let o : KeyPlace = get_or order n first in
    moved_more c.args.items.now c.loop-o.moved.items c.push.new.self.items order n o c.index-items-o.result item c.loop-o-test.true (get_or_default order n first o c.loop-o-test.true)
    (c.requires n first c.loop-o-test.true) c.index-items-o.is (c.loop-o.invariant item) c.in_ok-push.ensures.items

pub returns : goal.returns
returns c = λ item.
    c.loop-o.invariant item ∙ ap (map (λ (o : KeyPlace). get_or c.args.items.now o.place item)) (take_all c.loop-o.o-index c.args.order.now c.loop-o-test.false)
