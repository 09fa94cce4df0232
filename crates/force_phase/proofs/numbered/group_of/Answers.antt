use Rattle.std.proofs.Common.{◌≡◌, List, length, ap, ◌∙◌, arith}
use Rattle.std.specs.Prelude.{slice_get}
use Rattle.group_lists.specs.Whole.{GroupList}
use Rattle.force_phase.proofs.GroupNumbers.{group_there}
use Rattle.force_phase.proofs.numbered.group_of.Goals as goal

pub returns-then-left-groups-clause-same : goal.returns-then-left-groups-clause-same
returns-then-left-groups-clause-same g c =
    let has = g.H.HasLists.has in
    let own = c.lists-lists.ensures in
    let long : length c.lists-lists.result.now.groups ≡ length (has c.has-item.result) = ap length own in
    ap (λ (l : List GroupList). slice_get l c.loop-has.left) own
    ∙ group_there has c.args.lists.now c.loop-has.has-index c.has-item.result c.loop-has.left c.args.number (omega (arith, c.loop-has-test.true)) c.has-item.is
    (omega (arith, long, c.if-left-groups.true, c.groups.ensures.value)) c.loop-has.invariant
