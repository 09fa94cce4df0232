use Rattle.std.proofs.Common.{◌≡◌, ◌++◌, Some, map, take, drop}
use Rattle.std.specs.List.{slice_get}
use Rattle.group_lists.specs.Whole.{GroupList}
use Rattle.list_reuse.specs.Renewing.{with_group, entry_now, built_list}
use Rattle.list_reuse.proofs.renewing.renew_group.Given as goal

abbrev pub ghost-renew_entry : goal.ghost-renew_entry
ghost-renew_entry g a = g.m

abbrev pub invariant-loop-place : goal.invariant-loop-place
invariant-loop-place g l =
    let ls = l.initial.lists in
    (k : GroupList) → slice_get ls.groups l.group ≡ Some k →
    l.lists ≡ with_group ls l.group (record k { entries = map (entry_now g.m ls.built k) (take l.place (built_list g.m ls.built k)) ++ drop l.place k.entries })
