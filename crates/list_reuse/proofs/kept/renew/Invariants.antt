use Rattle.std.proofs.Common.{◌≡◌, ◌++◌, map, take, drop}
use Rattle.list_reuse.specs.Renewing.{renewed_group}
use Rattle.list_reuse.proofs.kept.renew.Given as goal

abbrev pub ghost-renew_group : goal.ghost-renew_group
ghost-renew_group g a = g.m

abbrev pub invariant-loop-group : goal.invariant-loop-group
invariant-loop-group g l =
    let ls = l.initial.lists in
    l.lists ≡ record ls { groups = map (renewed_group g.m ls.built) (take l.group ls.groups) ++ drop l.group ls.groups }
