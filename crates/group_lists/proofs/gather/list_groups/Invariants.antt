use Rattle.std.proofs.Common.{◌≡◌, ◌+◌, ◌*◌, ◌≤◌, take}
use Rattle.group_lists.proofs.GatherLemmas.{AreListed}
use Rattle.group_lists.proofs.gather.list_groups.Given as goal

abbrev pub invariant-loop-group : goal.invariant-loop-group
invariant-loop-group g l = record {
  listed : AreListed l.t l.tree.built (take l.group-index l.groups) l.listed.items l.count;
  tests : l.steps ≤ l.initial.steps + 31 * l.count;
  none : l.t.a ≡ 0 → l.steps ≡ l.initial.steps;
}
