use Rattle.std.proofs.Common.{◌≡◌, ◌≤◌, ◌*◌, ◌^◌, length}
use Rattle.std.specs.List.{flat_map, range_with_len}
use Rattle.pf_model.specs.Groups.{groups_of_rank, group_list}
use Rattle.plain_run.proofs.state.entry_count.Given as goal

abbrev pub invariant-loop-rank : goal.invariant-loop-rank
invariant-loop-rank l = record {
  value : l.count ≡ length (flat_map (group_list l.theta l.built) (flat_map (groups_of_rank l.limit l.grid l.built) (range_with_len 0 l.rank)));
  few : l.count ≤ l.rank * 2 ^ 32;
}
