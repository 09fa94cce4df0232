use Rattle.std.proofs.Common.{◌≡◌, ◌*◌, ◌^◌, ◌≤◌, take}
use Rattle.std.specs.List.{sum_by}
use Rattle.group_lists.specs.Gathering.{gathered_count}
use Rattle.rank_step.proofs.build.count_of.Given as goal

abbrev pub invariant-loop-gather : goal.invariant-loop-gather
invariant-loop-gather g l = record {
  so_far : l.count ≡ sum_by (gathered_count g.T.Terms.theta g.T.Terms.grid g.T.Terms.particles) (take l.gather-index l.gathers);
  few : l.count ≤ l.gather-index * 2 ^ 32;
}
