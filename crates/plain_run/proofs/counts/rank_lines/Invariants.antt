use Rattle.std.proofs.Common.{◌≡◌, map}
use Rattle.std.specs.List.{range_with_len}
use Rattle.run_model.specs.Text.{rank_counts}
use Rattle.plain_run.proofs.counts.rank_lines.Given as goal

abbrev pub invariant-loop-rank : goal.invariant-loop-rank
invariant-loop-rank l = l.lines.items ≡ map (rank_counts l.fn.run l.built) (range_with_len 0 l.rank)
