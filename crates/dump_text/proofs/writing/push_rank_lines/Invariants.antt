use Rattle.std.proofs.Common.{◌≡◌, ◌++◌, drop}
use Rattle.std.specs.List.{enumerate_from, flat_map}
use Rattle.run_model.specs.StepText.{rank_line}
use Rattle.dump_text.proofs.writing.push_rank_lines.Given as goal

-- what is written, with the lines that are still to come, is all
abbrev pub invariant-loop-rank : goal.invariant-loop-rank
invariant-loop-rank l =
    l.out.items ++ flat_map (λ r. rank_line r.0 r.1) (enumerate_from l.rank (drop l.rank l.ranks))
    ≡ l.initial.out.items ++ flat_map (λ r. rank_line r.0 r.1) (enumerate_from 0 l.ranks)
