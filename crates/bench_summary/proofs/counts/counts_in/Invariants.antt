use Rattle.std.proofs.Common.{◌≡◌, ◌*◌, ◌≤◌, ◌^◌, take}
use Rattle.std.specs.Prelude.{sum_by}
use Rattle.run_model.specs.declared.step_text.RankLine.{RankLine}
use Rattle.bench_summary.proofs.counts.counts_in.Given as goal

abbrev pub invariant-loop-line : goal.invariant-loop-line
invariant-loop-line l = record {
  groups : l.counts.groups ≡ sum_by (λ (r : RankLine). r.groups) (take l.line-index l.lines);
  listcells : l.counts.listcells ≡ sum_by (λ (r : RankLine). r.listcells) (take l.line-index l.lines);
  listparts : l.counts.listparts ≡ sum_by (λ (r : RankLine). r.listparts) (take l.line-index l.lines);
  few_groups : l.counts.groups ≤ l.line-index * 2 ^ 64;
  few_cells : l.counts.listcells ≤ l.line-index * 2 ^ 64;
  few_parts : l.counts.listparts ≤ l.line-index * 2 ^ 64;
}
