use Rattle.std.proofs.Common.{◌<◌, length, arith}
use Rattle.std.proofs.lemmas.List.Sums.{sum_by_more}
use Rattle.run_model.specs.declared.step_text.RankLine.{RankLine}
use Rattle.bench_summary.proofs.counts.counts_in.Goals as goal

-- a line of nothing
abbrev nothing : RankLine
nothing = record { particles = 0; groups = 0; cells = 0; parts = 0; listcells = 0; listparts = 0 }

pub loop-line-preserved : goal.loop-line-preserved
loop-line-preserved c =
    let at = c.loop-line.line-index in
    let lines = c.args.lines.now in
    let within : at < length lines = c.loop-line-test.true in
    let groups = sum_by_more (λ (r : RankLine). r.groups) lines at nothing within in
    let listcells = sum_by_more (λ (r : RankLine). r.listcells) lines at nothing within in
    let listparts = sum_by_more (λ (r : RankLine). r.listparts) lines at nothing within in
    record {
      groups = omega (arith, c.from.ensures, groups);
      listcells = omega (arith, c.from-in-loop-line.ensures, listcells);
      listparts = omega (arith, c.from-in-loop-line-2.ensures, listparts);
      few_groups = omega (arith, c.from.ensures);
      few_cells = omega (arith, c.from-in-loop-line.ensures);
      few_parts = omega (arith, c.from-in-loop-line-2.ensures);
    }
