use Rattle.std.proofs.Common.{◌≡◌, List, length, map, ◌∙◌, ap, subst, arith}
use Rattle.std.proofs.lemmas.List.{length_push}
use Rattle.pf_geom.specs.Position.{Position}
use Rattle.pf_geom.specs.Key.{morton_key}
use Rattle.pf_model.specs.Criterion.{Criterion}
use Rattle.cell_runs.specs.CellRuns.{IsCellRun}
use Rattle.cell_runs.specs.Finding.{IsBetweenCells}
use Rattle.cell_runs.proofs.RunLemmas.{runs_more}
use Rattle.cell_runs.proofs.finding.find_runs.Goals as goal

pub loop-place-preserved : goal.loop-place-preserved
loop-place-preserved g c =
    let before = c.loop-place.invariant in
    let run = c.run_from-run in
    let over =
    subst (λ (t : Criterion). (ps : List Position) → c.args.keys.now ≡ map morton_key ps → IsBetweenCells t c.args.b ps c.loop-place.place → IsCellRun t c.args.b ps run.result) before.1 run.ensures.run
    in (
      run.ensures.inside,
      before.1,
      runs_more c.args.t c.args.b c.args.keys.now c.loop-place.place c.loop-place.runs.items c.push.new.self.items run.result before.2 run.ensures.first over c.in_ok-push.ensures.items,
      (
          let so_far = before.3 in
          let here = run.ensures.cost in
          let long = ap length c.in_ok-push.ensures.items in
          let more = length_push c.loop-place.runs.items run.result in
          omega arith
          ),
      λ none. run.ensures.none none ∙ before.4 none,
    )
