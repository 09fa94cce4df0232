use Rattle.std.proofs.Common.{◌++◌, ◌∷◌, [], ◌∙◌, sym, arith}
use Rattle.std.proofs.lemmas.List.FromFn.{map-range_with_len_more}
use Rattle.run_model.specs.Text.{rank_counts}
use Rattle.plain_run.proofs.counts.rank_lines.Goals as goal

pub loop-rank-preserved : goal.loop-rank-preserved
loop-rank-preserved c =
    let f = rank_counts c.args.run.now c.args.built.now in
    let rank = c.loop-rank.rank in
    c.in_ok-push.ensures.items ∙ (λ i. c.loop-rank.invariant i ++ c.in_ok-rank_counts.ensures i ∷ []) ∙ sym (map-range_with_len_more f 0 rank rank (omega arith))
