use Rattle.std.proofs.Common.{◌∙◌, ap}
use Rattle.std.proofs.lemmas.Result.{IfOk-weaker}
use Rattle.run_model.specs.Setup.{Setup}
use Rattle.run_model.specs.Text.{rank_counts}
use Rattle.plain_run.proofs.CountLemmas.{counts_are}
use Rattle.plain_run.proofs.counts.rank_counts.Goals as goal

pub returns : goal.returns
returns c = IfOk-weaker c.counts_by.result _ _ (λ line e. e ∙ counts_are _ c.args.built.now c.args.rank ∙ ap (λ (u : Setup). rank_counts u c.args.built.now c.args.rank) c.run.view_is) c.counts_by.ensures
