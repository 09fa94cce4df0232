use Rattle.std.proofs.Common.{inr, ◌∙◌, ap, map}
use Rattle.std.proofs.lemmas.Result.{IfOk-weaker}
use Rattle.refresh_phase.specs.Kept.{as_built}
use Rattle.rank_step.specs.declared.keeping.RankBuilt.{RankBuilt}
use Rattle.rank_step.proofs.KeptLemmas.{kept_as_built}
use Rattle.rank_step.proofs.keeping.keep.Goals as goal

pub returns : goal.returns
returns c =
    IfOk-weaker c.keep_all.result _ _
    (λ kept is. inr (kept_as_built c.args.trees.items c.args.lists.items kept.items c.requires (is ∙ ap (map (λ (r : RankBuilt). as_built r.tree r.lists)) c.in_ok-paired.ensures))) c.keep_all.ensures
