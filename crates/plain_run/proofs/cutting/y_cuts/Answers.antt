use Rattle.std.proofs.Common.{◌∙◌, ap}
use Rattle.std.proofs.lemmas.Result.{IfOk-weaker}
use Rattle.pf_geom.specs.declared.axis.Axis.TheVariants.{Y}
use Rattle.pf_model.specs.Division.{Division}
use Rattle.pf_model.specs.Domains.{cuts_of}
use Rattle.pf_geom.specs.Position.{along}
use Rattle.plain_run.proofs.cutting.y_cuts.Goals as goal

pub returns : goal.returns
returns c =
    let slab = c.deref.ensures.value ∙ c.in_ok-slab.ensures.value in
    let ny = ap (λ (g : Division). g.ny) c.grid.view_is in
    IfOk-weaker c.cut_along.result _ _ (λ cuts e. e ∙ (λ i. cuts_of (along Y) (slab i) (ny i))) c.cut_along.ensures
