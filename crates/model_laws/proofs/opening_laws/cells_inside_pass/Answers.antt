use Rattle.model_laws.proofs.CriterionLemmas.{passes-grows, side-shrinks}
use Rattle.model_laws.proofs.opening_laws.cells_inside_pass.Goals as goal

pub returns : goal.returns
returns c = λ t box inner outer box_is inner_is outer_is inside passes.
    let deeper = (c.cells_nest.ensures inner outer inner_is outer_is).0 inside in
    passes-grows _ _ _ _ t.a t.b (side-shrinks outer.level inner.level deeper.0) (c.gaps_grow_as_cells_shrink.ensures t.edge box inner outer box_is inner_is outer_is inside) passes
