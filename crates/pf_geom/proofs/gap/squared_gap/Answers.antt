use Rattle.pf_geom.specs.Gap.{gap2_to}
use Rattle.pf_geom.proofs.gap.squared_gap.Goals as goal

pub returns-clause-value : goal.returns-clause-value
unfolding gap2_to
returns-clause-value c =
    rw (← c.b.view_is, ← c.closed_box-cell.ensures, ← c.cell.view_is, ← c.from.view_is, ← c.to.view_is, ← c.lo.view_is, ← c.hi.view_is, c.square.ensures.value, c.square-2.ensures.value, c.square-3.ensures.value, c.axis_gap.ensures.value, c.axis_gap-2.ensures.value, c.axis_gap-3.ensures.value)
