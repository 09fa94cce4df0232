use Rattle.std.proofs.Common.{◌<◌, ◌≤◌, sym, subst}
use Rattle.std.proofs.Math.Nat.{mul-pos}
use Rattle.pf_geom.specs.Gap.{square}
use Rattle.pf_model.specs.Criterion.{Criterion}
use Rattle.opening_test.proofs.TableLemmas.{ceil_serves}
use Rattle.opening_test.proofs.gap_table.least_for_cube.Goals as goal

pub returns-clause-value : goal.returns-clause-value
returns-clause-value c =
    let some = subst (λ (t : Criterion). 1 ≤ t.a) (sym c.t.view_is) c.requires in
    rw (c.div_ceil.ensures, c.square.ensures.value, c.square-2.ensures.value, c.square-3.ensures.value, ← c.t.view_is) (λ n. ceil_serves _ (square c.t.inside.a) n (mul-pos some some))
