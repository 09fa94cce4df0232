use Rattle.std.proofs.Common.{sym, subst}
use Rattle.pf_geom.specs.Octant.{IsOctant}
use Rattle.cell_runs.proofs.KeyLemmas.{IsCell-of_key}
use Rattle.cell_runs.proofs.finding.cell_of_key.Goals as goal

pub invariant_of-result : goal.invariant_of-result
invariant_of-result c = subst (IsOctant c.args.level) (sym c.cell_key.ensures) (IsCell-of_key c.args.key c.args.level c.requires.key c.requires.level)
