use Rattle.std.proofs.Common.{◌-◌, ◌*◌, ◌^◌, arith}
use Rattle.std.proofs.Math.Nat.{one-mul}
use Rattle.cell_runs.proofs.KeyLemmas.{width_fits}
use Rattle.cell_runs.proofs.finding.width_at.Goals as goal

pub returns-clause-fits : goal.returns-clause-fits
returns-clause-fits c =
    omega (arith, one-mul (2 ^ (3 * (30 - c.args.level))), width_fits (30 - c.args.level) (omega arith))
