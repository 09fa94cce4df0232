use Rattle.std.proofs.Common.{◌-◌, ◌/◌, ap}
use Rattle.cell_runs.proofs.finding.cell_key.Goals as goal

pub returns : goal.returns
returns c = ap (λ w. c.args.key / w) (c.levels_take_three_bits.ensures (30 - c.args.level))
