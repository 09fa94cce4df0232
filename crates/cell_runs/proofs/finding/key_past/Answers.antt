use Rattle.std.proofs.Common.{◌-◌}
use Rattle.cell_runs.proofs.KeyLemmas.{past_from_bits}
use Rattle.cell_runs.proofs.finding.key_past.Goals as goal

pub returns : goal.returns
returns c = rw c.width_at-width.ensures.value (past_from_bits c.levels_take_three_bits.ensures c.args.key (30 - c.args.level))
