use Rattle.cell_runs.proofs.KeyLemmas.{leading_bits, levels_in_common}
use Rattle.cell_runs.proofs.finding.common_levels.Goals as goal

pub overflow_sub-result : goal.overflow_sub-result
overflow_sub-result c = leading_bits c.args.one c.args.other c.requires.one c.requires.other

pub returns-clause-common : goal.returns-clause-common
returns-clause-common c = λ level within. levels_in_common c.levels_take_three_bits.ensures c.args.one c.args.other level c.requires.one c.requires.other within
