-- How deep the calls of the parser go at most.
use Rattle.std.proofs.Common.{ℕ, ◌+◌, ◌*◌, ◌-◌}
use Rattle.kern_parse.specs.declared.operators.Level.{Level}
use Rattle.kern_parse.specs.declared.operators.Level.TheVariants as levels

-- so many calls are left before a bracket is opened
abbrev pub calls_left : ℕ → ℕ → ℕ
calls_left depth rank = 20 * (32 - depth) + rank

abbrev pub rank_of : Level → ℕ
rank_of levels.Or = 14
rank_of levels.And = 12
rank_of levels.Sum = 9
rank_of levels.Product = 7

abbrev pub operand_rank : Level → ℕ
operand_rank levels.Or = 13
operand_rank levels.And = 11
operand_rank levels.Sum = 8
operand_rank levels.Product = 6
