use Rattle.std.proofs.Common.{arith}
use Rattle.pf_num.proofs.QuotientLemmas.{wide_quotients, exact_quotient-truncates}
use Rattle.pf_num.proofs.quotient.muldiv.Goals as goal

pub returns-clause-answer : goal.returns-clause-answer
returns-clause-answer c = grind (arith, wide_quotients)

pub returns-clause-truncated : goal.returns-clause-truncated
returns-clause-truncated c = exact_quotient-truncates _ _ _ (returns-clause-answer c)
