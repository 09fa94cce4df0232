use Rattle.text_lines.proofs.DecimalLemmas.{digits_back, integers_back}
use Rattle.text_lines.proofs.laws.numbers_read_back.Goals as goal

pub returns-clause-digits : goal.returns-clause-digits
returns-clause-digits c = digits_back

pub returns-clause-integers : goal.returns-clause-integers
returns-clause-integers c = integers_back
