use Rattle.text_lines.proofs.FoundLemmas.{digits_are_found, integers_are_found}
use Rattle.text_lines.proofs.laws.numbers_are_found.Goals as goal

pub returns-clause-digits : goal.returns-clause-digits
returns-clause-digits c = digits_are_found

pub returns-clause-integers : goal.returns-clause-integers
returns-clause-integers c = integers_are_found
