use Rattle.particle_file.proofs.SpellingLemmas.{what_is_spelled_is_read, what_is_read_is_spelled, what_is_spelled_is_plain}
use Rattle.particle_file.proofs.TextFaults.{first_fault_found, first_fault_only}
use Rattle.particle_file.proofs.laws.reading_is_spelling.Goals as goal

pub returns-clause-spelled : goal.returns-clause-spelled
returns-clause-spelled c = λ text ps. what_is_spelled_is_read text ps c.numbers_are_found.ensures.integers c.numbers_are_found.ensures.digits

pub returns-clause-read : goal.returns-clause-read
returns-clause-read c = λ text ps. what_is_read_is_spelled text ps c.numbers_are_found.ensures.integers c.numbers_are_found.ensures.digits

pub returns-clause-plain : goal.returns-clause-plain
returns-clause-plain c = what_is_spelled_is_plain

pub returns-clause-first : goal.returns-clause-first
returns-clause-first c = λ text fault. (first_fault_found text fault c.numbers_are_found.ensures.integers, first_fault_only text fault c.numbers_are_found.ensures.integers c.numbers_are_found.ensures.digits)
