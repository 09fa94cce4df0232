use Rattle.model_laws.proofs.DomainLemmas.{cuts_are_of_slabs_and_columns}
use Rattle.model_laws.proofs.domain_laws.cuts_are_of_slabs_and_columns.Goals as goal

pub returns : goal.returns
returns c = cuts_are_of_slabs_and_columns
