use Rattle.kern_types.proofs.LawsOfStatements.{keep_their_type}
use Rattle.kern_types.proofs.laws.names_keep_their_type.Goals as goal

pub returns : goal.returns
returns c = keep_their_type c.parsed_kernels_keep_limits.ensures
