use Rattle.kern_types.proofs.LawsOfStatements.{on_every_path, at_the_end}
use Rattle.kern_types.proofs.laws.certain_is_on_every_path.Goals as goal

pub returns : goal.returns
returns c = record { statements = on_every_path; end = at_the_end c.parsed_kernels_keep_limits.ensures }
