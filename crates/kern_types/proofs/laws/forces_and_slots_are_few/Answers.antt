use Rattle.kern_types.proofs.LawsOfDeclarations.{few}
use Rattle.kern_types.proofs.laws.forces_and_slots_are_few.Goals as goal

pub returns : goal.returns
returns c = few c.parsed_kernels_keep_limits.ensures
