use Rattle.kern_types.proofs.SlotForces.{have_forces}
use Rattle.kern_types.proofs.laws.slots_have_forces.Goals as goal

pub returns : goal.returns
returns c = have_forces c.parsed_kernels_keep_limits.ensures
