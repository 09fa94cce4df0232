use Rattle.kern_types.proofs.LawsOfStatements.{all_assignments_fit}
use Rattle.kern_types.proofs.laws.assignments_fit.Goals as goal

pub returns : goal.returns
returns c = all_assignments_fit
