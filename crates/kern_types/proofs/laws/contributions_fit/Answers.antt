use Rattle.kern_types.proofs.LawsOfStatements.{all_contributions_fit}
use Rattle.kern_types.proofs.laws.contributions_fit.Goals as goal

pub returns : goal.returns
returns c = all_contributions_fit
