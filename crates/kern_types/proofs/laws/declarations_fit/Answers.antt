use Rattle.kern_types.proofs.LawsOfDeclarations.{names_declared_once, all_declarations_fit}
use Rattle.kern_types.proofs.laws.declarations_fit.Goals as goal

pub returns : goal.returns
returns c = record { once = names_declared_once; fit = all_declarations_fit }
