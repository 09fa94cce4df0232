use Rattle.kern_token.proofs.TokenPlaces.{Spells-stand, Spells-in_order}
use Rattle.kern_token.proofs.laws.tokens_stand_in_order.Goals as goal

pub returns-clause-stand : goal.returns-clause-stand
returns-clause-stand c = Spells-stand

pub returns-clause-in_order : goal.returns-clause-in_order
returns-clause-in_order c = Spells-in_order
