use Rattle.kern_types.proofs.LawsOfStatements.{only_grow, growth_is_an_order}
use Rattle.kern_types.proofs.laws.scopes_only_grow.Goals as goal

pub returns : goal.returns
returns c = record { statements = only_grow; order = growth_is_an_order }
