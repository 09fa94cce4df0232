use Rattle.kern_meaning.proofs.TypedPairs.{typing}
use Rattle.kern_meaning.proofs.laws.typed_kernels_have_one_pair.Goals as goal

pub returns : goal.returns
returns c =
    typing c.parsed_kernels_keep_limits.ensures c.declarations_fit.ensures.fit c.scopes_only_grow.ensures.statements c.scopes_only_grow.ensures.order c.names_keep_their_type.ensures c.scales_fit.ensures.expressions c.scales_fit.ensures.assigned
    c.assignments_fit.ensures c.contributions_fit.ensures
