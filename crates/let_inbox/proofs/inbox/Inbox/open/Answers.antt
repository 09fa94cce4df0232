use Rattle.let_inbox.proofs.Keeps.{begins}
use Rattle.let_inbox.proofs.inbox.Inbox.open.Goals as goal

pub ruled-requires-clause-rule : goal.ruled-requires-clause-rule
ruled-requires-clause-rule g c = begins g.M.Named.source g.M.Named.target g.M.Named.has_terms
