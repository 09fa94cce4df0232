use Rattle.let_inbox.proofs.Keeps.{puts, rooms}
use Rattle.let_inbox.proofs.inbox.Inbox.put.Goals as goal

pub push_as-requires-clause-rule : goal.push_as-requires-clause-rule
push_as-requires-clause-rule g c = rw c.requires.of_inbox.unspent (
  puts g.M.Named.source g.M.Named.target g.M.Named.has_terms _ _ _ _ _ c.args.m c.requires.source c.requires.target c.requires.terms,
  rooms g.M.Named.source g.M.Named.target g.M.Named.has_terms _ _ _ _,
)
