use Rattle.std.proofs.Common.{arith}
use Rattle.let_inbox.proofs.Keeps.{opens}
use Rattle.let_inbox.proofs.inbox.open_pass.Goals as goal

pub another-requires-clause-rule : goal.another-requires-clause-rule
another-requires-clause-rule g c = let place = c.requires.place in let within = c.requires.within in
    rw c.requires.opens (opens g.M.Named.source g.M.Named.target g.M.Named.has_terms g.N.Place.rank g.N.Place.ranks _ (omega arith))
