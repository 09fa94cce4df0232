use Rattle.std.proofs.Common.{lit≤}
use Rattle.method_examples.proofs.Ids.{two_differ}
use Rattle.method_examples.proofs.tests.ranks.two.Goals as goal

pub returns-clause-bodies : goal.returns-clause-bodies
returns-clause-bodies c = record { few = lit≤ tt; distinct = two_differ c.args.first.id c.args.second.id c.requires }
