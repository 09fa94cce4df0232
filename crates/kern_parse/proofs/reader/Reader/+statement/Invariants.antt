use Rattle.std.proofs.Common.{length}
use Rattle.kern_parse.specs.inner.Stmts.{Lists}
use Rattle.kern_parse.proofs.Ranks.{calls_left}
use Rattle.kern_parse.proofs.reader.Reader.+statement.Given as goal

abbrev pub decreases-statements : goal.decreases-statements
decreases-statements l = calls_left l.self.now.depth 5

abbrev pub decreases-statement : goal.decreases-statement
decreases-statement l = calls_left l.self.now.depth 4

abbrev pub decreases-conditional : goal.decreases-conditional
decreases-conditional l = calls_left l.self.now.depth 3

abbrev pub decreases-else_block : goal.decreases-else_block
decreases-else_block l = calls_left l.self.now.depth 2

abbrev pub decreases-block : goal.decreases-block
decreases-block l = calls_left l.self.now.depth 1

abbrev pub invariant-statements-loop-stmts : goal.invariant-statements-loop-stmts
invariant-statements-loop-stmts l = Lists l.fn.self l.stmts l.self

abbrev pub decreases-statements-loop-stmts : goal.decreases-statements-loop-stmts
decreases-statements-loop-stmts l = length l.self.rest
