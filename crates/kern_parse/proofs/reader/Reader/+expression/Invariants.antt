use Rattle.std.proofs.Common.{length}
use Rattle.kern_parse.specs.inner.Found.{Joins, Picks}
use Rattle.kern_parse.proofs.Ranks.{calls_left, rank_of, operand_rank}
use Rattle.kern_parse.proofs.reader.Reader.+expression.Given as goal

abbrev pub decreases-chain : goal.decreases-chain
decreases-chain l = calls_left l.self.now.depth (rank_of l.level)

abbrev pub decreases-operand : goal.decreases-operand
decreases-operand l = calls_left l.self.now.depth (operand_rank l.level)

abbrev pub decreases-relation : goal.decreases-relation
decreases-relation l = calls_left l.self.now.depth 10

abbrev pub decreases-unary : goal.decreases-unary
decreases-unary l = calls_left l.self.now.depth 5

abbrev pub decreases-postfix : goal.decreases-postfix
decreases-postfix l = calls_left l.self.now.depth 4

abbrev pub decreases-primary : goal.decreases-primary
decreases-primary l = calls_left l.self.now.depth 3

abbrev pub decreases-call : goal.decreases-call
decreases-call l = calls_left l.self.now.depth 2

abbrev pub decreases-bracketed : goal.decreases-bracketed
decreases-bracketed l = calls_left l.self.now.depth 1

abbrev pub decreases-call_of_two : goal.decreases-call_of_two
decreases-call_of_two l = calls_left l.self.now.depth 1

abbrev pub decreases-call_of_three : goal.decreases-call_of_three
decreases-call_of_three l = calls_left l.self.now.depth 1

abbrev pub decreases-rescaling : goal.decreases-rescaling
decreases-rescaling l = calls_left l.self.now.depth 1

abbrev pub invariant-chain-loop-op : goal.invariant-chain-loop-op
invariant-chain-loop-op l = Joins l.level l.fn.self l.left l.self

abbrev pub decreases-chain-loop-op : goal.decreases-chain-loop-op
decreases-chain-loop-op l = length l.self.rest

abbrev pub invariant-postfix-loop-self : goal.invariant-postfix-loop-self
invariant-postfix-loop-self l = Picks l.fn.self l.inner l.self

abbrev pub decreases-postfix-loop-self : goal.decreases-postfix-loop-self
decreases-postfix-loop-self l = length l.self.rest
