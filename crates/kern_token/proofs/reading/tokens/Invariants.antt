use Rattle.std.proofs.Common.{length}
use Rattle.kern_token.proofs.PieceLists.{HasRead}
use Rattle.kern_token.proofs.reading.tokens.Given as goal

abbrev pub invariant-loop-rest : goal.invariant-loop-rest
invariant-loop-rest l = HasRead l.text l.found.items l.place l.rest

abbrev pub decreases-loop-rest : goal.decreases-loop-rest
decreases-loop-rest l = length l.rest
