use Rattle.std.proofs.Common.{length}
use Rattle.kern_parse.specs.inner.Decls.{Declares}
use Rattle.kern_parse.proofs.reader.Reader.declarations.Given as goal

abbrev pub invariant-loop-start : goal.invariant-loop-start
invariant-loop-start l = Declares l.fn.self l.decls l.self

abbrev pub decreases-loop-start : goal.decreases-loop-start
decreases-loop-start l = length l.self.rest
