use Rattle.std.proofs.Common.{◌≡◌, ◌+◌, drop}
use Rattle.kern_meaning.specs.Pair.{block_meaning}
use Rattle.kern_meaning.proofs.statement.Walk.+skipped.Given as goal

abbrev pub invariant-past-loop-stmt : goal.invariant-past-loop-stmt
invariant-past-loop-stmt l = record {
  numbers : l.number + (block_meaning l.self.decls.now l.self.coincident (drop l.stmt-index l.block)).count ≡ l.fn.first + (block_meaning l.self.decls.now l.self.coincident l.block).count;
  slots : l.slot + (block_meaning l.self.decls.now l.self.coincident (drop l.stmt-index l.block)).slots ≡ l.fn.before + (block_meaning l.self.decls.now l.self.coincident l.block).slots;
}
