use Rattle.std.proofs.Common.{◌≡◌, drop}
use Rattle.kern_types.specs.Scopes.{Grows}
use Rattle.kern_types.specs.Statements.{stmts_after}
use Rattle.kern_types.proofs.statements.+statements.Given as goal

abbrev pub invariant-check_block-loop-stmt : goal.invariant-check_block-loop-stmt
invariant-check_block-loop-stmt l = record {
  answer : stmts_after l.decls l.block l.fn.scope ≡ stmts_after l.decls (drop l.stmt-index l.block) l.scope;
  grows : Grows l.fn.scope.earlier l.scope.earlier;
}
