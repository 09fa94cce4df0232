use Rattle.std.proofs.Common.{◌≡◌, [], take, drop}
use Rattle.kern_types.specs.Declarations.{decls_check}
use Rattle.kern_types.proofs.declarations.check_decls.Given as goal

abbrev pub invariant-loop-i : goal.invariant-loop-i
invariant-loop-i l = decls_check [] l.decls ≡ decls_check (take l.i l.decls) (drop l.i l.decls)
