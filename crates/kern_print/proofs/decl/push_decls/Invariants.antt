use Rattle.std.proofs.Common.{◌≡◌, ◌++◌, take}
use Rattle.std.specs.List.{flat_map}
use Rattle.kern_print.specs.Canonical.{decl_text}
use Rattle.kern_print.proofs.decl.push_decls.Given as goal

abbrev pub invariant-loop-decl : goal.invariant-loop-decl
invariant-loop-decl l = l.out.items ≡ l.fn.out.items ++ flat_map decl_text (take l.decl-index l.decls)
