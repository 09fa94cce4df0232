use Rattle.std.proofs.Common.{◌≡◌, take}
use Rattle.kern_types.specs.Declarations.{forces_of}
use Rattle.kern_types.proofs.declarations.forces_of.Given as goal

abbrev pub invariant-loop-decl : goal.invariant-loop-decl
invariant-loop-decl l = l.forces.items ≡ forces_of (take l.decl-index l.decls)
