use Rattle.std.proofs.Common.{◌≡◌, map, take}
use Rattle.kern_types.specs.Names.{declaration}
use Rattle.kern_meaning.specs.Variables.{variable_of}
use Rattle.kern_meaning.proofs.prepare.variables_of.Given as goal

abbrev pub invariant-loop-name : goal.invariant-loop-name
invariant-loop-name l = l.variables.items ≡ map (λ name. variable_of (declaration l.decls name)) (take l.name-index l.names)
