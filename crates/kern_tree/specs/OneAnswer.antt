-- Tokens spell one kernel at most, and parsing them has one answer at most.
use Rattle.std.specs.Prelude.{◌≡◌, List, Result}
use Rattle.kern_token.specs.declared.fault.KernFault.{KernFault}
use Rattle.kern_token.specs.declared.token.Token.{Token}
use Rattle.kern_tree.specs.declared.kernel.Kernel.{Kernel}
use Rattle.kern_tree.specs.FirstFault.{Parses}
use Rattle.kern_tree.specs.Grammar.{SpellsKernel}

-- tokens spell at most one kernel
abbrev pub OneTree : Type 0
OneTree = (tokens : List Token) (a b : Kernel) → SpellsKernel tokens a → SpellsKernel tokens b → a ≡ b

-- parsing has at most one answer
abbrev pub OneAnswer : Type 0
OneAnswer = (tokens : List Token) (a b : Result Kernel KernFault) → Parses tokens a → Parses tokens b → a ≡ b
