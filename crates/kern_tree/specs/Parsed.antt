-- Kernels that parsing a text can give.
use Rattle.std.specs.Prelude.{ℕ, List, Ok}
use Rattle.kern_token.specs.declared.token.Token.{Token}
use Rattle.kern_token.specs.Reading.{Spells}
use Rattle.kern_tree.specs.declared.kernel.Kernel.{Kernel}
use Rattle.kern_tree.specs.FirstFault.{Parses}

-- some text spells tokens that parse to this kernel
pub record IsParsed (kernel : Kernel) : Type 0 where
  pub text : List ℕ
  pub tokens : List Token
  pub spelled : Spells text tokens
  pub parsed : Parses tokens (Ok kernel)
