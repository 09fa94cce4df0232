-- The canonical text of a kernel reads as this kernel again, but for places.
use Rattle.std.specs.Prelude.{◌≡◌, ℕ, List, Ok}
use Rattle.kern_token.specs.declared.token.Token.{Token}
use Rattle.kern_token.specs.Reading.{Spells}
use Rattle.kern_tree.specs.declared.kernel.Kernel.{Kernel}
use Rattle.kern_tree.specs.FirstFault.{Parses}
use Rattle.kern_print.specs.Canonical.{canonical_text}
use Rattle.kern_print.specs.Places.{without_places}

-- the text spells tokens that parse to this kernel, but for places
pub record ReadsAs (kernel : Kernel) (text : List ℕ) : Type 0 where
  pub tokens : List Token
  pub again : Kernel
  pub spelled : Spells text tokens
  pub parsed : Parses tokens (Ok again)
  pub same : without_places again ≡ without_places kernel

-- Of a kernel that some text spells within the limits, the canonical text reads as this kernel again, but
-- for places.
abbrev pub CanonicalReadsBack : Type 0
CanonicalReadsBack =
    (text : List ℕ) (tokens : List Token) (kernel : Kernel) → Spells text tokens → Parses tokens (Ok kernel)
    → ReadsAs kernel (canonical_text kernel)
