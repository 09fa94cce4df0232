-- Faults as text.
use Rattle.std.specs.Prelude.{ℕ, List, codes}
use Rattle.pf_num.specs.declared.fault.NumFault.{NumFault}
use Rattle.pf_num.specs.declared.fault.NumFault.TheVariants.{Overflow, ZeroDivisor, NegativeRoot}

-- what a fault prints, in ASCII
abbrev pub text_of : NumFault → List ℕ
text_of Overflow = codes "overflow"
text_of ZeroDivisor = codes "division by zero"
text_of NegativeRoot = codes "root of a negative number"
