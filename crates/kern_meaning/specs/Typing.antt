-- The law on pairs of typed kernels.
use Rattle.std.specs.Prelude.{◌≡◌, List, Option, Result}
use Rattle.pf_model.specs.Particle.{Particle}
use Rattle.pf_model.specs.Totals.{Source}
use Rattle.kern_tree.specs.declared.kernel.Kernel.{Kernel}
use Rattle.kern_tree.specs.Parsed.{IsParsed}
use Rattle.kern_types.specs.WellTyped.{WellTyped}
use Rattle.kern_meaning.specs.declared.fault.PairFault.{PairFault}
use Rattle.kern_meaning.specs.declared.value.Value.{Value}
use Rattle.kern_meaning.specs.Pair.{Pair}

-- the contributions by slot, or the first fault
abbrev pub PairAnswer : Type 0
PairAnswer = Result (List (Option Value)) PairFault

-- for a typed kernel, a pair has one answer, and no other
pub record HasOnePair (kernel : Kernel) (i : Particle) (j : Source) : Type 0 where
  pub answer : PairAnswer
  pub is : Pair kernel i j answer
  pub only : (other : PairAnswer) → Pair kernel i j other → other ≡ answer

-- So a wrong kind, a wrong scale or a name without a value, for which nothing has a result, is never met.
abbrev pub Typing : Type 0
Typing = (kernel : Kernel) (i : Particle) (j : Source) → IsParsed kernel → WellTyped kernel → HasOnePair kernel i j
