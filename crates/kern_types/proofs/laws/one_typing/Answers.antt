use Rattle.kern_types.proofs.Kernels.{some_typing, not_both, one_fault}
use Rattle.kern_types.proofs.laws.one_typing.Goals as goal

pub returns : goal.returns
returns c = record { some = some_typing; not_both = not_both; one_fault = one_fault }
