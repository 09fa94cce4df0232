use Rattle.std.proofs.lemmas.Result.{MatchResult-weaker}
use Rattle.kern_types.proofs.Kernels.{well_typed}
use Rattle.kern_types.proofs.typed.check_kernel.Goals as goal

pub returns-clause-ok : goal.returns-clause-ok
returns-clause-ok c =
    let checked = rw c.as_slice-decls.ensures at c.in_ok-check_decls.ensures in
    let ended = rw (c.as_slice-decls.ensures, c.as_slice.ensures, c.new-scope.ensures) at c.check_block.ensures.answer in
    MatchResult-weaker c.check_block.result ended (λ _ e. well_typed c.args.k.now checked c.check_block.new.scope e) (λ _ _. tt)
