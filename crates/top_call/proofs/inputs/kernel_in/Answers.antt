use Rattle.std.proofs.Common.{rules}
use Rattle.kern_token.specs.Reading.{Spells}
use Rattle.kern_tree.specs.FirstFault.{IsKernelOf}
use Rattle.top_call.proofs.KernelLemmas.{types_refuse}
use Rattle.top_call.proofs.inputs.kernel_in.Goals as goal

pub returns-clause-interprets : goal.returns-clause-interprets
returns-clause-interprets c =
    let spelled : Spells c.args.text.now c.in_ok-tokens.tokens.items = search rules in
    let parsed : IsKernelOf c.in_ok-tokens.tokens.items c.in_ok-kernel.kernel = search rules in
    types_refuse c.args.text.now c.in_ok-tokens.tokens.items c.in_ok-kernel.kernel spelled parsed c.in-Err.fault c.types_refused.result c.in-Err.ensures.fault c.types_refused.ensures.status
