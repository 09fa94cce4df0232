use Rattle.kern_token.specs.declared.limits.TheConstants.{MOST_TEXT}
use Rattle.command_frame.proofs.StepLaws.{load_then_read}
use Rattle.top_call.specs.Inputs.{KernelMeans}
use Rattle.top_call.specs.declared.status.Refusal.TheVariants.{KernelTooLarge}
use Rattle.top_call.proofs.inputs.read_kernel.Goals as goal

pub returns-clause-reads : goal.returns-clause-reads
returns-clause-reads g c =
    let read = rw c.deref.ensures.value at c.kernel_in.ensures.interprets in
    load_then_read MOST_TEXT KernelTooLarge KernelMeans (λ v. v.items) (λ kernel. kernel) c.args.name.now c.in_ok-text.text c.text_of.result c.kernel_in.result _ _
    c.in_ok-text.was c.text_of.ensures.reads read
