use Rattle.std.proofs.Common.{Ok, Err, refl}
use Rattle.command_frame.proofs.StepLaws.{goes_on_after}
use Rattle.command_frame.proofs.VerdictLaws.{reading_looks}
use Rattle.kern_token.specs.declared.limits.TheConstants.{MOST_TEXT}
use Rattle.top_call.specs.Inputs.{KernelFileMeans, KernelMeans}
use Rattle.top_call.specs.declared.status.Refusal.TheVariants as refusals
use Rattle.top_call.specs.Run.{EndsRun, WithKernel}
use Rattle.top_call.proofs.RunSteps.{stops_run}
use Rattle.top_call.proofs.run.with_deck.Goals as goal

pub returns-in-Ok : goal.returns-in-Ok
returns-in-Ok g c =
    let reads = rw c.file_name.ensures at c.in-Ok.ensures.reads in
    goes_on_after EndsRun KernelFileMeans (λ kernel. kernel) c.args.deck.now.kernel (λ files kernel. WithKernel c.args.deck.now kernel files)
    (Ok c.in-Ok.kernel) c.in-Ok.kernel c.with_kernel.result _ _ _ refl reads
    (reading_looks MOST_TEXT refusals.KernelTooLarge KernelMeans c.args.deck.now.kernel (λ files kernel. WithKernel c.args.deck.now kernel files)) c.with_kernel.ensures

pub returns-in-Err : goal.returns-in-Err
returns-in-Err g c =
    let reads = rw c.file_name.ensures at c.in-Err.ensures.reads in
    stops_run KernelFileMeans (λ kernel. kernel) c.args.deck.now.kernel (λ files kernel. WithKernel c.args.deck.now kernel files)
    (Err c.in-Err.status) c.in-Err.status _ _ c.in-Err.ensures.ends refl reads
    (reading_looks MOST_TEXT refusals.KernelTooLarge KernelMeans c.args.deck.now.kernel (λ files kernel. WithKernel c.args.deck.now kernel files))
