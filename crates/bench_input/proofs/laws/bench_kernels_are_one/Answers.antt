use Rattle.std.proofs.Common.{◌≡◌, subst, Ok}
use Rattle.kern_tree.specs.FirstFault.{IsKernelOf}
use Rattle.bench_input.specs.Kernel.{bench_kernel_text}
use Rattle.bench_input.proofs.laws.bench_kernels_are_one.Goals as goal

pub returns : goal.returns
returns c = λ a b h k.
    let readings = c.one_reading.ensures.one bench_kernel_text (Ok h.0) (Ok k.0) h.1 k.1 in
    let same : h.0 ≡ k.0 = cc in
    let answers = c.one_answer.ensures k.0 (Ok a) (Ok b) (subst (λ tokens. IsKernelOf tokens a) same h.2) k.2 in
    let one : a ≡ b = cc in
    one
