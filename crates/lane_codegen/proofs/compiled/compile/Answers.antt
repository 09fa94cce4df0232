use Rattle.std.proofs.Common.{◌≡◌, None, sym, ap, ◌∙◌, subst}
use Rattle.lane_code.specs.declared.code.RawCode.{RawCode}
use Rattle.lane_code.specs.Validity.{first_breach}
use Rattle.lane_codegen.specs.Meaning.{Means}
use Rattle.lane_codegen.specs.Statements.{kernel_code}
use Rattle.lane_codegen.proofs.KernelCode.{kernel_means, kernel_valid}
use Rattle.lane_codegen.proofs.compiled.compile.Goals as goal

pub invariant_of-result : goal.invariant_of-result
invariant_of-result c =
    let is : c.in_ok-raw.raw ≡ kernel_code c.args.t.now = c.in_ok-raw.ensures ∙ ap kernel_code c.kernel.ensures.value in
    subst (λ (x : RawCode). first_breach x ≡ None) (sym is) (kernel_valid c.args.t.now c.kernel.ensures.parsed c.kernel.ensures.typed c.parsed_kernels_keep_limits.ensures)

pub returns : goal.returns
returns c =
    let is : c.in_ok-raw.raw ≡ kernel_code c.args.t.now = c.in_ok-raw.ensures ∙ ap kernel_code c.kernel.ensures.value in
    subst (λ (x : RawCode). Means c.args.t.now x) (sym is) (kernel_means c.args.t.now c.kernel.ensures.parsed c.kernel.ensures.typed c.parsed_kernels_keep_limits.ensures c.assignments_fit.ensures c.typed_kernels_have_one_pair.ensures)
