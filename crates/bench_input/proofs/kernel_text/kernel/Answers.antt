use Rattle.std.proofs.Common.{◌≡◌, ⊎_elim, List, Ok, subst}
use Rattle.kern_token.specs.declared.token.Token.{Token}
use Rattle.kern_tree.specs.FirstFault.{IsKernelOf}
use Rattle.kern_types.specs.WellTyped.{WellTyped}
use Rattle.bench_input.proofs.kernel_text.kernel.Goals as goal

pub no_other_fault-requires : goal.no_other_fault-requires
no_other_fault-requires c =
    let stands = c.bench_text_is_a_kernel.ensures.1 in
    ⊎_elim (λ e. e) (λ e. absurd cc) (c.in-Err.ensures.exact (Ok stands.0) stands.1)

pub no_other_fault-requires-in-Err-parse : goal.no_other_fault-requires-in-Err-parse
no_other_fault-requires-in-Err-parse c =
    let stands = c.bench_text_is_a_kernel.ensures.1 in
    let read = c.in-Ok.ensures.exact (Ok stands.0) stands.1 in
    let tokens_are = c.deref.ensures.value in
    let same : stands.0 ≡ c.deref.result.now = cc in
    let kernel = c.bench_text_is_a_kernel.ensures.0 in
    ⊎_elim (λ e. e) (λ e. absurd cc)
    (c.in-Err-parse.ensures.exact (Ok kernel) (subst (λ (ts : List Token). IsKernelOf ts kernel) same stands.2))

pub no_other_type_fault-requires : goal.no_other_type_fault-requires
no_other_type_fault-requires c =
    let stands = c.bench_text_is_a_kernel.ensures.1 in
    let read = c.in-Ok.ensures.exact (Ok stands.0) stands.1 in
    let tokens_are = c.deref.ensures.value in
    let same : stands.0 ≡ c.deref.result.now = cc in
    let kernel = c.bench_text_is_a_kernel.ensures.0 in
    let parsed = c.in-Ok-parse.ensures.exact (Ok kernel) (subst (λ (ts : List Token). IsKernelOf ts kernel) same stands.2) in
    let one : kernel ≡ c.in-Ok-parse.kernel = cc in
    ⊎_elim (λ e. e)
    (λ h. absurd (c.one_typing.ensures.not_both c.in-Ok-parse.kernel c.in-Err-check.fault (subst WellTyped one stands.3) h))
    c.in-Err-check.ensures.fault
