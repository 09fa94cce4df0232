use Rattle.std.proofs.Common.{List, length, ◌∙◌, ap, arith}
use Rattle.pf_model.specs.Totals.{Totals}
use Rattle.moments.proofs.PrefixLemmas.{prefix_length, put_back}
use Rattle.moments.proofs.SumLemmas.{IsPrefix-of_particles}
use Rattle.moments.proofs.prefix.prefix_of.Goals as goal

pub invariant_of-result : goal.invariant_of-result
invariant_of-result c =
    let js = c.args.bodies.now in
    let new = ap (λ (ts : List Totals). length ts) c.fill.ensures.value ∙ prefix_length js in
    let len = c.in_ok-moments.ensures.len in
    let written = put_back c.in_ok-moments.moments.len c.in_ok-moments.moments.items c.fill.new.moments (omega arith) in
    IsPrefix-of_particles c.moments_add_up.ensures js _ c.requires c.fill.ensures.limits (written ∙ c.fill.ensures.value)
