use Rattle.std.proofs.Common.{List, length, sym, ◌∙◌, ap, arith}
use Rattle.pf_model.specs.Totals.{Totals}
use Rattle.moments.proofs.PrefixLemmas.{prefix_length, put_back}
use Rattle.moments.proofs.SumLemmas.{sums_length, IsPrefix-of_particles}
use Rattle.moments.proofs.prefix.Prefix.refill.Goals as goal

pub fill-requires-clause-few : goal.fill-requires-clause-few
fill-requires-clause-few c =
    let is = c.self.invariant.1 in
    let old = ap (λ (ts : List Totals). length ts) (sym c.self.view_is ∙ is.summed) ∙ sums_length c.self.invariant.0 in
    let few = is.few in
    let room = c.requires in
    omega arith

pub invariant_of-self : goal.invariant_of-self
invariant_of-self c =
    let js = c.args.bodies.now in
    let is = c.self.invariant.1 in
    let few = is.few in
    let old = ap (λ (ts : List Totals). length ts) (sym c.self.view_is ∙ is.summed) ∙ sums_length c.self.invariant.0 in
    let new = ap (λ (ts : List Totals). length ts) c.fill.ensures.value ∙ prefix_length js in
    let room = c.requires in
    let whole = c.self.inside.moments.ok in
    let written = put_back c.self.inside.moments.len c.self.inside.moments.items c.fill.new.moments (omega arith) in
    IsPrefix-of_particles c.moments_add_up.ensures js _ (omega arith) c.fill.ensures.limits (written ∙ c.fill.ensures.value)
