use Rattle.std.proofs.Common.{List, length, sym, ◌∙◌, ap, arith}
use Rattle.pf_model.specs.Totals.{Totals}
use Rattle.moments.proofs.PrefixLemmas.{put_back}
use Rattle.moments.proofs.SumLemmas.{sums_length}
use Rattle.moments.proofs.prefix.Prefix.refill_over.Goals as goal

pub invariant_of-self : goal.invariant_of-self
invariant_of-self c =
    let ms = c.args.moments.now in
    let is = c.self.invariant.1 in
    let few = is.few in
    let old = ap (λ (ts : List Totals). length ts) (sym c.self.view_is ∙ is.summed) ∙ sums_length c.self.invariant.0 in
    let new = ap (λ (ts : List Totals). length ts) c.fill_over.ensures.value ∙ sums_length ms in
    let room = c.requires.room in
    let whole = c.self.inside.moments.ok in
    let written = put_back c.self.inside.moments.len c.self.inside.moments.items c.fill_over.new.sums (omega arith) in
    (ms, record { few = omega arith; few_particles = c.requires.few_particles; limits = c.fill_over.ensures.limits; summed = written ∙ c.fill_over.ensures.value })
