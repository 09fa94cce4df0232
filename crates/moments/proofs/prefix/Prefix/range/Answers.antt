use Rattle.std.proofs.Common.{◌+◌, ◌<◌, List, length, take, drop, ◌∙◌, ap, sym, arith}
use Rattle.pf_model.specs.Totals.{Totals}
use Rattle.pf_model.specs.Sums.{all_together, moment_of, IsRest}
use Rattle.model_laws.specs.MomentLaws.{HasEachSum}
use Rattle.moments.proofs.PrefixLemmas.{range_makes, each_sum}
use Rattle.moments.proofs.SumLemmas.{sums_length, sum_makes, part_limits, sums_of_part, sums_before}
use Rattle.moments.proofs.prefix.Prefix.range.Goals as goal

pub overflow_add-first : goal.overflow_add-first
overflow_add-first c =
    let is = c.self.invariant.1 in
    let long = ap (λ (ts : List Totals). length ts) (sym c.self.view_is ∙ is.summed) ∙ sums_length c.self.invariant.0 in
    let few = is.few in
    let inside = c.requires in
    omega arith

pub without-requires : goal.without-requires
without-requires c =
    let ms = c.self.invariant.0 in
    let is = c.self.invariant.1 in
    let sums = c.self.inside.moments.items in
    let inside : c.args.first + c.args.len < length sums = (let same = ap (λ (ts : List Totals). length ts) c.self.view_is in let h = c.requires in omega arith) in (
      all_together (take c.args.len (drop c.args.first ms)),
      record {
        limits = part_limits c.moments_keep_their_limits.ensures c.joined_moments_keep_their_limits.ensures ms c.args.first c.args.len is.few_particles is.limits;
        makes = sum_makes c.moments_join_in_any_order.ensures ms sums c.args.first c.args.len _ _ is.summed inside c.index-through.ensures c.index-before.ensures;
      },
    )

pub returns : goal.returns
returns c =
    let ms = c.self.invariant.0 in
    let is = c.self.invariant.1 in
    let sums = c.self.inside.moments.items in
    let first = c.args.first in
    let len = c.args.len in
    let before : Totals = c.index-before.result.now in
    let through : Totals = c.index-through.result.now in
    let inside : first + len < length sums = (let same = ap (λ (ts : List Totals). length ts) c.self.view_is in let h = c.requires in omega arith) in
    let part = all_together (take len (drop first ms)) in
    let limits = part_limits c.moments_keep_their_limits.ensures c.joined_moments_keep_their_limits.ensures ms first len is.few_particles is.limits in
    let makes = sum_makes c.moments_join_in_any_order.ensures ms sums first len through before is.summed inside c.index-through.ensures c.index-before.ensures in
    let rest : IsRest through before part = record { limits = limits; makes = makes } in
    let found = c.without.ensures part rest in
    let has = sums_before ms sums first before is.limits is.summed (omega arith) c.index-before.ensures in
    let left : HasEachSum part = record { three = limits.three; eight = limits.eight } in
    record {
      bodies = λ js e.
          let other = range_makes c.moments_add_up.ensures js sums first len through before (c.self.view_is ∙ e) inside c.index-through.ensures c.index-before.ensures in
          found ∙ c.moments_cancel.ensures before part (moment_of (take len (drop first js))) has left (each_sum (take len (drop first js))) (sym makes ∙ other);
      moments = λ ns e each.
          let other = sum_makes c.moments_join_in_any_order.ensures ns sums first len through before (c.self.view_is ∙ e) inside c.index-through.ensures c.index-before.ensures in
          found ∙ c.moments_cancel.ensures before part (all_together (take len (drop first ns))) has left (sums_of_part ns first len each) (sym makes ∙ other);
    }
