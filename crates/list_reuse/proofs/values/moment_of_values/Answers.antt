use Rattle.std.proofs.Common.{ℕ, get_or, ◌∙◌}
use Rattle.std.proofs.lemmas.List.{get_or_default}
use Rattle.pf_model.specs.Sums.{together}
use Rattle.list_reuse.proofs.ValueLemmas.{value_more, few_more}
use Rattle.list_reuse.proofs.values.moment_of_values.Goals as goal

pub merge-sum-requires : goal.merge-sum-requires
merge-sum-requires c =
    let values = c.args.values.now in
    let places = c.args.places.now in
    let i = c.loop-place.place-index in
    let k : ℕ = get_or places i 0 in
    let e = c.index-values-place.result in
    let sum = c.loop-place.sum in
    let one = c.entry_moment.result in
    let more = value_more c.moments_join_in_any_order.ensures values e e places i k sum one c.loop-place-test.true (get_or_default places i 0 k c.loop-place-test.true) (c.requires.within i 0 c.loop-place-test.true) c.index-values-place.is (c.loop-place.invariant e) c.entry_moment.ensures in
    few_more c.entries_join_their_moments.ensures values e places i (together sum one) more (c.requires.few e)

pub loop-place-preserved : goal.loop-place-preserved
loop-place-preserved c d =
    let values = c.args.values.now in
    let places = c.args.places.now in
    let i = c.loop-place.place-index in
    let k : ℕ = get_or places i 0 in
    c.merge-sum.ensures
    ∙ value_more c.moments_join_in_any_order.ensures values d c.index-values-place.result places i k c.loop-place.sum c.entry_moment.result c.loop-place-test.true (get_or_default places i 0 k c.loop-place-test.true) (c.requires.within i 0 c.loop-place-test.true) c.index-values-place.is (c.loop-place.invariant d) c.entry_moment.ensures
