use Rattle.std.proofs.Common.{◌≡◌, length, ap, ◌∙◌, arith}
use Rattle.std.specs.List.{flat_map, range_with_len}
use Rattle.pf_model.specs.Groups.{groups_of_rank, group_list, all_groups}
use Rattle.plain_run.proofs.ListingLemmas.{entries_next, entries_joined, rank_entries_few}
use Rattle.plain_run.proofs.state.entry_count.Goals as goal

pub loop-rank-preserved : goal.loop-rank-preserved
loop-rank-preserved c =
    let whole = c.in_ok-lists_of.field-0.ok.0 in
    let here = ap length c.in_ok-lists_of.ensures in
    let few = rank_entries_few c.lists_are_short.ensures c.groups_are_few.ensures c.args.theta c.args.limit c.args.grid c.args.built.now c.loop-rank.rank c.requires.few in
    record {
      value = entries_next (group_list c.args.theta c.args.built.now) (groups_of_rank c.args.limit c.args.grid c.args.built.now) c.loop-rank.rank c.loop-rank.count c.len.result c.loop-rank.invariant.value (omega arith);
      few = (let before = c.loop-rank.invariant.few in omega arith);
    }

pub returns : goal.returns
unfolding all_groups
returns c =
    let done : c.loop-rank.rank ≡ c.rank_count-rank-end.result = omega arith in
    c.loop-rank.invariant.value
    ∙ ap (λ n. length (flat_map (group_list c.args.theta c.args.built.now) (flat_map (groups_of_rank c.args.limit c.args.grid c.args.built.now) (range_with_len 0 n)))) (done ∙ c.rank_count-rank-end.ensures.value)
    ∙ entries_joined (group_list c.args.theta c.args.built.now) _
