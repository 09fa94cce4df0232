use Rattle.std.proofs.Common.{ℕ, ◌-◌, ◌/◌, ◌^◌, rules, of_calls}
use Rattle.std.proofs.lemmas.List.Sorted.{IsPartitionedBy-ltb, IsPartitionedBy-leb}
use Rattle.std.proofs.lemmas.Fn.{always_returns_same}
use Rattle.group_lists.proofs.KeyedLemmas.{cells_ascend, is_lower}
use Rattle.group_lists.proofs.IndexLemmas.{itself, is_not_above, AreEnds, ends_ordered, span_of_ends}
use Rattle.group_lists.proofs.item_index.span_of_cell.Goals as goal

ends : (c : goal.After-partition_point-end) → AreEnds c.args.cell c.args.keys.now c.partition_point-first.result c.partition_point-end.result
ends c =
    let cell = c.args.cell in
    let ks = c.args.keys.now in
    let up = cells_ascend itself cell.level ks c.requires.ascending in
    record {
      begins = c.partition_point-first.ensures.bound;
      ends = c.partition_point-end.ensures.bound;
      lower = c.partition_point-first.ensures.partitioned (is_lower itself cell) (always_returns_same _ _ _ (λ a r f k. search (rules, of_calls)))
          (IsPartitionedBy-ltb (λ (i : ℕ). i / 8 ^ (30 - cell.level)) ks cell.key up);
      not_above = c.partition_point-end.ensures.partitioned (is_not_above cell) (always_returns_same _ _ _ (λ a r f k. search (rules, of_calls)))
          (IsPartitionedBy-leb (λ (i : ℕ). i / 8 ^ (30 - cell.level)) ks cell.key up);
    }

pub overflow_sub-result : goal.overflow_sub-result
overflow_sub-result c = ends_ordered c.args.cell c.args.keys.now c.partition_point-first.result c.partition_point-end.result (ends c)

pub returns : goal.returns
returns c = span_of_ends c.args.cell c.args.keys.now c.partition_point-first.result c.partition_point-end.result (ends c)
