use Rattle.std.proofs.Common.{◌≡◌, ◌-◌, ◌^◌, ◌≤◌, length, flat_map, min, take}
use Rattle.kern_tree.specs.Nodes.{stmt_nodes}
use Rattle.kern_types.specs.Statements.{slots_in}
use Rattle.kern_types.proofs.contributions.+slots.Given as goal

abbrev pub invariant-count_slots-loop-stmt : goal.invariant-count_slots-loop-stmt
invariant-count_slots-loop-stmt l = record {
  counted : l.count ≡ min (slots_in (take l.stmt-index l.block)) (2 ^ 32 - 1);
  within : slots_in (take l.stmt-index l.block) ≤ length (flat_map stmt_nodes (take l.stmt-index l.block));
}
