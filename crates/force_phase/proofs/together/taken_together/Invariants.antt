use Rattle.std.proofs.Common.{◌≡◌, true, List, length, map, All, flat_map}
use Rattle.std.specs.List.{range_with_len}
use Rattle.std.specs.List.Sorted.{IsStrictlyIncreasing}
use Rattle.pf_geom.specs.declared.edge.Edge.{Edge}
use Rattle.kern_tree.specs.declared.kernel.Kernel.{Kernel}
use Rattle.group_lists.specs.Whole.{GroupList}
use Rattle.claim_board.specs.Seats.{IsSeatOf, claimed_by, was_told}
use Rattle.force_phase.specs.Claims.{groups_claimed}
use Rattle.force_phase.specs.Finished.{IsFoundIn}
use Rattle.force_phase.specs.Working.{HasFinished, groups_at}
use Rattle.force_phase.proofs.together.taken_together.Given as goal

abbrev pub invariant-loop-worker : goal.invariant-loop-worker
invariant-loop-worker l = record {
  seats : length l.all.seats.items ≡ length l.yielded;
  count : length l.all.claims.items ≡ length l.yielded;
  by_number : map (λ c. c.worker) l.all.claims.items ≡ range_with_len 0 (length l.yielded);
  of_board : All (IsSeatOf l.board) l.all.seats.items;
  told : All (λ s. was_told s ≡ true) l.all.seats.items;
  ascending : All (λ c. IsStrictlyIncreasing c.groups.items) l.all.claims.items;
  same : groups_claimed l.all.claims.items ≡ flat_map claimed_by l.all.seats.items;
  found : (edge : Edge) (kernel : Kernel) (groups : List GroupList) → All (λ w. HasFinished edge kernel groups w.share) l.fn.workers.items
      → IsFoundIn edge kernel (groups_at groups (groups_claimed l.all.claims.items)) l.all.found;
}
