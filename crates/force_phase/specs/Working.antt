-- What workers keep while they claim groups and finish them.
use Rattle.std.specs.Prelude.{◌≡◌, ℕ, false, List, slice_get}
use Rattle.std.specs.List.{filter_map}
use Rattle.std.specs.List.Sorted.{IsStrictlyIncreasing}
use Rattle.pf_geom.specs.declared.edge.Edge.{Edge}
use Rattle.kern_tree.specs.declared.kernel.Kernel.{Kernel}
use Rattle.group_lists.specs.Whole.{GroupList}
use Rattle.claim_board.specs.declared.board.Board.{Board}
use Rattle.claim_board.specs.Seats.{claimed_by, IsSeatOf}
use Rattle.force_phase.specs.declared.share.Share.{Share}
use Rattle.force_phase.specs.declared.worker.Worker.{Worker}
use Rattle.force_phase.specs.Finished.{IsFoundIn}
use Rattle.force_phase.specs.Outcome.{IsWorkFor}

-- the groups of these numbers
abbrev pub groups_at : List GroupList → List ℕ → List GroupList
groups_at groups numbers = filter_map (slice_get groups) numbers

-- a worker at this board, which keeps what it claims there unless it is refused memory
pub record IsAtWork (board : Board) (w : Worker) : Type 0 where
  pub seat : IsSeatOf board w.seat
  pub ascending : IsStrictlyIncreasing (claimed_by w.seat)
  pub claims : w.share.refused ≡ false → w.share.claims.items ≡ claimed_by w.seat

-- its work is for this kernel and edge, and it has finished what it claimed unless it was refused memory
pub record HasFinished (edge : Edge) (kernel : Kernel) (groups : List GroupList) (s : Share) : Type 0 where
  pub work : IsWorkFor kernel s.work
  pub edge_is : s.work.edge ≡ edge
  pub found : s.refused ≡ false → IsFoundIn edge kernel (groups_at groups s.claims.items) s.found
