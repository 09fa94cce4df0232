use Rattle.pf_num.proofs.SquareRootLemmas.{IsFloorRoot-floor_root, same_floor_root}
use Rattle.pf_num.proofs.square_root.isqrt.Goals as goal

pub returns-clause-value : goal.returns-clause-value
returns-clause-value c = same_floor_root _ _ _ (record { square_le = c.isqrt.ensures.square_le; next_square_gt = c.isqrt.ensures.next_square_gt }) (IsFloorRoot-floor_root _)
