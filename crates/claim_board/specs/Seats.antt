-- What clauses see of a board and its seats.
use Rattle.std.specs.Prelude.{◌≡◌, ℕ, Bool, false, List, []}
use Rattle.claim_board.specs.declared.board.Board.{Board}
use Rattle.claim_board.specs.declared.board.Seat.{Seat}

-- the numbers to be claimed are those below it
abbrev pub total_of : Board → ℕ
total_of b = b.total

-- how many seats the board was opened with
abbrev pub seat_count : Board → ℕ
seat_count b = b.table.shared.key.seats

-- the numbers that the seat claimed, in order
abbrev pub claimed_by : Seat → List ℕ
claimed_by s = s.place.me.0.claimed

-- whether the seat was told None
abbrev pub was_told : Seat → Bool
was_told s = s.told

-- the seat is one of this board
pub record IsSeatOf (b : Board) (s : Seat) : Type 0 where
  pub place : s.place.table_id ≡ b.table.shared.table_id
  pub total : s.place.me.0.total ≡ b.total

-- a seat that has taken no step
abbrev pub IsFresh : Seat → Type 0
IsFresh s = (claimed_by s ≡ []) × (was_told s ≡ false)
