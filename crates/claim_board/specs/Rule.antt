-- What holds of the board at every moment, over its word and what its seats have done, and what each step does.
use Rattle.std.specs.Prelude.{◌≡◌, ℕ, ◌+◌, ◌^◌, ◌<◌, ◌≤◌, min, Bool, true, false, List, [], ◌∷◌, ◌++◌, length, slice_index, sum_by, flat_map, All}
use mathlib.Core.Option.{some}
use lib.ListN.{get_elem?}
use Rattle.atomic_table.specs.Table.{State, Me, Step}
use Rattle.claim_board.specs.declared.rule.SeatView.{SeatView}
use Rattle.claim_board.specs.declared.rule.Opening.{Opening}
use Rattle.claim_board.specs.Once.{HasEachOnce}

-- how often a seat was told None, by whether it was
abbrev pub nones_of : Bool → ℕ
nones_of true = 1
nones_of false = 0

-- A seat that has taken no step. The first has all shares, and one that is split off has the share 1, which the first
-- gives up.
abbrev pub fresh_view : ℕ → ℕ → SeatView
fresh_view total share = record { total = total; share = share; claimed = []; nones = 0 }

-- a seat hands over its numbers, its Nones and its share, and is then spent and empty
abbrev pub joined_view : SeatView → SeatView → SeatView
joined_view v other = record {
  total = v.total;
  share = v.share + other.share;
  claimed = other.claimed ++ v.claimed;
  nones = v.nones + other.nones;
}

abbrev pub spent_view : SeatView
spent_view = fresh_view 0 0

-- after a claim of the number n, and after the answer that none is left
abbrev pub with_number : SeatView → ℕ → SeatView
with_number v n = record v { claimed = v.claimed ++ n ∷ [] }

abbrev pub with_none : SeatView → SeatView
with_none v = record v { nones = v.nones + 1 }

-- Where a seat was told None, the word is at least the total. Its Nones are at most its share. Without a share it is
-- empty, and with one it knows the total.
pub record FitsBoard (total word : ℕ) (v : SeatView) : Type 0 where
  pub told : 0 < v.nones → total ≤ word
  pub few : v.nones ≤ v.share
  pub spent : v.share ≡ 0 → v.claimed ≡ []
  pub knows : 0 < v.share → v.total ≡ total

abbrev pub EachView : (SeatView → Type 0) → List SeatView → Type 0
EachView F views = (id : ℕ) (v : SeatView) → get_elem? views id ≡ some v → F v

-- Each number below both the word and the total is claimed once, and no other number. The word passes the total by no
-- more than the Nones told, and all shares together are the seats opened, so it doesn't wrap.
pub record KeepsRule (o : Opening) (word : ℕ) (views : List SeatView) : Type 0 where
  pub claimed : HasEachOnce (min word o.total) (flat_map (λ v. v.claimed) views)
  pub seats : EachView (FitsBoard o.total word) views
  pub within : word ≤ o.total + sum_by (λ v. v.nones) views
  pub shares : sum_by (λ v. v.share) views ≡ o.seats
  pub small : (o.total < 2 ^ 32) × (o.seats < 2 ^ 32)

abbrev pub Kept : Opening → State (Unit {0}) SeatView → Type 0
Kept o s = (length s.words ≡ 1) × KeepsRule o (slice_index s.words 0) s.views

-- what a claim tells, by the number found
pub record Claimed (v : SeatView) (found : ℕ) (after : SeatView) : Type 0 where
  pub given : found < v.total → after ≡ with_number v found
  pub ascending : found < v.total → All (λ x. x < found) v.claimed
  pub few : found < v.total → length v.claimed ≤ found
  pub none_left : v.total ≤ found → after ≡ with_none v

abbrev pub claims : Step (Unit {0}) → Me (Unit {0}) SeatView → ℕ → Me (Unit {0}) SeatView → Type 0
claims st me found after = Claimed me.0 found after.0 × (after.1 ≡ me.1)

-- what a look tells a seat with all shares that was told None
abbrev pub knows : Step (Unit {0}) → Me (Unit {0}) SeatView → ℕ → Me (Unit {0}) SeatView → Type 0
knows st me found after = HasEachOnce me.0.total me.0.claimed
