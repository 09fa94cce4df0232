-- Pieces: spans of a tree's particles that are the members of entries, before the entries are made.
use Rattle.std.specs.Prelude.{◌≡◌, ℕ, ◌+◌, ◌<◌, ◌≤◌, List, length, All, AllPairs, Contains, IfSome, Option, Some, None}
use Rattle.std.specs.Prelude.{◌⊎◌, slice_index_or}
use Rattle.pf_geom.specs.declared.cell.TheConstants.{DEEPEST}
use Rattle.pf_geom.specs.Bounds.{Bounds}
use Rattle.pf_model.specs.declared.entry.Entry.{Entry}
use Rattle.pf_model.specs.declared.entry.Entry.TheVariants.{Cell, One}
use Rattle.pf_model.specs.Particle.{Particle}
use Rattle.pf_model.specs.Criterion.{Criterion}
use Rattle.pf_model.specs.Interaction.{entry_of, members_of}
use Rattle.morton_tree.specs.Spans.{at_span}
use Rattle.cell_runs.specs.declared.cell_run.CellRun.{CellRun}
use Rattle.tree_lists.specs.declared.piece.Piece.{Piece}

-- the place of a piece whose first particle is this one, of which a cell first passes at this level, if there is one:
-- cells by level and where their members begin, and after them, past the deepest level, particles by id
abbrev pub place_by_level : Option ℕ → ℕ → Particle → ℕ × ℕ
place_by_level None first j = (DEEPEST + 1, j.id)
place_by_level (Some level) first j = (level, first)

-- the place of the piece of an entry whose members begin here
abbrev pub piece_place : Entry → ℕ → ℕ × ℕ
piece_place (Cell c m) first = (c.level, first)
piece_place (One p) first = (DEEPEST + 1, p.id)

-- the piece of a cell run whose first particle is this one
abbrev pub piece_of : CellRun → Particle → Piece
piece_of r j = record { place = place_by_level r.level r.first j; span = record { first = r.first; len = r.len } }

-- the run begins among so many particles, at a level that there is
abbrev pub IsRunAmong : ℕ → CellRun → Type 0
IsRunAmong count r = (r.first < count) × IfSome r.level (λ level. level ≤ DEEPEST)

-- a piece for each cell run, in the same order
pub record ArePiecesOf (js : List Particle) (rs : List CellRun) (qs : List Piece) : Type 0 where
  pub counted : length qs ≡ length rs
  pub each : (k : ℕ) (r : CellRun) (j : Particle) (q : Piece) → k < length rs → slice_index_or qs k q ≡
      piece_of (slice_index_or rs k r) (slice_index_or js (slice_index_or rs k r).first j)

-- the piece of an entry: the span of its members, each of which leads to it
pub record IsPieceOf (t : Criterion) (box : Bounds) (js : List Particle) (e : Entry) (q : Piece) : Type 0 where
  pub place : q.place ≡ piece_place e q.span.first
  pub some : 1 ≤ q.span.len
  pub inside : q.span.first + q.span.len ≤ length js
  pub members : at_span q.span js ≡ members_of t box js e
  pub lead : All (λ j. entry_of t box js j ≡ e) (at_span q.span js)

-- one piece for each entry that the particles lead to
pub record ArePieces (t : Criterion) (box : Bounds) (js : List Particle) (qs : List Piece) : Type 0 where
  pub each : All (λ q. (e : Entry) × IsPieceOf t box js e q) qs
  pub complete : (j : Particle) → Contains js j → (q : Piece) × Contains qs q × Contains (at_span q.span js) j
  pub apart : AllPairs (λ q r. q.span.first ≡ r.span.first → ⊥) qs

-- one place is no higher than another
abbrev pub IsNoHigher : ℕ × ℕ → ℕ × ℕ → Type 0
IsNoHigher a b = (a.0 < b.0) ⊎ ((a.0 ≡ b.0) × (a.1 ≤ b.1))

-- by their places, pieces do not fall
abbrev pub IsInPlaceOrder : List Piece → Type 0
IsInPlaceOrder qs = AllPairs (λ q r. IsNoHigher q.place r.place) qs

-- a list of entries, and their pieces in the same order
pub record AreEntriesOf (t : Criterion) (box : Bounds) (js : List Particle) (es : List Entry) (qs : List Piece)
    : Type 0 where
  pub counted : length es ≡ length qs
  pub each : (k : ℕ) (e : Entry) (q : Piece) → k < length qs →
      IsPieceOf t box js (slice_index_or es k e) (slice_index_or qs k q)
