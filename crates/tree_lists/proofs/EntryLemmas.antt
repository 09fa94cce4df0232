-- The entry of a piece.
use Rattle.std.proofs.Common.{◌≡◌, ℕ, ◌+◌, ◌<◌, ◌≤◌, List, get_or, Option, Some, None, refl, sym, ◌∙◌, ap, arith}
use Rattle.std.specs.List.{filter}
use Rattle.pf_geom.specs.Bounds.{Bounds}
use Rattle.pf_geom.specs.Octant.{cell_at}
use Rattle.pf_model.specs.declared.entry.Entry.{Entry}
use Rattle.pf_model.specs.declared.entry.Entry.TheVariants.{Cell, One}
use Rattle.pf_model.specs.Particle.{Particle}
use Rattle.pf_model.specs.Criterion.{Criterion}
use Rattle.pf_model.specs.Sums.{moment_of}
use Rattle.pf_model.specs.Interaction.{level_of, leads_to_cell, members_of, entry_at, entry_of}
use Rattle.model_laws.specs.ListLaws.{LevelsAreLeast}
use Rattle.morton_tree.specs.Spans.{at_span}
use Rattle.tree_lists.specs.declared.piece.Piece.{Piece}
use Rattle.tree_lists.specs.Pieces.{piece_place, IsPieceOf}
use Rattle.tree_lists.proofs.SpanLemmas.{length-span, read_span}

-- the first particle of a piece leads to its entry
pub first_leads : (t : Criterion) (box : Bounds) (js : List Particle) (e : Entry) (q : Piece) (d : Particle) → IsPieceOf t box js e q → entry_of t box js (get_or js q.span.first d) ≡ e
first_leads t box js e q d h =
    let some = h.some in
    let long = length-span q.span js h.inside in
    let start : q.span.first + 0 ≡ q.span.first = omega arith in
    let at : get_or (at_span q.span js) 0 d ≡ get_or js q.span.first d = read_span q.span js 0 d (omega arith) ∙ ap (λ (n : ℕ). get_or js n d) start in
    ap (entry_of t box js) (sym at) ∙ h.lead 0 d (omega arith)

cell_by_level : (t : Criterion) (box : Bounds) (js : List Particle) (e : Entry) (q : Piece) (x : Particle) (o : Option ℕ) → IsPieceOf t box js e q → entry_at t box js x o ≡ e → q.place.0 ≤ 30 → Cell (cell_at x.at q.place.0) (moment_of (at_span q.span js)) ≡ e
cell_by_level t box js e q x None h is shallow =
    let level = ap (λ (v : ℕ × ℕ). v.0) (h.place ∙ ap (λ (f : Entry). piece_place f q.span.first) (sym is)) in
    absurd (omega arith)
cell_by_level t box js e q x (Some l) h is shallow =
    let c = cell_at x.at l in
    let level : q.place.0 ≡ l = ap (λ (v : ℕ × ℕ). v.0) (h.place ∙ ap (λ (f : Entry). piece_place f q.span.first) (sym is)) in
    let members : at_span q.span js ≡ filter (leads_to_cell t box c) js = h.members ∙ ap (members_of t box js) (sym is) in
    (λ i. Cell (cell_at x.at (level i)) (moment_of (members i))) ∙ is

pub cell_entry : (t : Criterion) (box : Bounds) (js : List Particle) (e : Entry) (q : Piece) (d : Particle) → IsPieceOf t box js e q → q.place.0 ≤ 30 → Cell (cell_at (get_or js q.span.first d).at q.place.0) (moment_of (at_span q.span js)) ≡ e
cell_entry t box js e q d h shallow =
    let x = get_or js q.span.first d in
    cell_by_level t box js e q x (level_of t box x.at) h (first_leads t box js e q d h) shallow

one_by_level : LevelsAreLeast → (t : Criterion) (box : Bounds) (js : List Particle) (e : Entry) (q : Piece) (x : Particle) (o : Option ℕ) → IsPieceOf t box js e q → level_of t box x.at ≡ o → entry_at t box js x o ≡ e → 30 < q.place.0 → One x ≡ e
one_by_level laws t box js e q x None h level is deep = is
one_by_level laws t box js e q x (Some l) h level is deep =
    let same : q.place.0 ≡ l = ap (λ (v : ℕ × ℕ). v.0) (h.place ∙ ap (λ (f : Entry). piece_place f q.span.first) (sym is)) in
    let within = (((laws t box x.at).1 l).0 level).within in
    absurd (omega arith)

pub one_entry : LevelsAreLeast → (t : Criterion) (box : Bounds) (js : List Particle) (e : Entry) (q : Piece) (d : Particle) → IsPieceOf t box js e q → 30 < q.place.0 → One (get_or js q.span.first d) ≡ e
one_entry laws t box js e q d h deep =
    let x = get_or js q.span.first d in
    one_by_level laws t box js e q x (level_of t box x.at) h refl (first_leads t box js e q d h) deep
