-- The pieces of cell runs over the positions of particles.
use Rattle.std.proofs.Common.{◌≡◌, ℕ, ◌+◌, ◌<◌, ◌≤◌, ◌↔◌, Bool, true, List, [], length, get_or, map, nat_eq, Option, Some, None, refl, sym, ◌∙◌, ap, subst, arith}
use Rattle.std.specs.Option.{is_none}
use Rattle.std.specs.Prelude.{IfSome}
use Rattle.std.specs.List.{filter, All, Contains}
use Rattle.std.proofs.lemmas.Bool.{eqb-true, eq-eqb, and_parts, and_from}
use Rattle.std.proofs.lemmas.List.{length-map, get_or-map, get_or_default}
use Rattle.order_laws.specs.OrderLaws.{TestsKeepSpans}
use Rattle.pf_geom.specs.Position.{Position}
use Rattle.pf_geom.specs.Bounds.{Bounds}
use Rattle.pf_geom.specs.Octant.{Octant, cell_at}
use Rattle.pf_model.specs.declared.entry.Entry.TheVariants.{Cell, One}
use Rattle.pf_model.specs.Particle.{Particle}
use Rattle.pf_model.specs.Particles.{HaveDistinctIds}
use Rattle.pf_model.specs.Criterion.{Criterion}
use Rattle.pf_model.specs.Sums.{moment_of}
use Rattle.pf_model.specs.Interaction.{level_of, is_cell, leads_to_cell, leads_to, members_of, entry_at, entry_of}
use Rattle.model_laws.specs.ListLaws.{LevelsAreLeast, FirstCellsHoldTheirMembers}
use Rattle.morton_tree.specs.declared.span.Span.{Span}
use Rattle.morton_tree.specs.Spans.{at_span}
use Rattle.cell_runs.specs.declared.cell_run.CellRun.{CellRun}
use Rattle.cell_runs.specs.CellRuns.{IsPlaceOf, IsWholeCell, IsCellRun, AreCellRuns}
use Rattle.cell_runs.specs.RunLaws.{RunsHoldEachPlace, RunsRise}
use Rattle.tree_lists.specs.declared.piece.Piece.{Piece}
use Rattle.tree_lists.specs.Pieces.{place_by_level, piece_place, piece_of, IsRunAmong, ArePiecesOf, IsPieceOf, ArePieces}
use Rattle.tree_lists.proofs.SpanLemmas.{length-span, read_span, in_span, place_of_id}

abbrev origin : Position
origin = record { x = 0; y = 0; z = 0 }

abbrev nobody : Particle
nobody = record { id = 0; at = origin; vel = []; mass = 0; attr = [] }

abbrev no_run : CellRun
no_run = record { first = 0; len = 0; level = None }

abbrev pub positions : List Particle → List Position
positions js = map (λ (j : Particle). j.at) js

abbrev span_of_run : CellRun → Span
span_of_run r = record { first = r.first; len = r.len }

position_read : (js : List Particle) (k : ℕ) (p : Position) (d : Particle) → k < length js → get_or (positions js) k p ≡ (get_or js k d).at
position_read js k p d within = get_or-map (λ (j : Particle). j.at) js k d p within

-- a run over the positions of particles, and what it has
pub record IsRunOver (t : Criterion) (box : Bounds) (js : List Particle) (r : CellRun) : Type 0 where
  pub some : 1 ≤ r.len
  pub inside : r.first + r.len ≤ length js
  pub level : (k : ℕ) (d : Particle) → IsPlaceOf r k → level_of t box (get_or js k d).at ≡ r.level
  pub whole : IsWholeCell r.level (positions js) r

over_from_run : (t : Criterion) (box : Bounds) (js : List Particle) (r : CellRun) → IsCellRun t box (positions js) r → IsRunOver t box js r
over_from_run t box js r run =
    let long : length (positions js) ≡ length js = length-map js (λ (j : Particle). j.at) in
    let fits = run.inside in
    record {
      some = run.some;
      inside = omega arith;
      level = λ k d of.
          let less : k < r.first + r.len = of.1 in
          ap (level_of t box) (sym (position_read js k origin d (omega arith))) ∙ run.level k origin of;
      whole = run.whole;
    }

-- the first particle of a run
abbrev lead : List Particle → CellRun → Particle
lead js r = get_or js r.first nobody

level_of_lead : (t : Criterion) (box : Bounds) (js : List Particle) (r : CellRun) → IsRunOver t box js r → level_of t box (lead js r).at ≡ r.level
level_of_lead t box js r run = let some = run.some in run.level r.first nobody (omega arith, omega arith)

-- where the run has a level, its particles are those in one cell
cell_in_run : (t : Criterion) (box : Bounds) (js : List Particle) (r : CellRun) (level : ℕ) → IsRunOver t box js r → r.level ≡ Some level → (k : ℕ) (d : Particle) → k < length js → (IsPlaceOf r k → cell_at (get_or js k d).at level ≡ cell_at (lead js r).at level) × (cell_at (get_or js k d).at level ≡ cell_at (lead js r).at level → IsPlaceOf r k)
cell_in_run t box js r level run is k d within =
    let some = run.some in
    let inside = run.inside in
    let long : length (positions js) ≡ length js = length-map js (λ (j : Particle). j.at) in
    let whole = subst (λ (o : Option ℕ). IsWholeCell o (positions js) r) is run.whole in
    let here = whole k origin (omega arith) in
    let at : cell_at (get_or (positions js) k origin) level ≡ cell_at (get_or js k d).at level = ap (λ (p : Position). cell_at p level) (position_read js k origin d within) in
    let first : cell_at (get_or (positions js) r.first origin) level ≡ cell_at (lead js r).at level = ap (λ (p : Position). cell_at p level) (position_read js r.first origin nobody (omega arith)) in
    (λ of. sym at ∙ here.0 of ∙ first, λ same. here.1 (at ∙ same ∙ sym first))

members_in_cell : TestsKeepSpans Particle → LevelsAreLeast → FirstCellsHoldTheirMembers → (t : Criterion) (box : Bounds) (js : List Particle) (r : CellRun) (level : ℕ) → IsRunOver t box js r → r.level ≡ Some level → at_span (span_of_run r) js ≡ filter (leads_to_cell t box (cell_at (lead js r).at level)) js
members_in_cell spans laws members t box js r level run is =
    let c = cell_at (lead js r).at level in
    let test : Particle → Bool = λ j. is_cell c (cell_at j.at c.level) in
    let pass : (k : ℕ) (d : Particle) → k < length js → (test (get_or js k d) ≡ true) ↔ IsPlaceOf r k = λ k d within.
    let here = cell_in_run t box js r level run is k d within in
    let cell = cell_at (get_or js k d).at level in (
      λ e. here.1 (ap (λ (key : ℕ). record { level = level; key = key }) (sym (eqb-true c.key cell.key (and_parts _ _ e).1))),
      λ of. and_from _ _ (eq-eqb level level refl) (eq-eqb c.key cell.key (sym (ap (λ (o : Octant). o.key) (here.0 of)))),
    ) in
    let first = ((laws t box (lead js r).at).1 level).0 (level_of_lead t box js r run ∙ is) in
    sym (spans test js r.first r.len run.inside pass) ∙ sym (members t box (lead js r).at level js first)

-- where it has none, it is its first particle alone
alone : (t : Criterion) (box : Bounds) (js : List Particle) (r : CellRun) → IsRunOver t box js r → r.level ≡ None → r.len ≡ 1
alone t box js r run is = subst (λ (o : Option ℕ). IsWholeCell o (positions js) r) is run.whole

members_alone : TestsKeepSpans Particle → (t : Criterion) (box : Bounds) (js : List Particle) (r : CellRun) → HaveDistinctIds js → IsRunOver t box js r → r.level ≡ None → at_span (span_of_run r) js ≡ filter (leads_to t box (One (lead js r))) js
members_alone spans t box js r distinct run is =
    let x = lead js r in
    let inside = run.inside in
    let one = alone t box js r run is in
    let pass : (k : ℕ) (d : Particle) → k < length js → (leads_to t box (One x) (get_or js k d) ≡ true) ↔ IsPlaceOf r k = λ k d within. (
      λ e.
          let same : r.first ≡ k = place_of_id js distinct r.first k nobody d (omega arith) within (eqb-true x.id (get_or js k d).id (and_parts (is_none (level_of t box (get_or js k d).at)) (nat_eq x.id (get_or js k d).id) e).1) in
          (omega arith, omega arith),
      λ of.
          let least : r.first ≤ k = of.0 in
          let less : k < r.first + r.len = of.1 in
          let same : r.first ≡ k = omega arith in
          let id : x.id ≡ (get_or js k d).id = ap (λ (j : Particle). j.id) (ap (λ (n : ℕ). get_or js n nobody) same ∙ get_or_default js k nobody d within) in
          and_from _ _ (ap is_none (run.level k d of ∙ is)) (eq-eqb x.id (get_or js k d).id id),
    ) in
    sym (spans (leads_to t box (One x)) js r.first r.len inside pass)

place_is : (t : Criterion) (box : Bounds) (js : List Particle) (first : ℕ) (j : Particle) (o : Option ℕ) → place_by_level o first j ≡ piece_place (entry_at t box js j o) first
place_is t box js first j None = refl
place_is t box js first j (Some level) = refl

-- what all particles of a run lead to
members_by_level : TestsKeepSpans Particle → LevelsAreLeast → FirstCellsHoldTheirMembers → (t : Criterion) (box : Bounds) (js : List Particle) (r : CellRun) (o : Option ℕ) → HaveDistinctIds js → IsRunOver t box js r → r.level ≡ o → at_span (span_of_run r) js ≡ members_of t box js (entry_at t box js (lead js r) o)
members_by_level spans laws members t box js r None distinct run is = members_alone spans t box js r distinct run is
members_by_level spans laws members t box js r (Some level) distinct run is = members_in_cell spans laws members t box js r level run is

same_entry : (t : Criterion) (box : Bounds) (js : List Particle) (r : CellRun) (o : Option ℕ) → IsRunOver t box js r → r.level ≡ o → (k : ℕ) (d : Particle) → k < length js → IsPlaceOf r k → entry_at t box js (get_or js k d) o ≡ entry_at t box js (lead js r) o
same_entry t box js r None run is k d within of =
    let one = alone t box js r run is in
    let least : r.first ≤ k = of.0 in
    let less : k < r.first + r.len = of.1 in
    let same : k ≡ r.first = omega arith in
    ap One (get_or_default js k d nobody within ∙ ap (λ (n : ℕ). get_or js n nobody) same)
same_entry t box js r (Some level) run is k d within of =
    ap (λ (c : Octant). Cell c (moment_of (filter (leads_to_cell t box c) js))) ((cell_in_run t box js r level run is k d within).0 of)

piece_from_run : TestsKeepSpans Particle → LevelsAreLeast → FirstCellsHoldTheirMembers → (t : Criterion) (box : Bounds) (js : List Particle) (r : CellRun) → HaveDistinctIds js → IsRunOver t box js r → IsPieceOf t box js (entry_of t box js (lead js r)) (piece_of r (lead js r))
piece_from_run spans laws members t box js r distinct run =
    let x = lead js r in
    let level = level_of_lead t box js r run in
    let entry : entry_of t box js x ≡ entry_at t box js x r.level = ap (entry_at t box js x) level in
    record {
      place = ap (λ (o : Option ℕ). place_by_level o r.first x) (sym level) ∙ place_is t box js r.first x (level_of t box x.at);
      some = run.some;
      inside = run.inside;
      members = members_by_level spans laws members t box js r r.level distinct run refl ∙ ap (members_of t box js) (sym entry);
      lead = λ n d within.
          let inside = run.inside in
          let long = length-span (span_of_run r) js inside in
          let short : n < r.len = omega arith in
          let k = r.first + n in
          let there : k < length js = omega arith in
          let own : IsPlaceOf r k = (omega arith, omega arith) in
          let i = get_or js k d in
          ap (entry_of t box js) (read_span (span_of_run r) js n d short) ∙ ap (entry_at t box js i) (run.level k d own) ∙ same_entry t box js r r.level run refl k d there own ∙ sym entry;
    }

-- the pieces of all runs
pub pieces_from_runs : TestsKeepSpans Particle → LevelsAreLeast → FirstCellsHoldTheirMembers → RunsHoldEachPlace → RunsRise → (t : Criterion) (box : Bounds) (js : List Particle) (rs : List CellRun) (qs : List Piece) → HaveDistinctIds js → AreCellRuns t box (positions js) rs → ArePiecesOf js rs qs → ArePieces t box js qs
pieces_from_runs spans laws members holds rise t box js rs qs distinct runs pieces =
    let counted = pieces.counted in
    let long : length (positions js) ≡ length js = length-map js (λ (j : Particle). j.at) in
    let is : (k : ℕ) (d : Piece) → k < length qs → get_or qs k d ≡ piece_of (get_or rs k no_run) (lead js (get_or rs k no_run)) = λ k d within. pieces.each k no_run nobody d (omega arith) in
    record {
      each = λ k d within.
          let r = get_or rs k no_run in
          let run = over_from_run t box js r (runs.each k no_run (omega arith)) in
          (entry_of t box js (lead js r), subst (IsPieceOf t box js (entry_of t box js (lead js r))) (sym (is k d within)) (piece_from_run spans laws members t box js r distinct run));
      complete = λ j h.
          let k = h.0 in
          let inside : k < length js = h.1 in
          let found = holds 0 (length (positions js)) k rs runs.in_turn (omega arith) (omega arith) in
          let r = found.0 in
          let n = found.1.0 in
          let within : n < length rs = found.1.1 in
          let d = piece_of r j in
          let q = get_or qs n d in
          let run_is : get_or rs n no_run ≡ r = get_or_default rs n no_run r within ∙ found.1.2 in
          let span : span_of_run r ≡ q.span = sym (ap (λ (p : Piece). p.span) (is n d (omega arith)) ∙ ap span_of_run run_is) in
          let run = over_from_run t box js r (subst (IsCellRun t box (positions js)) run_is (runs.each n no_run within)) in (
            q,
            (n, omega arith, get_or_default qs n q d (omega arith)),
            subst (λ (s : Span). Contains (at_span s js) j) span (in_span (span_of_run r) js k j run.inside found.2.0 found.2.1 h.2),
          );
      apart = λ i j d less within same.
          let in_i : i < length qs = omega arith in
          let a = get_or rs i no_run in
          let b = get_or rs j no_run in
          let first_i : (get_or qs i d).span.first ≡ a.first = ap (λ (p : Piece). p.span.first) (is i d in_i) in
          let first_j : (get_or qs j d).span.first ≡ b.first = ap (λ (p : Piece). p.span.first) (is j d within) in
          let after = rise 0 (length (positions js)) rs runs.in_turn i j no_run less (omega arith) in
          let some = (runs.each i no_run (omega arith)).some in
          omega arith;
    }

level_fits : LevelsAreLeast → (t : Criterion) (box : Bounds) (p : Position) (o : Option ℕ) → level_of t box p ≡ o → IfSome o (λ level. level ≤ 30)
level_fits laws t box p None e = tt
level_fits laws t box p (Some level) e = (((laws t box p).1 level).0 e).within

-- the runs are among the particles
pub runs_among : LevelsAreLeast → (t : Criterion) (box : Bounds) (js : List Particle) (rs : List CellRun) → AreCellRuns t box (positions js) rs → All (IsRunAmong (length js)) rs
runs_among laws t box js rs runs k d within =
    let r = get_or rs k d in
    let run = over_from_run t box js r (runs.each k d within) in
    let some = run.some in
    let inside = run.inside in
    (omega arith, level_fits laws t box (lead js r).at r.level (level_of_lead t box js r run))
