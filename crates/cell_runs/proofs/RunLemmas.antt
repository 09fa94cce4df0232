-- Cell runs, one after another from the front of a list of positions.
use Rattle.std.proofs.Common.{◌≡◌, ℕ, zero, suc, ◌+◌, ◌-◌, ◌*◌, ◌<◌, ◌≤◌, List, [], ◌∷◌, ◌++◌, length, get_or, map, drop, inl, inr, Option, Some, None, refl, sym, ◌∙◌, ap, subst, arith}
use Rattle.std.specs.List.{All}
use Rattle.std.proofs.lemmas.Bool.{cases_lt}
use Rattle.std.proofs.lemmas.List.{length-map, get_or-map, length-drop, get_or-drop, get_or_default, length_push}
use Rattle.std.proofs.lemmas.List.Elements.{All-nil, All-push}
use Rattle.pf_geom.specs.Position.{Position}
use Rattle.pf_geom.specs.Bounds.{Bounds}
use Rattle.pf_geom.specs.Key.{morton_key}
use Rattle.pf_geom.specs.Octant.{Octant, cell_at}
use Rattle.pf_geom.specs.CellLaws.{PositionsShareLowerCells}
use Rattle.pf_model.specs.Criterion.{Criterion, Passes}
use Rattle.pf_model.specs.Interaction.{level_of}
use Rattle.model_laws.specs.ListLaws.{IsFirstPassing, LevelsAreLeast}
use Rattle.cell_runs.specs.declared.cell_run.CellRun.{CellRun}
use Rattle.cell_runs.specs.CellRuns.{IsPlaceOf, IsWholeCell, IsCellRun, FollowInTurn, AreCellRuns}
use Rattle.cell_runs.specs.Finding.{cell_of_key, IsBetweenCells, key_before, NoSharedPasses, IsCellFront, IsFront}

abbrev origin : Position
origin = record { x = 0; y = 0; z = 0 }

-- a position in the first passing cell of another has it as its own
first_shared : PositionsShareLowerCells → (t : Criterion) (box : Bounds) (p q : Position) (level : ℕ) → IsFirstPassing t box p level → cell_at q level ≡ cell_at p level → IsFirstPassing t box q level
first_shared share t box p q level h same = record {
  within = h.within;
  passes = subst (λ (c : Octant). Passes box c t) (sym same) h.passes;
  lowest = λ lower less passes.
      let shared = share q p lower level (omega arith) h.within same in
      h.lowest lower less (subst (λ (c : Octant). Passes box c t) shared passes);
}

-- a position of which a cell passes has a level up to that cell's
level_at_most : LevelsAreLeast → (t : Criterion) (box : Bounds) (p : Position) (level : ℕ) (o : Option ℕ) → level ≤ 30 → Passes box (cell_at p level) t → level_of t box p ≡ o → (l : ℕ) × (l ≤ level) × (level_of t box p ≡ Some l)
level_at_most laws t box p level None within passes e = absurd ((laws t box p).0.0 e level within passes)
level_at_most laws t box p level (Some l) within passes e =
    let first = ((laws t box p).1 l).0 e in (
      l,
      elim (cases_lt level l) [ inl less ↦ absurd (first.lowest level less passes) | inr most ↦ most ],
      e,
    )

-- what is read of keys is the key of what is read of positions
key_read : (ps : List Position) (keys : List ℕ) (k : ℕ) (p : Position) → keys ≡ map morton_key ps → k < length ps → get_or keys k 0 ≡ morton_key (get_or ps k p)
key_read ps keys k p is within = ap (λ (ks : List ℕ). get_or ks k 0) is ∙ get_or-map morton_key ps k p 0 within

pub same_length : (ps : List Position) (keys : List ℕ) → keys ≡ map morton_key ps → length keys ≡ length ps
same_length ps keys is = ap length is ∙ length-map ps morton_key

cell_read : (ps : List Position) (keys : List ℕ) (k level : ℕ) (p : Position) → keys ≡ map morton_key ps → k < length ps → cell_of_key (get_or keys k 0) level ≡ cell_at (get_or ps k p) level
cell_read ps keys k level p is within = ap (λ (key : ℕ). cell_of_key key level) (key_read ps keys k p is within)

-- at a place between cells none that is shared with the place before passes
pub no_shared_passes : PositionsShareLowerCells → LevelsAreLeast → (t : Criterion) (box : Bounds) (ps : List Position) (keys : List ℕ) (place : ℕ) → keys ≡ map morton_key ps → place < length ps → IsBetweenCells t box ps place → NoSharedPasses t box (key_before keys place) (get_or keys place 0)
no_shared_passes share laws t box ps keys zero is inside between level within shared passes = absurd shared
no_shared_passes share laws t box ps keys (suc place) is inside between level within shared passes =
    let before = get_or ps place origin in
    let here = get_or ps (suc place) origin in
    let read = cell_read ps keys (suc place) level origin is inside in
    let same : cell_at before level ≡ cell_at here level = sym (cell_read ps keys place level origin is (omega arith)) ∙ shared ∙ read in
    let there : Passes box (cell_at before level) t = subst (λ (c : Octant). Passes box c t) (read ∙ sym same) passes in
    let first = level_at_most laws t box before level (level_of t box before) within there refl in
    between place (suc place) first.0 origin (omega arith) (omega arith) inside first.2 (share before here first.0 level first.1 within same)

-- the keys in the cell of the key at a place are a run of all positions in the cell, where it is the first that passes
run_with_level : PositionsShareLowerCells → LevelsAreLeast → (t : Criterion) (box : Bounds) (ps : List Position) (keys : List ℕ) (place level len : ℕ) → keys ≡ map morton_key ps → place < length ps → IsBetweenCells t box ps place → IsFirstPassing t box (get_or ps place origin) level → IsCellFront (drop place keys) level len →
    IsCellRun t box ps (record { first = place; len = len; level = Some level })
run_with_level share laws t box ps keys place level len is inside between first front =
    let here = get_or ps place origin in
    let long = same_length ps keys is in
    let left = length-drop place keys in
    let fits = front.inside in
    let read : (n : ℕ) (p : Position) → place + n < length ps → cell_of_key (get_or (drop place keys) n 0) level ≡ cell_at (get_or ps (place + n) p) level = λ n p within.
    ap (λ (key : ℕ). cell_of_key key level) (get_or-drop place keys n 0) ∙ cell_read ps keys (place + n) level p is within in
    let start : cell_of_key (get_or (drop place keys) 0 0) level ≡ cell_at here level =
    read 0 origin (omega arith) ∙ ap (λ (n : ℕ). cell_at (get_or ps n origin) level) (let same : place + 0 ≡ place = omega arith in same) in
    let to : (k : ℕ) (p : Position) → k < length ps → place ≤ k → k < place + len → cell_at (get_or ps k p) level ≡ cell_at here level = λ k p within least less.
    let n = k - place in
    let at : place + n ≡ k = omega arith in
    let near : n < length (drop place keys) = omega arith in
    ap (λ (m : ℕ). cell_at (get_or ps m p) level) (sym at) ∙ sym (read n p (omega arith)) ∙ (front.whole n near).0 (omega arith) ∙ start in
    let from : (k : ℕ) (p : Position) → k < length ps → cell_at (get_or ps k p) level ≡ cell_at here level → (place ≤ k) × (k < place + len) = λ k p within same.
    elim (cases_lt k place) [
      | inl early ↦
          let level_is = ((laws t box (get_or ps k p)).1 level).1 (first_shared share t box here (get_or ps k p) level first same) in
          let at : get_or ps place origin ≡ get_or ps place p = get_or_default ps place origin p inside in
          absurd (between k place level p early (omega arith) inside level_is (same ∙ ap (λ (q : Position). cell_at q level) at))
      | inr late ↦
          let n = k - place in
          let at : place + n ≡ k = omega arith in
          let near : n < length (drop place keys) = omega arith in
          let back : cell_at (get_or ps (place + n) p) level ≡ cell_at (get_or ps k p) level = ap (λ (m : ℕ). cell_at (get_or ps m p) level) at in
          let less : n < len = (front.whole n near).1 (read n p (omega arith) ∙ back ∙ same ∙ sym start) in
          (late, omega arith)
    ] in
    record {
      some = front.some;
      inside = omega arith;
      level = λ k p of.
          let least : place ≤ k = of.0 in
          let less : k < place + len = of.1 in
          ((laws t box (get_or ps k p)).1 level).1 (first_shared share t box here (get_or ps k p) level first (to k p (omega arith) least less));
      whole = λ k p within.
          let at : get_or ps place p ≡ here = get_or_default ps place p origin inside in
          let cell : cell_at (get_or ps place p) level ≡ cell_at here level = ap (λ (q : Position). cell_at q level) at in
          (λ of. to k p within of.0 of.1 ∙ sym cell, λ same. from k p within (same ∙ cell));
    }

-- and where no cell passes the place alone is one
run_without_level : (t : Criterion) (box : Bounds) (ps : List Position) (place : ℕ) → place < length ps → level_of t box (get_or ps place origin) ≡ None → IsCellRun t box ps (record { first = place; len = 1; level = None })
run_without_level t box ps place inside none = record {
  some = omega arith;
  inside = omega arith;
  level = λ k p of.
      let least : place ≤ k = of.0 in
      let less : k < place + 1 = of.1 in
      let same : k ≡ place = omega arith in
      ap (λ (n : ℕ). level_of t box (get_or ps n p)) same ∙ ap (level_of t box) (get_or_default ps place p origin inside) ∙ none;
  whole = refl;
}

run_by_level : PositionsShareLowerCells → LevelsAreLeast → (t : Criterion) (box : Bounds) (ps : List Position) (keys : List ℕ) (place : ℕ) (level : Option ℕ) (len : ℕ) → keys ≡ map morton_key ps → place < length ps → IsBetweenCells t box ps place → level_of t box (get_or ps place origin) ≡ level → IsFront (drop place keys) level len →
    IsCellRun t box ps (record { first = place; len = len; level = level })
run_by_level share laws t box ps keys place None len is inside between at one =
    subst (λ (n : ℕ). IsCellRun t box ps (record { first = place; len = n; level = None })) (sym one) (run_without_level t box ps place inside at)
run_by_level share laws t box ps keys place (Some level) len is inside between at front =
    run_with_level share laws t box ps keys place level len is inside between (((laws t box (get_or ps place origin)).1 level).0 at) front

-- the run from a place between cells on, by its level and the keys in its cell
pub run_from_place : PositionsShareLowerCells → LevelsAreLeast → (t : Criterion) (box : Bounds) (ps : List Position) (keys : List ℕ) (place : ℕ) (level : Option ℕ) (len : ℕ) → place < length keys →
    ((p : Position) → morton_key p ≡ get_or keys place 0 → NoSharedPasses t box (key_before keys place) (get_or keys place 0) → level ≡ level_of t box p) → IsFront (drop place keys) level len →
    keys ≡ map morton_key ps → IsBetweenCells t box ps place → IsCellRun t box ps (record { first = place; len = len; level = level })
run_from_place share laws t box ps keys place level len within found front is between =
    let inside : place < length ps = (let long = same_length ps keys is in omega arith) in
    let at = found (get_or ps place origin) (sym (key_read ps keys place origin is inside)) (no_shared_passes share laws t box ps keys place is inside between) in
    run_by_level share laws t box ps keys place level len is inside between (sym at) front

-- how long a front is
pub front_fits : (keys : List ℕ) (level : Option ℕ) (len : ℕ) → 1 ≤ length keys → IsFront keys level len → (1 ≤ len) × (len ≤ length keys)
front_fits keys None len some one = (let same : len ≡ 1 = one in omega arith, let same : len ≡ 1 = one in omega arith)
front_fits keys (Some level) len some front = (front.some, front.inside)

-- after a run no first passing cell is cut either
between_more : (t : Criterion) (box : Bounds) (ps : List Position) (place : ℕ) (r : CellRun) → IsBetweenCells t box ps place → r.first ≡ place → IsCellRun t box ps r → IsBetweenCells t box ps (place + r.len)
between_more t box ps place r between first run i k level p less least within level_is same =
    elim (cases_lt i place) [
      | inl early ↦ between i k level p early (omega arith) within level_is same
      | inr late ↦
          let own : IsPlaceOf r i = (omega arith, omega arith) in
          let is : r.level ≡ Some level = sym (run.level i p own) ∙ level_is in
          let whole = subst (λ (o : Option ℕ). IsWholeCell o ps r) is run.whole in
          let there : IsPlaceOf r k = (whole k p within).1 (sym same ∙ (whole i p (omega arith)).0 own) in
          let past : k < r.first + r.len = there.1 in
          absurd (omega arith)
    ]

follow_push : (start end : ℕ) (rs : List CellRun) (r : CellRun) → FollowInTurn start end rs → r.first ≡ end → FollowInTurn start (end + r.len) (rs ++ r ∷ [])
follow_push start end [] r h at_end = (at_end ∙ sym h, ap (λ (n : ℕ). n + r.len) h)
follow_push start end (s ∷ rs) r h at_end = (h.0, follow_push (start + s.len) end rs r h.1 at_end)

-- the runs of the positions before a place between cells
pub record AreRunsBelow (t : Criterion) (box : Bounds) (ps : List Position) (place : ℕ) (rs : List CellRun) : Type 0 where
  pub between : IsBetweenCells t box ps place
  pub each : All (IsCellRun t box ps) rs
  pub in_turn : FollowInTurn 0 place rs

-- whatever positions have the keys
abbrev pub AreKeyRunsBelow : Criterion → Bounds → List ℕ → ℕ → List CellRun → Type 0
AreKeyRunsBelow t box keys place rs = (ps : List Position) → keys ≡ map morton_key ps → AreRunsBelow t box ps place rs

pub no_runs : (t : Criterion) (box : Bounds) (keys : List ℕ) (rs : List CellRun) → rs ≡ [] → AreKeyRunsBelow t box keys 0 rs
no_runs t box keys rs none ps is =
    subst (AreRunsBelow t box ps 0) (sym none) (record {
      between = λ i k level p less least within level_is same. absurd (omega arith);
      each = All-nil (IsCellRun t box ps);
      in_turn = refl;
    })

pub runs_more : (t : Criterion) (box : Bounds) (keys : List ℕ) (place : ℕ) (rs more : List CellRun) (r : CellRun) → AreKeyRunsBelow t box keys place rs → r.first ≡ place → ((ps : List Position) → keys ≡ map morton_key ps → IsBetweenCells t box ps place → IsCellRun t box ps r) → more ≡ rs ++ r ∷ [] → AreKeyRunsBelow t box keys (place + r.len) more
runs_more t box keys place rs more r below first next pushed ps is =
    let before = below ps is in
    let run = next ps is before.between in
    subst (AreRunsBelow t box ps (place + r.len)) (sym pushed) (record {
      between = between_more t box ps place r before.between first run;
      each = All-push (IsCellRun t box ps) rs r before.each run;
      in_turn = follow_push 0 place rs r before.in_turn first;
    })

pub all_runs : (t : Criterion) (box : Bounds) (keys : List ℕ) (place : ℕ) (rs : List CellRun) → AreKeyRunsBelow t box keys place rs → place ≤ length keys → length keys ≤ place → (ps : List Position) → keys ≡ map morton_key ps → AreCellRuns t box ps rs
all_runs t box keys place rs below within done ps is =
    let before = below ps is in
    let end : place ≡ length ps = (let long = same_length ps keys is in omega arith) in
    record { each = before.each; in_turn = subst (λ (n : ℕ). FollowInTurn 0 n rs) end before.in_turn }

-- what is tested up to a run more
pub tests_more : (before after start count : ℕ) (rs : List CellRun) (r : CellRun) → before ≤ start + 31 * length rs → after ≤ before + 31 → after ≤ start + 31 * length (rs ++ r ∷ [])
tests_more before after start count rs r so_far here = let long = length_push rs r in omega arith
