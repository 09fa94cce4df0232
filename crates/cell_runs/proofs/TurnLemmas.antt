-- Cell runs that follow one another.
use Rattle.std.proofs.Common.{ℕ, zero, suc, ◌+◌, ◌<◌, ◌≤◌, List, [], ◌∷◌, length, get_or, inl, inr, refl, arith}
use Rattle.std.specs.List.{Contains, AllPairs}
use Rattle.std.proofs.lemmas.Bool.{cases_lt}
use Rattle.cell_runs.specs.declared.cell_run.CellRun.{CellRun}
use Rattle.cell_runs.specs.CellRuns.{IsPlaceOf, FollowInTurn}

contains_more : {X : Type 0} (y : X) (ys : List X) (x : X) → Contains ys x → Contains (y ∷ ys) x
contains_more y ys x h = (suc h.0, (let within : h.0 < length ys = h.1 in omega arith), h.2)

pub holds_place : (start end k : ℕ) (rs : List CellRun) → FollowInTurn start end rs → start ≤ k → k < end → (r : CellRun) × Contains rs r × IsPlaceOf r k
holds_place start end k [] turn from to = absurd (omega (arith, turn))
holds_place start end k (r ∷ rs) turn from to =
    let first = turn.0 in
    elim (cases_lt k (start + r.len)) [
      | inl less ↦ (r, (zero, omega arith, refl), (omega arith, omega arith))
      | inr past ↦
          let rest = holds_place (start + r.len) end k rs turn.1 past to in
          (rest.0, contains_more r rs rest.0 rest.1, rest.2)
    ]

begins_after : (start end : ℕ) (rs : List CellRun) → FollowInTurn start end rs → (i : ℕ) (d : CellRun) → i < length rs → start ≤ (get_or rs i d).first
begins_after start end [] turn i d within = absurd (omega arith)
begins_after start end (r ∷ rs) turn zero d within = let first = turn.0 in omega arith
begins_after start end (r ∷ rs) turn (suc i) d within = let rest = begins_after (start + r.len) end rs turn.1 i d (omega arith) in omega arith

pub rise : (start end : ℕ) (rs : List CellRun) → FollowInTurn start end rs → AllPairs (λ (r s : CellRun). r.first + r.len ≤ s.first) rs
rise start end [] turn i j d less within = absurd (omega arith)
rise start end (r ∷ rs) turn i zero d less within = absurd (omega arith)
rise start end (r ∷ rs) turn zero (suc j) d less within =
    let first = turn.0 in
    let rest = begins_after (start + r.len) end rs turn.1 j d (omega arith) in
    omega arith
rise start end (r ∷ rs) turn (suc i) (suc j) d less within = rise (start + r.len) end rs turn.1 i j d (omega arith) (omega arith)
