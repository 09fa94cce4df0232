-- Laws of cell runs.
use Rattle.std.specs.Prelude.{ℕ, ◌+◌, ◌<◌, ◌≤◌, List, Contains, AllPairs}
use Rattle.cell_runs.specs.declared.cell_run.CellRun.{CellRun}
use Rattle.cell_runs.specs.CellRuns.{IsPlaceOf, FollowInTurn}

-- where cell runs follow one another, each place is one of some run
abbrev pub RunsHoldEachPlace : Type 0
RunsHoldEachPlace =
    (start end k : ℕ) (rs : List CellRun) → FollowInTurn start end rs → start ≤ k → k < end →
    (r : CellRun) × Contains rs r × IsPlaceOf r k

-- and each run ends before all later ones begin
abbrev pub RunsRise : Type 0
RunsRise =
    (start end : ℕ) (rs : List CellRun) → FollowInTurn start end rs →
    AllPairs (λ r s. r.first + r.len ≤ s.first) rs
