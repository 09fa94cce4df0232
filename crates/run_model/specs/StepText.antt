-- The canonical text of a step.
use Rattle.std.specs.Prelude.{ℕ, ℤ, pos, List, [], ◌∷◌, ◌++◌, length, codes, decimal}
use Rattle.std.specs.Fmt.{signed_decimal}
use Rattle.std.specs.List.{flat_map, enumerate_from}
use Rattle.run_model.specs.declared.step_text.StepText.{StepText}
use Rattle.run_model.specs.declared.step_text.RankLine.{RankLine}
use Rattle.run_model.specs.declared.step_text.BodyLine.{BodyLine}

-- the step, and how many particles and ranks there are
unfoldable pub step_line : StepText → List ℕ
step_line s =
    codes "step " ++ decimal s.step ++ codes " particles " ++ decimal (length s.rows)
    ++ codes " ranks " ++ decimal (length s.ranks) ++ codes "\n"

-- the counts of the rank of this number
unfoldable pub rank_line : ℕ → RankLine → List ℕ
rank_line rank r =
    codes "rank " ++ decimal rank ++ codes " particles " ++ decimal r.particles ++ codes " groups " ++ decimal r.groups
    ++ codes " cells " ++ decimal r.cells ++ codes " parts " ++ decimal r.parts
    ++ codes " listcells " ++ decimal r.listcells ++ codes " listparts " ++ decimal r.listparts ++ codes "\n"

-- a number after a blank
abbrev pub after_blank : ℤ → List ℕ
after_blank z = 32 ∷ signed_decimal z

-- the id and the owner of a particle, its position, its velocity and its forces
unfoldable pub body_line : BodyLine → List ℕ
body_line b =
    codes "p"
    ++ flat_map after_blank ((pos b.id ∷ pos b.owner ∷ pos b.at.x ∷ pos b.at.y ∷ pos b.at.z ∷ []) ++ b.vel ++ b.forces)
    ++ codes "\n"

-- the line of the step, one for each rank from 0, and one for each particle
abbrev pub step_text : StepText → List ℕ
step_text s = step_line s ++ flat_map (λ r. rank_line r.0 r.1) (enumerate_from 0 s.ranks) ++ flat_map body_line s.rows
