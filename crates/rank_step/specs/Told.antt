-- What a step tells.
use Rattle.std.specs.Prelude.{◌≡◌, ℕ, List, map, sum_by, Some, None}
use Rattle.std.specs.List.{zip}
use Rattle.run_model.specs.declared.step_text.BodyLine.{BodyLine}
use Rattle.run_model.specs.declared.step_text.RankLine.{RankLine}
use Rattle.run_model.specs.declared.step_text.StepText.{StepText}
use Rattle.run_model.specs.Setup.{Setup}
use Rattle.run_model.specs.Run.{WithForces, state, first_fault}
use Rattle.run_model.specs.Text.{ranks as all_ranks, rank_counts}
use Rattle.rank_step.specs.declared.last_build.LastBuild.{LastBuild}
use Rattle.rank_step.specs.LastBuild.{IsBuildOf}

-- the line of a particle that had this owner at the build
abbrev pub row_with : ℕ × WithForces → BodyLine
row_with o = record {
  id = o.1.body.id;
  owner = o.0;
  at = o.1.body.at;
  vel = o.1.body.vel;
  forces = o.1.forces;
}

-- what a step tells of ranks and these particles
abbrev pub text_with : ℕ → List RankLine → List ℕ → List WithForces → StepText
text_with s counts owners bodies = record { step = s; ranks = counts; rows = map row_with (zip owners bodies) }

-- how many groups these ranks have together
abbrev pub groups_told : List RankLine → ℕ
groups_told lines = sum_by (λ line. line.groups) lines

-- the step has no fault, and its state has these particles, with this last build, of which these are the counts
pub record Reaches (u : Setup) (s : ℕ) (bodies : List WithForces) (lines : List RankLine) (last : LastBuild)
    : Type 0 where
  pub no_fault : first_fault u s ≡ None
  pub state : state u s ≡ Some (record { bodies = bodies; built = last.bodies.items })
  pub counts : lines ≡ map (rank_counts u last.bodies.items) (all_ranks u)
  pub build : IsBuildOf u last
