-- Laws of the one build of a thin run.
use Rattle.std.specs.Prelude.{◌≡◌, ℕ, ◌≤◌, List, [], ◌∷◌, length, map, Contains}
use Rattle.pf_model.specs.declared.entry.Entry.TheVariants.{One}
use Rattle.pf_model.specs.Particle.{Particle}
use Rattle.pf_model.specs.Particles.{HaveDistinctIds, by_id}
use Rattle.pf_model.specs.Criterion.{IsCriterion}
use Rattle.pf_model.specs.Division.{IsDivision, rank_count}
use Rattle.run_model.specs.Setup.{Setup}
use Rattle.run_model.specs.Run.{list_for, entry_count}
use Rattle.run_model.specs.Text.{rank_counts}

-- the order by ids of what stands in this order already is itself
abbrev pub OrdersByIdStay : Type 0
OrdersByIdStay = (js : List Particle) → by_id (by_id js) ≡ by_id js

-- how many groups there are: one, if there is a particle
abbrev pub group_if_some : List Particle → ℕ
group_if_some [] = 0
group_if_some (j ∷ js) = 1

-- every list is all particles, and the rank's counts are these
pub record IsThinBuild (u : Setup) (js : List Particle) : Type 0 where
  pub lists : (i : Particle) → Contains js i → list_for u js js i ≡ map One js
  pub entries : entry_count u js ≡ length js
  pub counts : rank_counts u js 0 ≡ record {
    particles = length js;
    groups = group_if_some js;
    cells = 0;
    parts = 0;
    listcells = 0;
    listparts = length js;
  }

-- so is the build of one rank where theta is 0 and the particles, by id, are no more than the limit of a group
abbrev pub ThinBuildsAreSo : Type 0
ThinBuildsAreSo =
    (u : Setup) (js : List Particle) → IsDivision u.grid → rank_count u.grid ≡ 1 → IsCriterion u.theta →
    u.theta.a ≡ 0 → HaveDistinctIds js → by_id js ≡ js → length js ≤ u.group → IsThinBuild u js
