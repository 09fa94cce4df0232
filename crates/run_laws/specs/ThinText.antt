-- The text of a thin run.
use Rattle.std.specs.Prelude.{◌≡◌, ◌≤◌, ℕ, List, [], ◌∷◌, length, map, All}
use Rattle.pf_geom.specs.declared.edge.Edge.TheVariants.{Open}
use Rattle.pf_model.specs.Particle.{Particle, IsParticle}
use Rattle.pf_model.specs.Particles.{HaveDistinctIds, by_id}
use Rattle.run_model.specs.declared.step_text.StepText.{StepText}
use Rattle.run_model.specs.declared.step_text.BodyLine.{BodyLine}
use Rattle.run_model.specs.Setup.{Setup}
use Rattle.run_model.specs.StepText.{step_text}
use Rattle.run_model.specs.Text.{text}
use Rattle.run_laws.specs.PullKernel.{IsPullKernel, DifferInName}
use Rattle.run_laws.specs.ThinBuild.{group_if_some}
use Rattle.run_laws.specs.ThinForces.{pulled}

-- one rank, theta 0 in an open box, and at most 64 particles, which fit into one group
pub record IsThinRun (u : Setup) (taker giver pull : List ℕ) : Type 0 where
  pub kernel : IsPullKernel u.kernel taker giver pull
  pub names : DifferInName taker giver pull
  pub distinct : HaveDistinctIds u.particles
  pub limits : All IsParticle u.particles
  pub few : length u.particles ≤ 64
  pub one_group : 64 ≤ u.group
  pub one_rank : u.grid ≡ record { nx = 1; ny = 1; nz = 1 }
  pub no_cells : u.theta ≡ record { a = 0; b = 1; edge = Open }

-- the line of one of these particles
abbrev pub thin_row : List Particle → Particle → BodyLine
thin_row js p = record { id = p.id; owner = 0; at = p.at; vel = p.vel; forces = pulled js p }

-- what the dump of these particles by id tells
abbrev pub thin_dump : List Particle → StepText
thin_dump js = record {
  step = 0;
  ranks = record {
    particles = length js;
    groups = group_if_some js;
    cells = 0;
    parts = 0;
    listcells = 0;
    listparts = length js;
  } ∷ [];
  rows = map (thin_row js) js;
}

-- the text of step 0 is the thin dump
abbrev pub ThinTextsAreThinDumps : Type 0
ThinTextsAreThinDumps =
    (u : Setup) (taker giver pull : List ℕ) → IsThinRun u taker giver pull →
    text u 0 ≡ step_text (thin_dump (by_id u.particles))
