-- The forces of a thin run.
use Rattle.std.specs.Prelude.{◌≡◌, ℕ, ◌≤◌, ◌^◌, ℤ, pos, ◌-ℤ◌, List, [], ◌∷◌, length, map, None, All, Contains}
use Rattle.pf_geom.specs.declared.edge.Edge.TheVariants.{Open}
use Rattle.pf_geom.specs.Position.{Position}
use Rattle.pf_model.specs.declared.entry.Entry.TheVariants.{One}
use Rattle.pf_model.specs.Particle.{Particle, IsParticle}
use Rattle.pf_model.specs.Particles.{HaveDistinctIds}
use Rattle.pf_model.specs.Sums.{int_sum_by}
use Rattle.kern_tree.specs.declared.kernel.Kernel.{Kernel}
use Rattle.run_model.specs.Force.{force_row, force_fault}
use Rattle.run_laws.specs.PullKernel.{IsPullKernel, DifferInName}

-- how far all particles together lie from this one along an axis
abbrev pub total : (Position → ℕ) → List Particle → Particle → ℤ
total along js i = int_sum_by (λ j. pos (along j.at) -ℤ pos (along i.at)) js

-- no acceleration, and how far all particles together lie from this one
abbrev pub pulled : List Particle → Particle → List ℤ
pulled js i =
    pos 0 ∷ pos 0 ∷ pos 0 ∷ total (λ p. p.x) js i ∷ total (λ p. p.y) js i ∷ total (λ p. p.z) js i ∷ []

-- these are the forces by a list of particles of one of them, which have no fault
abbrev pub PullsAddUp : Type 0
PullsAddUp =
    (k : Kernel) (taker giver pull : List ℕ) (js : List Particle) (i : Particle) → IsPullKernel k taker giver pull →
    DifferInName taker giver pull → HaveDistinctIds js → All IsParticle js → length js ≤ 2 ^ 16 → Contains js i →
    (force_row Open k (map One js) i ≡ pulled js i) × (force_fault Open k (map One js) i ≡ None)
