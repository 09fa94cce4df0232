-- The answers of a particle's forces.
use Rattle.std.specs.Prelude.{◌≡◌, ℤ, List, None}
use Rattle.pf_geom.specs.declared.edge.Edge.{Edge}
use Rattle.pf_model.specs.declared.entry.Entry.{Entry}
use Rattle.pf_model.specs.Particle.{Particle}
use Rattle.kern_tree.specs.declared.kernel.Kernel.{Kernel}
use Rattle.run_model.specs.Force.{force_row, force_fault}

-- the forces by a list, which has no fault
pub record AreForces (edge : Edge) (kernel : Kernel) (entries : List Entry) (i : Particle) (numbers : List ℤ)
    : Type 0 where
  pub row : numbers ≡ force_row edge kernel entries i
  pub no_fault : force_fault edge kernel entries i ≡ None
