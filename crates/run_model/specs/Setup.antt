-- What a run is made from.
use Rattle.std.specs.Prelude.{ℕ, List}
use Rattle.kern_tree.specs.declared.kernel.Kernel.{Kernel}
use Rattle.pf_model.specs.Particle.{Particle}
use Rattle.pf_model.specs.Criterion.{Criterion}
use Rattle.pf_model.specs.Division.{Division}

pub record Setup : Type 0 where
  pub kernel : Kernel
  -- as they were read, in any order
  pub particles : List Particle
  pub grid : Division
  pub theta : Criterion
  -- the most particles of a group
  pub group : ℕ
  -- the number of the last step
  pub steps : ℕ
  -- the length of a step
  pub dt : ℕ
  -- the steps from a build to the next
  pub reuse : ℕ
