use Rattle.std.proofs.Common.{List, sym, ◌∙◌, subst}
use Rattle.std.specs.Prelude.{IfErr, IfOk}
use Rattle.pf_model.specs.Division.{Division, rank_count}
use Rattle.tree_phase.specs.Trees.{AreArrivals}
use Rattle.pf_model.specs.Particle.{Particle}
use Rattle.rank_step.specs.declared.build.Built.{Built}
use Rattle.rank_step.specs.Build.{IsTooMany}
use Rattle.rank_step.proofs.build.build.Goals as goal

pub returns-clause-fault : goal.returns-clause-fault
returns-clause-fault g c u by =
    subst (λ (js : List Particle). IfErr c.build_by.result (IsTooMany u js)) c.of-build.ensures.bodies
    (c.build_by.ensures.fault u (record {
      grid = by.grid ∙ sym c.of-build.ensures.grid;
      theta = by.theta ∙ sym c.of-build.ensures.theta;
      group = by.group;
    }))

pub returns-clause-arrivals : goal.returns-clause-arrivals
returns-clause-arrivals g c =
    subst (λ (d : Division). IfOk c.build_by.result (λ (built : Built). AreArrivals (rank_count d) built.arrivals.items)) c.of-build.ensures.grid
    c.build_by.ensures.arrivals
