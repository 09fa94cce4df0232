-- The run of the benchmark.
use Rattle.std.specs.Prelude.{ℕ}
use Rattle.kern_tree.specs.declared.kernel.Kernel.{Kernel}
use Rattle.pf_geom.specs.declared.edge.Edge.TheVariants.{Open}
use Rattle.pf_model.specs.Criterion.{Criterion}
use Rattle.pf_model.specs.Division.{Division}
use Rattle.run_model.specs.Setup.{Setup}
use Rattle.bench_input.specs.Generator.{particles}

abbrev pub bench_grid : Division
bench_grid = record { nx = 2; ny = 2; nz = 2 }

abbrev pub bench_theta : Criterion
bench_theta = record { a = 7; b = 10; edge = Open }

-- over so many particles of a seed, with this kernel
abbrev pub bench_setup : ℕ → ℕ → Kernel → Setup
bench_setup count seed kernel = record {
  kernel = kernel;
  particles = particles seed count;
  grid = bench_grid;
  theta = bench_theta;
  group = 64;
  steps = 4;
  dt = 16;
  reuse = 4;
}
