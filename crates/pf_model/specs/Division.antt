-- How the cube is divided among ranks.
use Rattle.std.specs.Prelude.{ℕ, ◌*◌, ◌≤◌}
use Rattle.pf_model.specs.declared.limits.TheConstants.{MOST_RANKS}

-- how many slabs of x there are, columns of y in each, and boxes of z in each column
pub record Division : Type 0 where
  pub nx : ℕ
  pub ny : ℕ
  pub nz : ℕ

-- there is at least one rank, and at most MOST_RANKS
pub record IsGrid (nx ny nz : ℕ) : Type 0 where
  pub some_x : 1 ≤ nx
  pub some_y : 1 ≤ ny
  pub some_z : 1 ≤ nz
  pub few : nx * ny * nz ≤ MOST_RANKS

-- a division that a `Grid` can be
abbrev pub IsDivision : Division → Type 0
IsDivision g = IsGrid g.nx g.ny g.nz

-- one rank for each box
abbrev pub rank_count : Division → ℕ
rank_count g = g.nx * g.ny * g.nz
