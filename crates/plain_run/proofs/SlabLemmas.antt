-- Slabs, and how many particles lie in one.
use Rattle.std.proofs.Common.{ℕ, ◌≤◌, Bool, List, length, arith}
use Rattle.std.specs.Prelude.{nat_eq}
use Rattle.std.proofs.lemmas.List.Sums.{count_by-le-length, length-filter}
use Rattle.pf_geom.specs.declared.axis.Axis.{Axis}
use Rattle.pf_model.specs.Particle.{Particle}
use Rattle.pf_model.specs.Domains.{slab_of}
use Rattle.pf_geom.specs.Position.{along}
use Rattle.pf_model.specs.Domains.{in_slab_along}

-- a slab has no more particles than there are
pub slab_short : (axis : Axis) (cuts : List ℕ) (js : List Particle) (slab : ℕ) → length (in_slab_along axis cuts js slab) ≤ length js
slab_short axis cuts js slab =
    let test : Particle → Bool = λ j. nat_eq (slab_of cuts (along axis j.at)) slab in
    let a = length-filter test js in
    let b = count_by-le-length test js in
    omega arith
