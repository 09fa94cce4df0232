use Rattle.std.proofs.Common.{◌≡◌, ◌/◌, ◌^◌, ◌<◌, arith}
use Rattle.std.proofs.Math.Nat.{div-one}
use Rattle.pf_geom.specs.Key.{morton_key}
use Rattle.pf_geom.proofs.laws.keys_fit.Goals as goal

pub returns : goal.returns
returns c p =
    let fits : morton_key p / 1 < 2 ^ 90 = (c.positions_have_cells.ensures p 30 (omega arith)).key_fits in
    let whole : morton_key p / 1 ≡ morton_key p = div-one (morton_key p) in
    omega arith
