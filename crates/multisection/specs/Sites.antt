-- Sites: where particles are, and their ids, along an axis.
use Rattle.std.specs.Prelude.{List, []}
use Rattle.pf_geom.specs.declared.axis.Axis.{Axis}
use Rattle.pf_model.specs.Particle.{Particle}
use Rattle.pf_model.specs.Domains.{AreInOrderAlong}
pub use Rattle.pf_geom.specs.Position.{along}
pub use Rattle.pf_model.specs.Domains.{in_slab_along, column_cuts}

-- a particle without what decides on no domain
abbrev pub site_of : Particle → Particle
site_of j = record { id = j.id; at = j.at; vel = []; mass = 0; attr = [] }

-- each particle comes before all later ones in the order of (coordinate, id)
abbrev pub IsInOrder : Axis → List Particle → Type 0
IsInOrder axis js = AreInOrderAlong (along axis) js
