-- Groups: particles of one rank that share an interaction list.
use Rattle.std.specs.Prelude.{ℕ, ◌+◌, ◌-◌, ◌*◌, ◌^◌, Bool, List, [], ◌∷◌, length, map, filter, unwrap_or, nat_lt}
use Rattle.std.specs.Prelude.{nat_le}
use Rattle.pf_geom.specs.declared.cell.TheConstants.{DEEPEST}
use Rattle.pf_geom.specs.Position.{Position}
use Rattle.pf_geom.specs.Bounds.{Bounds, box_round}
use Rattle.pf_geom.specs.Octant.{Octant, cell_at}
use Rattle.pf_model.specs.Particle.{Particle}
use Rattle.order_laws.specs.Order.{least_below, in_order_once}
use Rattle.pf_model.specs.Interaction.{is_cell}

-- the particles that lie in a cell
abbrev pub particles_in : Octant → List Particle → List Particle
particles_in c js = filter (λ j. is_cell c (cell_at j.at c.level)) js

-- the least level at which the position's cell has no more of these particles than the limit, or else the deepest
unfoldable pub group_level : ℕ → List Particle → Position → ℕ
group_level limit own p =
    unwrap_or (least_below (λ level. nat_le (length (particles_in (cell_at p level) own)) limit) (DEEPEST + 1)) DEEPEST

-- the cell of the group of a position
abbrev pub group_cell : ℕ → List Particle → Position → Octant
group_cell limit own p = cell_at p (group_level limit own p)

-- the group of a particle of own, the particles of its rank
abbrev pub group_of : ℕ → List Particle → Particle → List Particle
group_of limit own i = particles_in (group_cell limit own i.at) own

-- the least box round the particles (of none, the box of the origin alone)
abbrev pub box_of : List Particle → Bounds
box_of [] = record { lo = record { x = 0; y = 0; z = 0 }; hi = record { x = 0; y = 0; z = 0 } }
box_of (j ∷ []) = record { lo = j.at; hi = j.at }
box_of (j ∷ k ∷ js) = box_round (box_of (k ∷ js)) j.at

-- whether the corner of the one cell has a lower key
abbrev pub has_lower_corner : Octant → Octant → Bool
has_lower_corner c d = nat_lt (c.key * 8 ^ (DEEPEST - c.level)) (d.key * 8 ^ (DEEPEST - d.level))

-- the cells of a rank's groups, in the order of their numbers
unfoldable pub group_cells : ℕ → List Particle → List Octant
group_cells limit own = in_order_once has_lower_corner (map (λ i. group_cell limit own i.at) own)
