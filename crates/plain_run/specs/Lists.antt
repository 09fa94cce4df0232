-- Lists of a build, while their particles move.
use Rattle.std.specs.Prelude.{◌≡◌, ◌≤◌, Bool, false, List, map, ⊤}
use Rattle.pf_geom.specs.Octant.{Octant}
use Rattle.pf_model.specs.declared.entry.Entry.{Entry}
use Rattle.pf_model.specs.declared.entry.Entry.TheVariants.{Cell, One}
use Rattle.pf_model.specs.Particle.{Particle}
use Rattle.pf_model.specs.Interaction.{is_cell}

-- a cell stands for at least one particle
abbrev pub HasMembers : Entry → Type 0
HasMembers (Cell c m) = 1 ≤ m.count
HasMembers (One p) = ⊤

-- the particles of a build, and the same as they are now, in one order
abbrev pub HaveOneOrder : List Particle → List Particle → Type 0
HaveOneOrder built now = map (λ b. b.id) built ≡ map (λ p. p.id) now

-- an entry that is this cell
abbrev pub is_of_cell : Octant → Entry → Bool
is_of_cell c (Cell d m) = is_cell c d
is_of_cell c (One p) = false
