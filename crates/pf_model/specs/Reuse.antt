-- Lists of a build that are kept while their particles move.
use Rattle.std.specs.Prelude.{List, map, filter, find, unwrap_or, nat_eq}
use Rattle.std.specs.List.{list_any}
use Rattle.pf_geom.specs.Bounds.{Bounds}
use Rattle.pf_model.specs.declared.entry.Entry.{Entry}
use Rattle.pf_model.specs.declared.entry.Entry.TheVariants.{Cell, One}
use Rattle.pf_model.specs.Particle.{Particle}
use Rattle.pf_model.specs.Criterion.{Criterion}
use Rattle.pf_model.specs.Sums.{moment_of}
use Rattle.pf_model.specs.Interaction.{list_of, members_of}
use Rattle.pf_model.specs.Group.{box_of}
use Rattle.pf_model.specs.Groups.{RankGroup}
use Rattle.pf_model.specs.Sufficiency.{items_in}

-- some particles of the build as they are now: those with their ids
abbrev pub present : List Particle → List Particle → List Particle
present now js = filter (λ p. list_any (λ j. nat_eq p.id j.id) js) now

-- a particle as it is in a list: the one with its id, if there is one
abbrev pub as_in : List Particle → Particle → Particle
as_in js p = unwrap_or (find (λ q. nat_eq p.id q.id) js) p

-- an entry of the build as it is now: the particle, or the cell with the moment of its members
abbrev pub present_entry : List Particle → List Particle → Entry → Entry
present_entry now members (Cell c m) = Cell c (moment_of (present now members))
present_entry now members (One p) = One (as_in now p)

-- the list of a box with the cells and the members of the build, as these are now
unfoldable pub kept_list : Criterion → Bounds → List Particle → List Particle → List Entry
kept_list t box built now = map (λ e. present_entry now (members_of t box built e) e) (list_of t box built)

-- the kept list of a group of the build, whose box stays
abbrev pub kept_group_list : Criterion → List Particle → List Particle → RankGroup → List Entry
kept_group_list t built now group = kept_list t (box_of group.members) built now

-- the items of a list of the build that lie in an entry, as they are now
abbrev pub items_now : Criterion → Bounds → List Particle → List Particle → Entry → List Entry
items_now t box built now e =
    map (λ f. present_entry now (members_of t box built f) f) (items_in e (list_of t box built))
