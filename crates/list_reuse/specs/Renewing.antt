-- How kept lists are renewed: group by group, entry by entry, and rank by rank.
use Rattle.std.specs.Prelude.{◌≡◌, ℕ, ◌+◌, ◌≤◌, List, length, map, Some, All, IsPermutation, slice_get, slice_set, slice_index_or}
use Rattle.std.specs.List.{AllZip}
use Rattle.pf_model.specs.declared.entry.Entry.{Entry}
use Rattle.pf_model.specs.declared.entry.Entry.TheVariants.{Cell, One}
use Rattle.pf_model.specs.Particle.{Particle}
use Rattle.pf_model.specs.Domains.{particles_of}
use Rattle.pf_model.specs.Interaction.{list_of, members_of}
use Rattle.pf_model.specs.Group.{box_of}
use Rattle.pf_model.specs.Reuse.{present, as_in, present_entry}
use Rattle.morton_tree.specs.Tree.{Octree}
use Rattle.morton_tree.specs.Spans.{at_span}
use Rattle.group_lists.specs.Whole.{GroupList}
use Rattle.group_lists.specs.Listing.{Listing, IsSource}
use Rattle.list_reuse.specs.Refreshing.{Renewal}
use Rattle.list_reuse.specs.Keeping.{Motion, IsMotion, AreOtherRanks, AreValues, sent_from}

-- the octree of the build, with its bodies as they are now
pub record IsOwnTree (m : Motion) (built : List Particle) (own : Octree) : Type 0 where
  pub tree : own.built ≡ built
  pub bodies : own.bodies ≡ map (as_in m.now) built

-- an entry that stands for the same as another, maybe with another moment of as many or at another place
abbrev pub IsSameEntry : Entry → Entry → Type 0
IsSameEntry (Cell c m) (Cell d n) = (c ≡ d) × (m.count ≡ n.count)
IsSameEntry (Cell c m) (One q) = ⊥
IsSameEntry (One p) (Cell d n) = ⊥
IsSameEntry (One p) (One q) = p.id ≡ q.id

-- the list of a group at the build
abbrev pub built_list : Motion → List Particle → GroupList → List Entry
built_list m built l = list_of m.theta (box_of (at_span l.span built)) m.particles

-- a group of the build: its span, and the entries of its list, wherever these are
pub record IsGroupOfBuild (m : Motion) (built : List Particle) (l : GroupList) : Type 0 where
  pub some : 1 ≤ l.span.len
  pub inside : l.span.first + l.span.len ≤ length built
  pub entries : AllZip IsSameEntry (built_list m built l) l.entries

-- lists that can be renewed by the parcels
pub record CanRenew (m : Motion) (lists : Listing) (parcels : List Renewal) : Type 0 where
  pub motion : IsMotion m
  pub parcels_are : AreValues m parcels
  pub built : IsPermutation lists.built (particles_of m.grid m.particles m.rank)
  pub groups : All (IsGroupOfBuild m lists.built) lists.groups
  pub ranks : AreOtherRanks m (map (λ s. s.src) lists.sources)
  pub sources : All (λ s. IsSource (sent_from m s.src) s.src s) lists.sources

-- the present members of an entry of a group's list that a rank has
abbrev pub rank_members : Motion → List Particle → GroupList → Entry → ℕ → List Particle
rank_members m built l e r =
    present m.now (members_of m.theta (box_of (at_span l.span built)) (particles_of m.grid m.particles r) e)

-- the entry of the build as it is now
abbrev pub entry_now : Motion → List Particle → GroupList → Entry → Entry
entry_now m built l e = present_entry m.now (members_of m.theta (box_of (at_span l.span built)) m.particles e) e

-- what holds of the entry that stood at a place of a group's list at the build
abbrev pub OfBuilt : Motion → Listing → ℕ → ℕ → (GroupList → Entry → Type 0) → Type 0
OfBuilt m lists n place P =
    (l : GroupList) (e : Entry) → slice_get lists.groups n ≡ Some l →
    slice_get (built_list m lists.built l) place ≡ Some e → P l e

-- the values at some places
abbrev pub values_at : List Entry → Entry → List ℕ → List Entry
values_at values d places = map (λ k. slice_index_or values k d) places

-- lists in which a group is another, and all else is as before
abbrev pub with_group : Listing → ℕ → GroupList → Listing
with_group lists n l = record lists { groups = slice_set lists.groups n l }

-- a group with its entries as they are now
abbrev pub renewed_group : Motion → List Particle → GroupList → GroupList
renewed_group m built l = record l { entries = map (entry_now m built l) (built_list m built l) }
