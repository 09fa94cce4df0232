-- Laws of kept lists.
use Rattle.std.specs.Prelude.{◌≡◌, ℕ, Bool, List, filter, map, nat_eq, Contains, IsPermutation}
use Rattle.std.specs.List.{IsDistinct, flat_map}
use Rattle.pf_geom.specs.Bounds.{Bounds, IsBox, IsWithin}
use Rattle.pf_model.specs.declared.entry.Entry.{Entry}
use Rattle.pf_model.specs.declared.entry.Entry.TheVariants.{One}
use Rattle.pf_model.specs.Particle.{Particle}
use Rattle.pf_model.specs.Particles.{HaveDistinctIds, HaveSameIds}
use Rattle.pf_model.specs.Criterion.{Criterion}
use Rattle.pf_model.specs.Division.{Division}
use Rattle.pf_model.specs.Domains.{particles_of}
use Rattle.pf_model.specs.Sums.{moment_of}
use Rattle.pf_model.specs.Interaction.{list_of, members_of}
use Rattle.pf_model.specs.Sufficiency.{moment_together}
use Rattle.pf_model.specs.EssentialTree.{particles_of_ranks}
use Rattle.pf_model.specs.Reuse.{present, as_in, present_entry, items_now, kept_list}

-- at the build the kept list is the list
abbrev pub KeptListsBeginAsLists : Type 0
KeptListsBeginAsLists =
    (t : Criterion) (box : Bounds) (js : List Particle) → HaveDistinctIds js → kept_list t box js js ≡ list_of t box js

-- what is present of some of the particles is so among what is present of all of them
abbrev pub PresentOfSomeStaySome : Type 0
PresentOfSomeStaySome =
    (test : Particle → Bool) (js now : List Particle) →
    present (present now js) (filter test js) ≡ present now (filter test js)

-- no order changes what is present
abbrev pub PresentIgnoresOrder : Type 0
PresentIgnoresOrder =
    (now later js ks : List Particle) → IsPermutation now later → IsPermutation js ks →
    IsPermutation (present now js) (present later ks)

-- of some particles ks of a build those that are present are the ones with their ids
abbrev pub PresentAreFound : Type 0
PresentAreFound =
    (js ks now : List Particle) → HaveDistinctIds js → HaveDistinctIds ks →
    ((k : Particle) → Contains ks k → Contains js k) → HaveSameIds js now →
    IsPermutation (map (as_in now) ks) (present now ks)

-- an entry that is a particle is now the particle with its id, among whatever particles this one is
abbrev pub PresentEntriesAreFound : Type 0
PresentEntriesAreFound =
    (now members : List Particle) (p q : Particle) → HaveDistinctIds now → Contains now q → q.id ≡ p.id →
    present_entry now members (One p) ≡ One q

-- the present members of an entry over some ranks are those over each of these ranks in turn, up to their order
abbrev pub PresentMembersAreOfRanks : Type 0
PresentMembersAreOfRanks =
    (t : Criterion) (box : Bounds) (g : Division) (js now : List Particle) (e : Entry) (ranks : List ℕ) →
    HaveDistinctIds js → IsDistinct nat_eq ranks →
    IsPermutation (present now (members_of t box (particles_of_ranks g js ranks) e))
    (flat_map (λ rank. present now (members_of t box (particles_of g js rank) e)) ranks)

-- for a box inside a box, the present members of an entry of the inner list that are among some of the particles have
-- the moment of the items of the outer list over these that lie in it, as they are now
abbrev pub KeptEntriesAddUpItemsOfSome : Type 0
KeptEntriesAddUpItemsOfSome =
    (test : Particle → Bool) (t : Criterion) (inner outer : Bounds) (js now : List Particle) (e : Entry) →
    IsBox inner → IsBox outer → IsWithin inner outer → HaveDistinctIds js → HaveSameIds js now →
    Contains (list_of t inner js) e →
    moment_of (present now (members_of t inner (filter test js) e))
    ≡ moment_together (items_now t outer (filter test js) now e)
