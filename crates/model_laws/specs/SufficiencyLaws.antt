-- Laws of how the items of an essential tree make the entries of the lists that it serves.
use Rattle.std.specs.Prelude.{◌≡◌, ℕ, ◌<◌, ◌↔◌, List, length, All, Contains}
use Rattle.std.specs.Prelude.{IsTrue, slice_index_or, ◌≤◌}
use Rattle.pf_geom.specs.Position.{IsPosition}
use Rattle.pf_geom.specs.Bounds.{Bounds, IsBox, IsWithin}
use Rattle.pf_model.specs.declared.entry.Entry.{Entry}
use Rattle.pf_model.specs.Particle.{Particle}
use Rattle.pf_model.specs.Particles.{HaveDistinctIds}
use Rattle.pf_model.specs.Criterion.{Criterion}
use Rattle.pf_model.specs.Division.{Division, IsDivision}
use Rattle.pf_model.specs.Interaction.{list_of}
use Rattle.pf_model.specs.Domains.{owner, domain_box}
use Rattle.pf_model.specs.Group.{box_of}
use Rattle.pf_model.specs.Sufficiency.{lies_in, items_in, entry_moment, moment_together}

-- for a box inside a box, each item of the outer list lies in exactly one entry of the inner list
abbrev pub ItemsLieInOneEntry : Type 0
ItemsLieInOneEntry =
    (t : Criterion) (inner outer : Bounds) (js : List Particle) (f : Entry) → IsBox inner → IsBox outer →
    IsWithin inner outer → HaveDistinctIds js → Contains (list_of t outer js) f →
    (k : ℕ) × (k < length (list_of t inner js)) × ((i : ℕ) (e : Entry) → i < length (list_of t inner js) →
    IsTrue (lies_in f (slice_index_or (list_of t inner js) i e)) ↔ (i ≡ k))

-- and the moment of an entry is the sum over its items
abbrev pub EntriesAddUpTheirItems : Type 0
EntriesAddUpTheirItems =
    (t : Criterion) (inner outer : Bounds) (js : List Particle) (e : Entry) → IsBox inner → IsBox outer →
    IsWithin inner outer → HaveDistinctIds js → Contains (list_of t inner js) e →
    entry_moment e ≡ moment_together (items_in e (list_of t outer js))

-- the box round particles that a rank owns lies inside its domain box
abbrev pub BoxesLieInDomains : Type 0
BoxesLieInDomains =
    (g : Division) (js members : List Particle) (rank : ℕ) → IsDivision g → All (λ j. IsPosition j.at) js →
    1 ≤ length members → All (λ j. IsPosition j.at) members → All (λ j. owner g js j.at ≡ rank) members →
    IsBox (box_of members) × IsBox (domain_box g js rank) × IsWithin (box_of members) (domain_box g js rank)
