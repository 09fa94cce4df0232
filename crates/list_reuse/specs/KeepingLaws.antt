-- Laws of kept lists.
use Rattle.std.specs.Prelude.{◌≡◌, ℕ, List, map, All, Contains, IsPermutation}
use Rattle.std.specs.List.{AllZip}
use Rattle.pf_model.specs.Particle.{Particle, IsParticle}
use Rattle.pf_model.specs.Particles.{AreBodies, HaveDistinctIds}
use Rattle.pf_model.specs.Criterion.{Criterion}
use Rattle.pf_model.specs.Division.{Division, IsDivision}
use Rattle.pf_model.specs.Domains.{particles_of, domain_box}
use Rattle.pf_model.specs.Interaction.{list_of}
use Rattle.pf_model.specs.EssentialTree.{essential_tree}
use Rattle.pf_model.specs.Reuse.{as_in}
use Rattle.morton_tree.specs.Spans.{at_span}
use Rattle.group_lists.specs.Gathering.{Gathering, IsGroupOf}
use Rattle.group_lists.specs.Listing.{Listing, IsSource}
use Rattle.list_reuse.specs.Refreshing.{present_items}
use Rattle.list_reuse.specs.Keeping.{Motion, IsMotion, AreOtherRanks, AreKept, sent_from, values_from}

-- a build seen from one rank, before its particles move
abbrev pub build_of : Criterion → Division → List Particle → ℕ → Motion
build_of t g js rank = record { theta = t; grid = g; particles = js; rank = rank; now = js }

-- what `finish` says of the lists of a gather
pub record AreFinished (t : Criterion) (g : Division) (js : List Particle) (gather : Gathering) (lists : Listing) : Type 0 where
  pub bodies : map (λ l. l.bodies) lists.groups ≡ map (λ v. at_span v.span gather.own) gather.groups
  pub entries : map (λ l. l.entries) lists.groups ≡ map (λ v. list_of t v.around js) gather.groups
  pub spans : map (λ l. l.span) lists.groups ≡ map (λ v. v.span) gather.groups
  pub built : lists.built ≡ gather.own
  pub own : lists.own ≡ gather.own
  pub sources : AllZip (λ src s. IsSource (essential_tree t g js src gather.rank) src s) gather.absorbed lists.sources

-- the lists of a build are kept lists, of a rank that absorbed every other rank once
abbrev pub ListsOfABuildAreKept : Type 0
ListsOfABuildAreKept =
    (t : Criterion) (g : Division) (js : List Particle) (gather : Gathering) (lists : Listing) → AreBodies js →
    All IsParticle js → IsDivision g → IsPermutation gather.own (particles_of g js gather.rank) →
    All (IsGroupOf gather.own) gather.groups → AreOtherRanks (build_of t g js gather.rank) gather.absorbed →
    AreFinished t g js gather lists → AreKept (build_of t g js gather.rank) lists

-- what a rank sends again, from the octree of its bodies, are the values of the items that it sent
abbrev pub RefreshedValuesArePresent : Type 0
RefreshedValuesArePresent =
    (m : Motion) (src : ℕ) (built bodies : List Particle) → IsMotion m →
    IsPermutation built (particles_of m.grid m.particles src) → bodies ≡ map (as_in m.now) built →
    present_items m.theta (domain_box m.grid m.particles m.rank) built bodies (sent_from m src) ≡ values_from m src

-- the bodies of an octree, moved, are those of the build as they are among whatever particles they are now
abbrev pub MovedBodiesArePresent : Type 0
MovedBodiesArePresent =
    (now built bodies : List Particle) → HaveDistinctIds now → map (λ j. j.id) bodies ≡ map (λ j. j.id) built →
    All (Contains now) bodies → bodies ≡ map (as_in now) built
