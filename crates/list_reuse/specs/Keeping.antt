-- The lists of a build, kept while its particles move.
use Rattle.std.specs.Prelude.{◌≡◌, ℕ, ◌+◌, ◌≤◌, List, ◌∷◌, length, map, All, IsPermutation}
use Rattle.std.specs.List.{range_with_len}
use Rattle.pf_model.specs.declared.entry.Entry.{Entry}
use Rattle.pf_model.specs.Particle.{Particle, IsParticle}
use Rattle.pf_model.specs.Particles.{AreBodies, HaveSameIds}
use Rattle.pf_model.specs.Criterion.{Criterion}
use Rattle.pf_model.specs.Division.{Division, IsDivision, rank_count}
use Rattle.pf_model.specs.Domains.{particles_of, domain_box}
use Rattle.pf_model.specs.Group.{box_of}
use Rattle.pf_model.specs.EssentialTree.{essential_tree}
use Rattle.pf_model.specs.Reuse.{as_in, kept_list}
use Rattle.morton_tree.specs.Tree.{Octree}
use Rattle.morton_tree.specs.Spans.{at_span}
use Rattle.list_reuse.specs.Refreshing.{Renewal, present_items}
use Rattle.group_lists.specs.Whole.{GroupList}
use Rattle.group_lists.specs.Listing.{Listing, IsSource}

-- a build seen from one rank, and its particles as they are now
pub record Motion : Type 0 where
  pub theta : Criterion
  pub grid : Division
  pub particles : List Particle
  pub rank : ℕ
  pub now : List Particle

-- the same build at another time
abbrev pub at_time : Motion → List Particle → Motion
at_time m now = record m { now = now }

-- the particles keep their limits, and no particle comes or goes
pub record IsMotion (m : Motion) : Type 0 where
  pub are_bodies : AreBodies m.particles
  pub within_limits : All IsParticle m.particles
  pub division : IsDivision m.grid
  pub same_ids : HaveSameIds m.particles m.now

-- the rank and these others are all ranks, each once
abbrev pub AreOtherRanks : Motion → List ℕ → Type 0
AreOtherRanks m others = IsPermutation (m.rank ∷ others) (range_with_len 0 (rank_count m.grid))

-- what another rank sent this one at the build
abbrev pub sent_from : Motion → ℕ → List Entry
sent_from m src = essential_tree m.theta m.grid m.particles src m.rank

-- its values now
abbrev pub values_from : Motion → ℕ → List Entry
values_from m src =
    present_items m.theta (domain_box m.grid m.particles m.rank) (particles_of m.grid m.particles src) m.now (sent_from m src)

-- a group of the build with its list as it is now: the cells and members of the build, at their present positions
pub record IsKeptGroup (m : Motion) (built own : List Particle) (l : GroupList) : Type 0 where
  pub some : 1 ≤ l.span.len
  pub inside : l.span.first + l.span.len ≤ length built
  pub bodies : l.bodies ≡ at_span l.span own
  pub entries : l.entries ≡ kept_list m.theta (box_of (at_span l.span built)) m.particles m.now

-- the lists of a rank's groups, kept since the build
pub record AreKept (m : Motion) (lists : Listing) : Type 0 where
  pub motion : IsMotion m
  pub built : IsPermutation lists.built (particles_of m.grid m.particles m.rank)
  pub own : lists.own ≡ map (as_in m.now) lists.built
  pub groups : All (IsKeptGroup m lists.built lists.own) lists.groups
  pub ranks : AreOtherRanks m (map (λ s. s.src) lists.sources)
  pub sources : All (λ s. IsSource (sent_from m s.src) s.src s) lists.sources

-- the parcels of a step: one of every other rank, with the values of the items that it sent
pub record AreValues (m : Motion) (parcels : List Renewal) : Type 0 where
  pub ranks : AreOtherRanks m (map (λ r. r.src) parcels)
  pub values : All (λ r. r.values ≡ values_from m r.src) parcels

-- what renews kept lists: the octree of the build, with its bodies as they are now, and the parcels of the step
pub record IsRenewal (m : Motion) (tree : Octree) (parcels : List Renewal) : Type 0 where
  pub motion : IsMotion m
  pub own : tree.bodies ≡ map (as_in m.now) tree.built
  pub parcels_are : AreValues m parcels
