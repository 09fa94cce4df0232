-- Trees: particles in the order of the Morton curve, which may have moved since.
use Rattle.std.specs.Prelude.{◌≡◌, ℕ, List, map, IsTrue, AllPairs}
use Rattle.pf_geom.specs.Key.{morton_key}
use Rattle.pf_model.specs.Particle.{Particle}
use Rattle.pf_model.specs.Particles.{AreBodies}
use Rattle.pf_model.specs.Domains.{comes_first}
use Rattle.pf_model.specs.Totals.{Totals}
use Rattle.moments.specs.Prefix.{prefix_moments}

-- a tree as clauses see it: its particles as they were when it was built, and as they are now
pub record Octree : Type 0 where
  pub built : List Particle
  pub bodies : List Particle

-- each particle comes before all later ones in the order of (key, id)
abbrev pub IsInKeyOrder : List Particle → Type 0
IsInKeyOrder js = AllPairs (λ i j. IsTrue (comes_first morton_key i j)) js

-- what each tree keeps: it was built of few particles of distinct ids in key order, and has the same ids in the
-- same places now
pub record IsOctree (t : Octree) : Type 0 where
  pub are_bodies : AreBodies t.built
  pub ordered : IsInKeyOrder t.built
  pub same_ids : map (λ j. j.id) t.bodies ≡ map (λ j. j.id) t.built

-- no particle has moved since the build
abbrev pub IsUnmoved : Octree → Type 0
IsUnmoved t = t.bodies ≡ t.built

-- the tree of particles that stand where they were built
abbrev pub unmoved_tree : List Particle → Octree
unmoved_tree js = record { built = js; bodies = js }

-- what a tree has beside its particles: the keys that they had when it was built, and the moments of the first of
-- them as they are now, for each count
pub record IsTreeOf (t : Octree) (ks : List ℕ) (sums : List Totals) : Type 0 where
  pub tree : IsOctree t
  pub keys : ks ≡ map (λ j. morton_key j.at) t.built
  pub moments : sums ≡ prefix_moments t.bodies
