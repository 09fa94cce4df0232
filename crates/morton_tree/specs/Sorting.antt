-- What is sorted in place of particles: their keys and ids, with their places.
use Rattle.std.specs.Prelude.{ℕ, Bool, List, [], length, map, slice_index_or}
use Rattle.std.specs.List.{range_with_len}
use Rattle.std.specs.Ordering.{nat_cmp, ordering_then, is_lt}
use Rattle.pf_geom.specs.Key.{morton_key}
use Rattle.pf_model.specs.Particle.{Particle}
use Rattle.morton_tree.specs.declared.placed.Placed.{Placed}

abbrev pub nobody : Particle
nobody = record { id = 0; at = record { x = 0; y = 0; z = 0 }; vel = []; mass = 0; attr = [] }

-- the particle at a place of a list
abbrev pub particle_at : List Particle → Placed → Particle
particle_at js p = slice_index_or js p.place nobody

-- what is sorted in place of the particle at place k
abbrev pub placed_at : List Particle → ℕ → Placed
placed_at js k = let j = slice_index_or js k nobody in record { key = morton_key j.at; id = j.id; place = k }

-- and in place of them all
abbrev pub all_placed : List Particle → List Placed
all_placed js = map (placed_at js) (range_with_len 0 (length js))

-- the one is less in the order of (key, id)
abbrev pub is_before : Placed → Placed → Bool
is_before p q = is_lt (ordering_then (nat_cmp p.key q.key) (nat_cmp p.id q.id))
