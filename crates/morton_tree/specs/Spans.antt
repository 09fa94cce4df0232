-- Spans: runs of places in the list of a tree's particles.
use Rattle.std.specs.Prelude.{◌≡◌, ℕ, ◌+◌, ◌*◌, ◌≤◌, List, [], ◌∷◌, length, map, take, drop, count_by, nat_lt}
use Rattle.std.specs.List.{range_with_len}
use Rattle.pf_geom.specs.Octant.{Octant, cell_at}
use Rattle.pf_model.specs.Particle.{Particle}
use Rattle.pf_model.specs.Group.{particles_in}
use Rattle.morton_tree.specs.declared.span.Span.{Span}

-- the particles of a span
abbrev pub at_span : Span → List Particle → List Particle
at_span s js = take s.len (drop s.first js)

-- the span of a cell's particles: it stands after the particles in the cells of that level with lower keys,
-- also where the cell has none
abbrev pub span_of : Octant → List Particle → Span
span_of c js = record {
  first = count_by (λ j. nat_lt (cell_at j.at c.level).key c.key) js;
  len = length (particles_in c js);
}

-- child k of a cell, counted from 0 in the order of keys
abbrev pub child_of : Octant → ℕ → Octant
child_of c k = record { level = c.level + 1; key = 8 * c.key + k }

-- the spans of the eight children of a cell
abbrev pub child_spans : Octant → List Particle → List Span
child_spans c js = map (λ k. span_of (child_of c k) js) (range_with_len 0 8)

-- the spans follow one another from the place `start` to the place `end`
abbrev pub FollowOneAnother : ℕ → ℕ → List Span → Type 0
FollowOneAnother start end [] = start ≡ end
FollowOneAnother start end (s ∷ spans) = (s.first ≡ start) × FollowOneAnother (start + s.len) end spans

-- how many of these keys are below a key
abbrev pub count_below : ℕ → List ℕ → ℕ
count_below key keys = count_by (λ k. nat_lt k key) keys

-- the span lies within another
pub record IsWithin (s above : Span) : Type 0 where
  pub start : above.first ≤ s.first
  pub end : s.first + s.len ≤ above.first + above.len
