-- The groups of a tree's particles, which are those of one rank.
use Rattle.std.specs.Prelude.{◌≡◌, ℕ, ◌+◌, ◌≤◌, List, length, map, Contains}
use Rattle.pf_geom.specs.Octant.{Octant}
use Rattle.pf_model.specs.Particle.{Particle}
use Rattle.pf_model.specs.Group.{particles_in, group_cell, group_of, box_of, group_cells}
use Rattle.morton_tree.specs.declared.group.Group.{Group}
use Rattle.morton_tree.specs.Spans.{at_span, span_of}

-- the group of a cell
abbrev pub group_in : List Particle → Octant → Group
group_in js c = record { cell = c; span = span_of c js; around = box_of (particles_in c js) }

-- the groups in the order of their numbers, which is that of the corners of their cells
abbrev pub groups_of : ℕ → List Particle → List Group
groups_of limit js = map (group_in js) (group_cells limit js)

-- what each group is: its span holds the group of each of its particles, its cell is theirs, and its box
-- the least round them
pub record IsGroup (limit : ℕ) (js : List Particle) (g : Group) : Type 0 where
  pub some : 1 ≤ g.span.len
  pub inside : g.span.first + g.span.len ≤ length js
  pub members : (i : Particle) → Contains (at_span g.span js) i → at_span g.span js ≡ group_of limit js i
  pub cell : (i : Particle) → Contains (at_span g.span js) i → g.cell ≡ group_cell limit js i.at
  pub around : g.around ≡ box_of (at_span g.span js)
