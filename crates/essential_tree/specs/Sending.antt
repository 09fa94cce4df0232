-- What a sender keeps of an essential tree: where the members of its items stand.
use Rattle.std.specs.Prelude.{◌≡◌, ◌+◌, ◌≤◌, List, [], ◌∷◌, length, map, All}
use Rattle.pf_geom.specs.Bounds.{Bounds}
use Rattle.pf_geom.specs.Octant.{Octant}
use Rattle.pf_model.specs.declared.entry.Entry.{Entry}
use Rattle.pf_model.specs.declared.entry.Entry.TheVariants.{Cell, One}
use Rattle.pf_model.specs.Particle.{Particle}
use Rattle.pf_model.specs.Criterion.{Criterion}
use Rattle.pf_model.specs.Interaction.{members_of}
use Rattle.morton_tree.specs.Spans.{at_span}
use Rattle.essential_tree.specs.declared.sent.Sent.{Sent}

-- the cells among entries, in their order
abbrev pub cells_among : List Entry → List Octant
cells_among [] = []
cells_among (Cell c m ∷ es) = c ∷ cells_among es
cells_among (One p ∷ es) = cells_among es

-- what is kept of the items of a box over the particles js: their cells, and for each item the span of its members
pub record IsSentOf (t : Criterion) (box : Bounds) (js : List Particle) (items : List Entry) (s : Sent) : Type 0 where
  pub cells : s.cells.items ≡ cells_among items
  pub inside : All (λ span. span.first + span.len ≤ length js) s.spans.items
  pub members : map (λ span. at_span span js) s.spans.items ≡ map (members_of t box js) items
