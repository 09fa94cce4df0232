-- Where the members of entries stand among particles.
use Rattle.std.specs.Prelude.{◌≡◌, ◌+◌, ◌≤◌, List, length, map, All}
use Rattle.pf_geom.specs.Bounds.{Bounds}
use Rattle.pf_model.specs.declared.entry.Entry.{Entry}
use Rattle.pf_model.specs.Particle.{Particle}
use Rattle.pf_model.specs.Criterion.{Criterion}
use Rattle.pf_model.specs.Interaction.{members_of}
use Rattle.morton_tree.specs.declared.span.Span.{Span}
use Rattle.morton_tree.specs.Spans.{at_span}

-- these spans, in turn, are those of the members of each entry of a box over the particles js
pub record AreSpansOf (t : Criterion) (box : Bounds) (js : List Particle) (es : List Entry) (spans : List Span)
    : Type 0 where
  pub inside : All (λ span. span.first + span.len ≤ length js) spans
  pub members : map (λ span. at_span span js) spans ≡ map (members_of t box js) es
