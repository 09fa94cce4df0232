use Rattle.std.proofs.Common.{ℕ, ◌+◌, ◌<◌, ◌≤◌, length}
use Rattle.pf_geom.specs.Octant.{cell_at}
use Rattle.pf_model.specs.Group.{particles_in}
use Rattle.morton_tree.specs.Spans.{span_of, IsWithin}
use Rattle.morton_tree.proofs.tree.Tree.group_cell.Given as goal

abbrev pub invariant-loop-level : goal.invariant-loop-level
invariant-loop-level l = record {
  many : (lower : ℕ) → lower < l.level → l.limit < length (particles_in (cell_at l.fn.p lower) l.self.built);
  within : IsWithin (span_of (cell_at l.fn.p l.level) l.self.built) l.span;
  inside : l.span.first + l.span.len ≤ length l.self.built;
}
