use Rattle.std.proofs.Common.{List, length, ◌∙◌, ap, arith}
use Rattle.pf_model.specs.Totals.{Totals}
use Rattle.morton_tree.specs.Tree.{Octree}
use Rattle.pf_model.specs.Sums.{moment_of}
use Rattle.morton_tree.specs.Spans.{at_span}
use Rattle.morton_tree.proofs.TreeLemmas.{prefix_length}
use Rattle.morton_tree.proofs.tree.Tree.moment.Goals as goal

pub range-requires : goal.range-requires
range-requires c =
    let long = ap (λ (ms : List Totals). length ms) c.self.invariant.moments ∙ prefix_length c.self.inside.bodies.items in
    let same = ap (λ (t : Octree). length t.bodies) c.self.view_is in
    let inside = c.requires in
    omega arith

pub returns : goal.returns
returns c =
    c.range.ensures.bodies c.self.inside.bodies.items c.self.invariant.moments ∙ ap (λ (t : Octree). moment_of (at_span c.args.s t.bodies)) c.self.view_is
