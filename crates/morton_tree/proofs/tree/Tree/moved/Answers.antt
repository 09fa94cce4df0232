use Rattle.std.proofs.Common.{List, length, sym, ◌∙◌, ap, arith}
use Rattle.std.proofs.lemmas.List.{length-map}
use Rattle.pf_model.specs.Totals.{Totals}
use Rattle.morton_tree.specs.Tree.{Octree}
use Rattle.morton_tree.proofs.TreeLemmas.{prefix_length}
use Rattle.morton_tree.proofs.tree.Tree.moved.Goals as goal

pub refill-requires : goal.refill-requires
refill-requires c =
    let long = ap (λ (ms : List Totals). length ms) c.self.invariant.moments ∙ prefix_length c.self.inside.bodies.items in
    let same = ap (λ (t : Octree). length t.bodies) c.self.view_is in
    let ids = sym (length-map c.args.now.now _) ∙ ap length c.requires ∙ length-map c.args.self.now.bodies _ in
    omega arith
