use Rattle.std.proofs.Common.{◌+◌, ◌*◌, ◌≤◌, length, map, take}
use Rattle.std.specs.List.{sum_by}
use Rattle.group_lists.specs.Gathering.{gathering_of, with_source, partial_list, source_list}
use Rattle.group_lists.proofs.AbsorbLemmas.{AreGrown}
use Rattle.group_lists.proofs.absorbing.absorb_tree.Given as goal

abbrev pub invariant-loop-one : goal.invariant-loop-one
invariant-loop-one g l =
    let t = g.T.Terms.theta in
    let grid = g.T.Terms.grid in
    let js = g.T.Terms.particles in
    let groups = map (λ l. l.group) l.initial.listed in
    let gather = gathering_of l.tree.dst l.bodies groups l.trees in
    record {
      grown : AreGrown (partial_list t grid js gather) (partial_list t grid js (with_source gather l.tree.src)) groups l.before l.one-index l.listed l.count;
      tests : l.steps ≤ l.initial.steps + 31 * sum_by (λ group. length (source_list t grid js l.tree.src group)) (take l.one-index groups);
    }
