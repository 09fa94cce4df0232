use Rattle.std.proofs.Common.{sym, subst}
use Rattle.tree_phase.specs.Trees.{AreTreesOf}
use Rattle.tree_phase.proofs.PhaseLemmas.{rank_trees, have_gathered}
use Rattle.tree_phase.proofs.phases.gather_all.Goals as goal

pub receive_all-requires-clause-trees : goal.receive_all-requires-clause-trees
receive_all-requires-clause-trees g c κs within =
    rank_trees g.T.Terms.grid g.T.Terms.particles g.T.Terms.are_bodies c.args.limit c.deref-3.result.now
    (subst (AreTreesOf c.args.limit g.T.Terms.grid g.T.Terms.particles) (sym c.deref-3.ensures.value) c.in_ok-posts.ensures.trees)

pub returns-clause-gathers : goal.returns-clause-gathers
returns-clause-gathers g c =
    let trees = subst (AreTreesOf c.args.limit g.T.Terms.grid g.T.Terms.particles) (sym c.deref-3.ensures.value) c.in_ok-posts.ensures.trees in
    have_gathered c.args.limit g.T.Terms.grid g.T.Terms.particles c.deref-3.result.now c.in_ok-gathers.gathers.items trees c.in_ok-gathers.ensures.gathers
