use Rattle.std.proofs.Common.{[], ◌∷◌, ◌++◌, sym, subst}
use Rattle.std.specs.List.{AllZip}
use Rattle.pf_model.specs.EssentialTree.{Essential}
use Rattle.group_lists.specs.declared.kept_source.KeptSource.{KeptSource}
use Rattle.group_lists.specs.Indexed.{IsKeptOf}
use Rattle.group_lists.proofs.PieceRunLemmas.{AllZip-push2}
use Rattle.group_lists.proofs.gather.kept_sources.Goals as goal

pub loop-tree-preserved : goal.loop-tree-preserved
loop-tree-preserved g c =
    let R : Essential → KeptSource → Type 0 = λ tree s. IsKeptOf g.T.Terms.theta g.T.Terms.grid g.T.Terms.particles tree s in
    subst (AllZip R (c.loop-tree.yielded ++ c.in-Some.tree ∷ [])) (sym c.in_ok-push.ensures.items)
    (AllZip-push2 R c.loop-tree.yielded c.loop-tree.sources.items c.in-Some.tree c.in_ok-kept.field-0 c.loop-tree.invariant c.in_ok-kept.ensures)
