use Rattle.std.proofs.Common.{List, get_or, length, sym, ◌∙◌, ap, subst, arith}
use Rattle.std.proofs.lemmas.List.{length-map, get_or-map}
use Rattle.all_to_all.specs.declared.post.Post.{Post}
use Rattle.essential_tree.specs.declared.tree_parcel.TreeParcel.{TreeParcel}
use Rattle.tree_phase.specs.declared.growing.Grower.{Grower}
use Rattle.tree_phase.specs.Exchange.{IsFresh}
use Rattle.tree_phase.proofs.PhaseLemmas.{if_both, grown_posts_counted, grown_sent, grown_trees, grown_kept}
use Rattle.tree_phase.proofs.phases.grow_all.Goals as goal

pub grow_each-requires-clause-counted : goal.grow_each-requires-clause-counted
grow_each-requires-clause-counted g c κs kept =
    sym (length-map c.in_ok-growers.growers.items (λ (x : Grower g.row.T.Denot). x.post)) ∙ ap length c.in_ok-growers.ensures ∙ c.requires.counted

pub grow_each-requires-clause-fresh : goal.grow_each-requires-clause-fresh
grow_each-requires-clause-fresh g c κs kept rank x within =
    let growers = c.in_ok-growers.growers.items in
    let post = λ (y : Grower g.row.T.Denot). y.post in
    let long = length-map growers post in
    let same = ap length c.in_ok-growers.ensures in
    subst (IsFresh g.T.Terms.theta g.T.Terms.grid g.T.Terms.particles c.args.shared.now.inboxes.now rank)
    (ap (λ (l : List (Post (TreeParcel g.row.T.Denot))). get_or l rank (post x)) (sym c.in_ok-growers.ensures) ∙ get_or-map post growers rank x (post x) within)
    (c.requires.fresh rank (post x) (omega arith))

pub returns-clause-posts : goal.returns-clause-posts
returns-clause-posts g c =
    if_both c.grown.result _ _ _
    (λ b p q. grown_posts_counted g.row.T.Denot g.T.Terms.theta g.T.Terms.grid g.T.Terms.particles c.args.shared.now.limit c.args.shared.now.inboxes.now c.in_ok-growers-2.growers.items b.0.items b.1.items
    c.in_ok-growers-2.ensures.counted c.in_ok-growers-2.ensures.each p q)
    c.grown.ensures.posts c.grown.ensures.trees

pub returns-clause-sent : goal.returns-clause-sent
returns-clause-sent g c =
    if_both c.grown.result _ _ _
    (λ b p q. grown_sent g.row.T.Denot g.T.Terms.theta g.T.Terms.grid g.T.Terms.particles c.args.shared.now.limit c.args.shared.now.inboxes.now c.in_ok-growers-2.growers.items b.0.items b.1.items
    c.in_ok-growers-2.ensures.counted c.in_ok-growers-2.ensures.each p q)
    c.grown.ensures.posts c.grown.ensures.trees

pub returns-clause-trees : goal.returns-clause-trees
returns-clause-trees g c =
    if_both c.grown.result _ _ _
    (λ b p q. grown_trees g.row.T.Denot g.T.Terms.theta g.T.Terms.grid g.T.Terms.particles c.args.shared.now.limit c.args.shared.now.inboxes.now c.in_ok-growers-2.growers.items b.0.items b.1.items
    c.in_ok-growers-2.ensures.counted c.in_ok-growers-2.ensures.each p q)
    c.grown.ensures.posts c.grown.ensures.trees

pub returns-clause-kept : goal.returns-clause-kept
returns-clause-kept g c =
    if_both c.grown.result _ _ _
    (λ b p q. grown_kept g.row.T.Denot g.T.Terms.theta g.T.Terms.grid g.T.Terms.particles c.args.shared.now.limit c.args.shared.now.inboxes.now c.in_ok-growers-2.growers.items b.0.items b.1.items
    c.in_ok-growers-2.ensures.counted c.in_ok-growers-2.ensures.each p q)
    c.grown.ensures.posts c.grown.ensures.trees
