use Rattle.std.proofs.Common.{List, sym, ◌∙◌, ap, subst}
use Rattle.pf_geom.specs.Bounds.{Bounds}
use Rattle.pf_model.specs.declared.entry.Entry.{Entry}
use Rattle.pf_model.specs.Criterion.{Criterion}
use Rattle.pf_model.specs.Domains.{domain_box}
use Rattle.pf_model.specs.Interaction.{list_of}
use Rattle.pf_model.specs.EssentialTree.{Essential}
use Rattle.multisection.specs.Regions.{IsTarget}
use Rattle.essential_tree.specs.Sending.{IsSentOf}
use Rattle.essential_tree.proofs.TreeLemmas.{tree_of_list, tree_of_none}
use Rattle.essential_tree.proofs.sending.essential.Goals as goal

pub tree_of-requires : goal.tree_of-requires
tree_of-requires g c =
    let terms = g.T.Terms in
    let own = c.args.tree.now.built in
    let target = subst (IsTarget terms.grid terms.particles c.args.dst) c.in-Some.is c.requires.target in
    c.in_ok-items-in-Some.ensures.items ∙ ap (λ (t : Criterion). list_of t c.in-Some.b own) c.requires.theta ∙ ap (λ (box : Bounds). list_of terms.theta box own) target.0
    ∙ tree_of_list c.lists_ignore_order.ensures terms.theta terms.grid terms.particles own c.args.src c.args.dst c.list_for.ensures.tree.are_bodies.distinct c.requires.own target.1

pub tree_of-requires-in-None : goal.tree_of-requires-in-None
tree_of-requires-in-None g c =
    let terms = g.T.Terms in
    let target = subst (IsTarget terms.grid terms.particles c.args.dst) c.in-None.is c.requires.target in
    c.new.ensures.items ∙ tree_of_none terms.theta terms.grid terms.particles c.args.src c.args.dst target

pub returns-in-None-clause-sent : goal.returns-in-None-clause-sent
returns-in-None-clause-sent g c =
    let terms = g.T.Terms in
    let box = domain_box terms.grid terms.particles c.args.dst in
    let own = c.args.tree.now.built in
    let nothing = ap (λ (e : Essential). e.items) c.tree_of-in-None.ensures ∙ c.new.ensures.items in
    subst (λ (es : List Entry). IsSentOf terms.theta box own es c.nothing_sent.result) (sym nothing) (c.nothing_sent.ensures.nothing terms.theta box own)
