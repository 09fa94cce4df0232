use Rattle.std.proofs.Common.{length, sym, ◌∙◌, ap, subst}
use Rattle.tree_phase.specs.Exchange.{Waits, waiting}
use Rattle.tree_phase.specs.Trees.{EachByRank}
use Rattle.tree_phase.proofs.PhaseLemmas.{if_both, receivers_wait, gathers_over, arrivals_are}
use Rattle.tree_phase.proofs.ZipLemmas.{length_zipped}
use Rattle.tree_phase.proofs.phases.receive_all.Goals as goal

pub receive_each-requires-clause-counted : goal.receive_each-requires-clause-counted
receive_each-requires-clause-counted g c κs kept =
    ap length c.in_ok-receivers.ensures ∙ length_zipped (waiting {X = g.row.T.Denot}) c.args.posts.items c.args.tokens.items (c.requires.posts ∙ sym c.requires.tokens) ∙ c.requires.posts

pub receive_each-requires-clause-wait : goal.receive_each-requires-clause-wait
receive_each-requires-clause-wait g c κs kept =
    subst (EachByRank (Waits g.T.Terms.theta g.T.Terms.grid g.T.Terms.particles c.args.shared.now.inboxes.now)) (sym c.in_ok-receivers.ensures)
    (receivers_wait g.row.T.Denot g.T.Terms.theta g.T.Terms.grid g.T.Terms.particles c.args.shared.now.inboxes.now c.args.posts.items c.args.tokens.items (c.requires.posts ∙ sym c.requires.tokens) c.requires.settle)

pub returns-clause-gathers : goal.returns-clause-gathers
returns-clause-gathers g c =
    if_both c.all_received.result _ _ _
    (λ b p q. gathers_over g.row.T.Denot g.T.Terms.grid c.args.shared.now.trees.now c.in_ok-receivers-2.receivers.items b.0.items b.1.items
    c.requires.trees.counted c.in_ok-receivers-2.ensures.counted c.in_ok-receivers-2.ensures.each p q)
    c.all_received.ensures.received c.all_received.ensures.counted

pub returns-clause-arrivals : goal.returns-clause-arrivals
returns-clause-arrivals g c =
    if_both c.all_received.result _ _ _
    (λ b p q. arrivals_are g.row.T.Denot g.T.Terms.grid c.args.shared.now.trees.now c.in_ok-receivers-2.receivers.items b.0.items b.1.items
    c.requires.trees.counted c.in_ok-receivers-2.ensures.counted c.in_ok-receivers-2.ensures.each p q)
    c.all_received.ensures.received c.all_received.ensures.counted
