use Rattle.std.proofs.Common.{[], ◌∷◌, All, subst}
use Rattle.std.proofs.lemmas.List.Elements.{All-head, All-tail}
use Rattle.all_to_all.specs.Posts.{IsPostOf}
use Rattle.worker_examples.proofs.desks.open_two.Goals as goal

pub returns-clause-first : goal.returns-clause-first
returns-clause-first g c =
    let inboxes = c.in_ok-inboxes.inboxes.items in
    All-head (IsPostOf g.M.Named.source g.M.Named.target g.M.Named.has_terms inboxes) c.in-Some.first (c.in-Some.second ∷ [])
    (subst (All (IsPostOf g.M.Named.source g.M.Named.target g.M.Named.has_terms inboxes)) c.in-Some.ensures c.in_ok-inboxes.ensures.of_inboxes.each)

pub returns-clause-second : goal.returns-clause-second
returns-clause-second g c =
    let inboxes = c.in_ok-inboxes.inboxes.items in
    All-head (IsPostOf g.M.Named.source g.M.Named.target g.M.Named.has_terms inboxes) c.in-Some.second []
    (All-tail (IsPostOf g.M.Named.source g.M.Named.target g.M.Named.has_terms inboxes) c.in-Some.first (c.in-Some.second ∷ [])
    (subst (All (IsPostOf g.M.Named.source g.M.Named.target g.M.Named.has_terms inboxes)) c.in-Some.ensures c.in_ok-inboxes.ensures.of_inboxes.each))
