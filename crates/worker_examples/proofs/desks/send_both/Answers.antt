use Rattle.std.proofs.Common.{◌≡◌, length, All, sym, ◌∙◌, subst, arith}
use Rattle.worker_examples.specs.declared.desks.Desk.{Desk}
use Rattle.worker_examples.specs.Desks.{HasSent}
use Rattle.worker_examples.proofs.Lists.{refilled}
use Rattle.worker_examples.proofs.desks.send_both.Goals as goal

pub returns-clause-first : goal.returns-clause-first
returns-clause-first g c =
    let inboxes = c.args.inboxes.now in
    let new = c.send_all.new.desks in
    let long : length new ≡ c.in_ok-desks.desks.len = let a = c.send_all.auto in let b = c.deref_mut.ensures.len in omega arith in
    let both = sym (refilled c.in_ok-desks.desks.len new _ long) ∙ c.in-Some.ensures in
    let all = subst (All (λ (d : Desk g.row.M.Denot). HasSent g.M.Named.source g.M.Named.target g.M.Named.has_terms inboxes d.post)) both c.send_all.ensures in
    all 0 c.in-Some.pair.0 (omega arith)

pub returns-clause-second : goal.returns-clause-second
returns-clause-second g c =
    let inboxes = c.args.inboxes.now in
    let new = c.send_all.new.desks in
    let long : length new ≡ c.in_ok-desks.desks.len = let a = c.send_all.auto in let b = c.deref_mut.ensures.len in omega arith in
    let both = sym (refilled c.in_ok-desks.desks.len new _ long) ∙ c.in-Some.ensures in
    let all = subst (All (λ (d : Desk g.row.M.Denot). HasSent g.M.Named.source g.M.Named.target g.M.Named.has_terms inboxes d.post)) both c.send_all.ensures in
    all 1 c.in-Some.pair.1 (omega arith)
