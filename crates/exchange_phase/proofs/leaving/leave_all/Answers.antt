use Rattle.std.proofs.Common.{◌≡◌, map, sym, ◌∙◌, subst}
use Rattle.std.specs.List.{All}
use Rattle.std.proofs.lemmas.Result.{IfOk-weaker}
use Rattle.exchange.specs.States.{left_with}
use Rattle.exchange_phase.specs.Leaving.{CanLeave, HaveLeft, HaveSent, ArePartsOf}
use Rattle.exchange_phase.proofs.Leave.{can_leave, all_left, all_sent}
use Rattle.exchange_phase.proofs.leaving.leave_all.Goals as goal

pub leave_each-requires-clause-each : goal.leave_each-requires-clause-each
leave_each-requires-clause-each g c κs within =
    subst (All (CanLeave c.args.domains.now.cuts c.args.inboxes.now)) (sym c.in_ok-leavers.ensures)
    (can_leave c.args.domains.now.cuts c.args.inboxes.now c.args.states.items c.args.posts.items c.requires.ranks c.requires.posts c.requires.fresh c.requires.count)

pub returns-clause-left : goal.returns-clause-left
returns-clause-left g c =
    let s = c.args.domains.now.cuts in let hs = c.args.states.items in
    let have = subst (λ ls. HaveLeft s c.args.inboxes.now ls c.in_ok-after.after.items) c.in_ok-leavers.ensures c.in_ok-after.ensures in
    IfOk-weaker c.parted.result (λ r. ArePartsOf c.in_ok-after.after.items r.0.items r.1.items) (λ r. r.0.items ≡ map (left_with s) hs)
    (λ r parts. parts.states_are ∙ all_left s c.args.inboxes.now hs c.args.posts.items c.requires.ranks c.requires.posts c.requires.fresh c.in_ok-after.after.items have parts.found) c.parted.ensures

pub returns-clause-sent : goal.returns-clause-sent
returns-clause-sent g c =
    let s = c.args.domains.now.cuts in let hs = c.args.states.items in
    let have = subst (λ ls. HaveLeft s c.args.inboxes.now ls c.in_ok-after.after.items) c.in_ok-leavers.ensures c.in_ok-after.ensures in
    IfOk-weaker c.parted.result (λ r. ArePartsOf c.in_ok-after.after.items r.0.items r.1.items) (λ r. HaveSent s c.args.inboxes.now hs r.1.items)
    (λ r parts. subst (HaveSent s c.args.inboxes.now hs) (sym parts.posts_are) (all_sent s c.args.inboxes.now hs c.args.posts.items c.requires.ranks c.requires.posts c.requires.fresh c.in_ok-after.after.items have parts.found)) c.parted.ensures
