use Rattle.std.proofs.Common.{◌≡◌, Some, map, sym, subst}
use Rattle.std.specs.Prelude.{IfSome}
use Rattle.std.specs.List.{All, zip}
use Rattle.std.proofs.lemmas.Result.{IfOk-weaker}
use Rattle.exchange_phase.specs.Arriving.{due_of, CanSettle, AreSettledFrom}
use Rattle.exchange_phase.proofs.Settle.{each_can_settle, all_settled}
use Rattle.exchange_phase.proofs.arriving.settle_all.Goals as goal

pub settle_each-requires-clause-each : goal.settle_each-requires-clause-each
settle_each-requires-clause-each g c κs within =
    subst (All (λ a. IfSome a.due (CanSettle c.args.inboxes.now))) (sym c.in_ok-arrivers.ensures)
    (each_can_settle (zip (zip c.args.states.items c.args.posts.items) c.args.tokens.items) c.args.inboxes.now c.requires.each)

pub returns : goal.returns
returns g c =
    let ts = zip (zip c.args.states.items c.args.posts.items) c.args.tokens.items in
    IfOk-weaker c.arrived.result (λ after. map (λ a. a.after) c.in_ok-after.after.items ≡ map Some after.items) (λ after. AreSettledFrom (map due_of ts) after.items)
    (λ after same. all_settled ts c.in_ok-arrivers.arrivers.items c.in_ok-after.after.items after.items c.in_ok-arrivers.ensures c.in_ok-after.ensures same) c.arrived.ensures
