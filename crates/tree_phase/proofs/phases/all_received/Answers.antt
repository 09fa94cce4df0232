use Rattle.std.proofs.Common.{◌≡◌, [], ◌∷◌, ◌++◌, length, map, sym, ◌∙◌, ap, arith}
use Rattle.std.specs.List.{zip}
use Rattle.std.proofs.lemmas.List.{map-append, length_push}
use Rattle.tree_phase.specs.Exchange.{received}
use Rattle.tree_phase.proofs.ZipLemmas.{zip_push}
use Rattle.tree_phase.proofs.phases.all_received.Goals as goal

pub loop-receiver-preserved : goal.loop-receiver-preserved
loop-receiver-preserved g c =
    let gathers = c.loop-receiver.gathers.items in
    let arrivals = c.loop-receiver.arrivals.items in
    let gather = c.in-Received.gather in
    let arrival = c.in-Received.arrival in
    let p = c.in_ok-push.ensures.items in
    let q = c.in_ok-push-2.ensures.items in
    let before = c.loop-receiver.invariant in
    let more = length_push gathers gather in
    let more_too = length_push arrivals arrival in (
      ap (map (received {X = g.row.T.Denot})) (λ i. zip (p i) (q i))
          ∙ ap (map (received {X = g.row.T.Denot})) (zip_push gathers arrivals gather arrival before.1)
          ∙ map-append (received {X = g.row.T.Denot}) (zip gathers arrivals) ((gather, arrival) ∷ [])
          ∙ (λ i. before.0 i ++ sym c.in-Received.is i ∷ []),
      ap length p ∙ (let e : length (gathers ++ gather ∷ []) ≡ length (arrivals ++ arrival ∷ []) = (let same = before.1 in omega arith) in e) ∙ sym (ap length q),
    )
