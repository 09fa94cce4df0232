use Rattle.std.proofs.Common.{◌≡◌, length, flat_map, Result, Ok, Err, IfErr, sym, subst}
use Rattle.std.specs.Result.{IsErr, IsErrAnd}
use Rattle.run_model.specs.declared.fault.PhaseFault.{PhaseFault}
use Rattle.force_phase.specs.Claims.{groups_claimed}
use Rattle.force_phase.specs.Phase.{StopsPhase}
use Rattle.force_phase.specs.Working.{groups_at}
use Rattle.force_phase.proofs.AnyOrder.{are_found, same_rows, same_none, same_fault}
use Rattle.force_phase.proofs.FoundLemmas.{distinct_rows, no_fault_found, stop_found}
use Rattle.force_phase.proofs.phase.forces.Goals as goal

pub answer-requires : goal.answer-requires
answer-requires g c =
    let groups = flat_map g.H.HasLists.has c.args.lists.now in
    let numbers = groups_claimed c.in_ok-found.claims.items in
    let once = c.numbers_once_stand_in_some_order.ensures (length groups) numbers c.in_ok-found.ensures.claims.once in
    distinct_rows c.args.edge c.args.t.now (groups_at groups numbers) c.in_ok-found.found c.in_ok-found.ensures.found
    (are_found c.args.edge c.args.t.now groups numbers once c.parts_keep_permutations.ensures c.distinct_ids_ignore_order.ensures c.requires.particles)

pub returns-clause-rows : goal.returns-clause-rows
returns-clause-rows g c =
    let groups = flat_map g.H.HasLists.has c.args.lists.now in
    let numbers = groups_claimed c.in_ok-found.claims.items in
    let once = c.numbers_once_stand_in_some_order.ensures (length groups) numbers c.in_ok-found.ensures.claims.once in
    same_rows c.args.edge c.args.t.now groups numbers once c.parts_keep_permutations-2.ensures c.lists_in_order_are_one.ensures c.in_ok-found.found.rows _ (c.in_ok-found.ensures.found.rows c.in_ok-answer.ensures.none) c.in_ok-answer.ensures.rows

stop_passed : {X : Type 0} (P : PhaseFault → Type 0) (r : Result X PhaseFault) (fault : PhaseFault) → IsErr r × IsErrAnd r (λ f. f ≡ fault) → P fault → IfErr r P
stop_passed P (Ok x) fault is stops = let failed = is.0 in absurd (cc)
stop_passed P (Err f) fault is stops = subst P (sym is.1) stops

pub returns-in_err-answer-clause-fault : goal.returns-in_err-answer-clause-fault
returns-in_err-answer-clause-fault g c =
    let groups = flat_map g.H.HasLists.has c.args.lists.now in
    let numbers = groups_claimed c.in_ok-found.claims.items in
    let once = c.numbers_once_stand_in_some_order.ensures (length groups) numbers c.in_ok-found.ensures.claims.once in
    let fault = c.in_err-answer.field-0.0 in
    stop_passed (StopsPhase c.args.edge c.args.t.now groups) c.from_residual-in_err-answer.result fault c.from_residual-in_err-answer.ensures
    (same_fault c.args.edge c.args.t.now groups numbers once c.parts_keep_permutations-3.ensures fault
    (stop_found c.args.edge c.args.t.now (groups_at groups numbers) c.in_ok-found.found c.in_ok-found.ensures.found fault c.in_err-answer.ensures.fault))

pub returns-clause-no_fault : goal.returns-clause-no_fault
returns-clause-no_fault g c =
    let groups = flat_map g.H.HasLists.has c.args.lists.now in
    let numbers = groups_claimed c.in_ok-found.claims.items in
    let once = c.numbers_once_stand_in_some_order.ensures (length groups) numbers c.in_ok-found.ensures.claims.once in
    same_none c.args.edge c.args.t.now groups numbers once c.parts_keep_permutations-3.ensures
    (no_fault_found c.args.edge c.args.t.now (groups_at groups numbers) c.in_ok-found.found c.in_ok-found.ensures.found c.in_ok-found.found.least c.in_ok-found.ensures.found.least c.in_ok-answer.ensures.none)
