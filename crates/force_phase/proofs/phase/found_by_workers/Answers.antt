use Rattle.std.proofs.Common.{◌≡◌, ◌++◌, List, length, take, drop, ap, sym, subst, ◌∙◌, arith, flat_map}
use Rattle.std.specs.List.{All}
use Rattle.force_phase.specs.declared.worker.Worker.{Worker}
use Rattle.force_phase.specs.Working.{HasFinished}
use Rattle.force_phase.proofs.UnderWay.{written_back}
use Rattle.force_phase.proofs.phase.found_by_workers.Goals as goal

pub returns-clause-found : goal.returns-clause-found
returns-clause-found g c =
    let groups = flat_map g.H.HasLists.has c.args.lists.now in
    let own = c.in_ok-workers.workers in
    let new = c.work_in_threads.new.workers in
    let long : length new ≡ length own.items = c.work_in_threads.auto.workers ∙ ap length c.deref_mut.ensures.value in
    let back : take own.len (new ++ drop (length new) own.items) ≡ new = written_back new own.items own.len (omega (arith, long, own.ok.0)) (omega (arith, own.ok.0)) in
    let P : List Worker → Type 0 = All (λ w. HasFinished c.args.edge c.args.t.now groups w.share) in
    c.taken_together.ensures.found c.args.edge c.args.t.now groups (subst P (sym back) c.work_in_threads.ensures.finished)
