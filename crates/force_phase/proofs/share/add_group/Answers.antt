use Rattle.std.proofs.Common.{ap, ◌∙◌}
use Rattle.force_phase.specs.Found.{with_rows}
use Rattle.force_phase.proofs.FoundLemmas.{part_at, found_done, found_fault}
use Rattle.force_phase.proofs.share.add_group.Goals as goal

pub returns-in_ok-add_rows-in-Done-clause-found : goal.returns-in_ok-add_rows-in-Done-clause-found
returns-in_ok-add_rows-in-Done-clause-found c = λ g before is now.
    let bodies = part_at (λ l. l.bodies) c.args.lists.now.groups c.args.group g c.group.result.now is c.group.ensures in
    let rows = c.evaluate.new.out.rows.items in
    found_done c.args.work.now.edge c.args.t.now before c.args.found.now now g rows (c.in-Done.ensures.outcome g is) c.add_rows.new.self
    (c.in_ok-add_rows-in-Done.ensures ∙ ap (λ b. with_rows c.args.found.now b rows) bodies)

pub returns-in-Fault-clause-found : goal.returns-in-Fault-clause-found
returns-in-Fault-clause-found c = λ g before is now.
    found_fault c.args.work.now.edge c.args.t.now before c.args.found.now now g c.in-Fault.fault (c.in-Fault.ensures.outcome g is) c.add_fault.new.self c.add_fault.ensures
