use Rattle.std.proofs.Common.{◌≡◌, ◌<◌, ◌*◌, ◌^◌, ℕ, true, OnOk, length, subst}
use Rattle.std.specs.Option.{is_some}
use Rattle.lane_machine.specs.Columns.{start_of}
use Rattle.lane_machine.specs.Contributions.{contributions_at, outcome_at}
use Rattle.lane_machine.specs.Gathered.{AddsLanes}
use Rattle.lane_machine.specs.Machine.{code_of}
use Rattle.lane_machine.proofs.BlockLemmas.{on_ok_map, on_ok_three}
use Rattle.lane_machine.proofs.RunLemmas.{all_fine, items_added}
use Rattle.lane_machine.proofs.machine.Machine.run.Goals as goal

pub returns-clause-fine : goal.returns-clause-fine
returns-clause-fine c =
    let raw = code_of c.args.self.now in
    let i = c.args.i.now in
    let items = c.args.items.now in
    on_ok_map c.run.result (all_fine raw i items)
    (subst (λ steps. OnOk c.run.result ((n : ℕ) → n < length items → is_some (outcome_at i items steps (start_of raw.numbers raw.masks) n) ≡ true))
    c.deref.ensures.value c.run.ensures.fine)

pub returns-clause-added : goal.returns-clause-added
returns-clause-added c =
    let raw = code_of c.args.self.now in
    let i = c.args.i.now in
    let items = c.args.items.now in
    let old = c.args.sums.now in
    let new = c.run.new.self in
    on_ok_three c.run.result (λ fine count adds. items_added raw i items old new (length items * 2 ^ 38) fine c.run.ensures.slots count adds)
    (subst (λ steps. OnOk c.run.result ((n : ℕ) → n < length items → is_some (outcome_at i items steps (start_of raw.numbers raw.masks) n) ≡ true))
    c.deref.ensures.value c.run.ensures.fine)
    c.run.ensures.items
    (subst (λ steps. OnOk c.run.result (AddsLanes old.slots (contributions_at i items steps (start_of raw.numbers raw.masks)) (length items) (length items * 2 ^ 38) old.totals new.totals))
    c.deref.ensures.value c.run.ensures.added)
