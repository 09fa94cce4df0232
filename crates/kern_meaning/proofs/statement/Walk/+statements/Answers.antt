use Rattle.std.proofs.Common.{arith, ap, sym, ◌∙◌, Ok, ◌+◌, drop, refl}
use Rattle.std.proofs.lemmas.Result.{err_from_is_err_and}
use Rattle.kern_meaning.specs.Links.{assigned}
use Rattle.kern_meaning.specs.Names.{known_at_start}
use Rattle.kern_meaning.specs.Pair.{at_statement}
use Rattle.kern_meaning.specs.Walks.{pair_state, assigned_by, assigned_in}
use Rattle.kern_types.proofs.Acts.{block_smaller, other_smaller}
use Rattle.kern_meaning.proofs.Meanings.{then_runs, then_stops, else_runs, if_counts, if_slots, if_assigned, places_first, places_rest, member_smaller, next_is, next_count, next_slots, block_stops, block_goes_on}
use Rattle.kern_meaning.proofs.LinkLemmas.{then_links, else_links, set_runs, own_links, later_links}
use Rattle.kern_meaning.proofs.statement.Walk.+statements.Goals as goal

pub act-block-requires : goal.act-block-requires
act-block-requires t c =
    let other = c.in-If.others in
    let counts = if_counts c.args.self.now.decls.now c.args.self.now.coincident c.args.act.now c.in-If.condition c.in-If.body other c.as_slice.result.now other c.in-If.is c.as_slice.ensures refl in
    let slots = if_slots c.args.self.now.decls.now c.args.self.now.coincident c.args.act.now c.in-If.condition c.in-If.body other c.as_slice.result.now other c.in-If.is c.as_slice.ensures refl in
    let names = if_assigned c.args.act.now c.in-If.condition c.in-If.body other c.as_slice.result.now other c.in-If.is c.as_slice.ensures refl in (
      omega (arith, c.decreases, block_smaller c.in-If.condition c.in-If.body other c.as_slice.result.now c.args.act.now c.in-If.is c.as_slice.ensures),
      (
        omega (arith, c.requires.numbers, counts),
        (
          omega (arith, c.requires.slots, slots),
          (
            places_first c.args.self.now.names.now c.args.values.now (assigned_by c.args.act.now) (assigned_in c.as_slice.result.now) (assigned_in other) names c.requires.places,
            c.split-blocks.ensures.first
                ∙ then_links c.args.self.now.names.now c.args.self.now.decls.now c.args.act.now c.in-If.condition c.in-If.body other c.as_slice.result.now other c.in-If.is c.as_slice.ensures refl c.args.links.now c.split-parts.result.1.now c.requires.links c.split-parts.ensures.others,
          ),
        ),
      ),
    )

pub act-block-requires-else-branch : goal.act-block-requires-else-branch
act-block-requires-else-branch t c =
    let body = c.as_slice-else-branch.result.now in
    let other = c.as_slice-else-branch-2.result.now in
    let counts = if_counts c.args.self.now.decls.now c.args.self.now.coincident c.args.act.now c.in-If.condition c.in-If.body c.in-If.others body other c.in-If.is c.as_slice-else-branch.ensures c.as_slice-else-branch-2.ensures in
    let slots = if_slots c.args.self.now.decls.now c.args.self.now.coincident c.args.act.now c.in-If.condition c.in-If.body c.in-If.others body other c.in-If.is c.as_slice-else-branch.ensures c.as_slice-else-branch-2.ensures in
    let names = if_assigned c.args.act.now c.in-If.condition c.in-If.body c.in-If.others body other c.in-If.is c.as_slice-else-branch.ensures c.as_slice-else-branch-2.ensures in (
      omega (arith, c.decreases, other_smaller c.in-If.condition c.in-If.body c.in-If.others other c.args.act.now c.in-If.is c.as_slice-else-branch-2.ensures),
      (
        omega (arith, c.requires.numbers, counts, c.past-start.ensures.number),
        (
          omega (arith, c.requires.slots, slots, c.past-start.ensures.slot),
          (
            places_rest c.args.self.now.names.now c.args.values.now (assigned_by c.args.act.now) (assigned_in body) (assigned_in other) names c.requires.places c.args.values.now refl,
            c.split-blocks.ensures.others
                ∙ else_links c.args.self.now.names.now c.args.self.now.decls.now c.args.act.now c.in-If.condition c.in-If.body c.in-If.others body other c.in-If.is c.as_slice-else-branch.ensures c.as_slice-else-branch-2.ensures c.args.links.now c.split-parts.result.1.now c.requires.links c.split-parts.ensures.others,
          ),
        ),
      ),
    )

pub act-returns-in_ok-end-in-If : goal.act-returns-in_ok-end-in-If
act-returns-in_ok-end-in-If t c =
    then_runs c.args.self.now.decls.now c.args.self.now.coincident c.args.act.now c.in-If.condition c.in-If.body c.in-If.others c.as_slice.result.now c.as_slice-then-branch.result.now c.in-If.is c.as_slice.ensures c.as_slice-then-branch.ensures c.args.number c.args.slot
    (pair_state (known_at_start c.args.self.now.decls.now c.args.self.now.i.now c.args.self.now.j.now) c.args.self.now.names.now c.args.values.now c.args.slots.now) (pair_state (known_at_start c.args.self.now.decls.now c.args.self.now.i.now c.args.self.now.j.now) c.args.self.now.names.now c.block.new.values c.block.new.slots) c.in_ok-end-in-If.end.0 c.in_ok-end-in-If.end.1 c.past.result.0 c.past.result.1
    (ap (at_statement c.args.self.now.coincident c.args.number) (sym c.truth_of-holds.ensures) ∙ sym c.in_ok-at_statement-in-If.ensures ∙ ap Ok c.if-branch.true)
    c.in_ok-end-in-If.ensures.0 c.in_ok-end-in-If.ensures.1 c.in_ok-end-in-If.ensures.2 c.past.ensures.number c.past.ensures.slot

pub act-returns-else-branch : goal.act-returns-else-branch
act-returns-else-branch t c =
    else_runs c.args.self.now.decls.now c.args.self.now.coincident c.args.act.now c.in-If.condition c.in-If.body c.in-If.others c.as_slice-else-branch.result.now c.as_slice-else-branch-2.result.now c.in-If.is c.as_slice-else-branch.ensures c.as_slice-else-branch-2.ensures c.args.number c.args.slot
    (pair_state (known_at_start c.args.self.now.decls.now c.args.self.now.i.now c.args.self.now.j.now) c.args.self.now.names.now c.args.values.now c.args.slots.now) (pair_state (known_at_start c.args.self.now.decls.now c.args.self.now.i.now c.args.self.now.j.now) c.args.self.now.names.now c.block-else-branch.new.values c.block-else-branch.new.slots) c.block-else-branch.result c.past-start.result.0 c.past-start.result.1
    (ap (at_statement c.args.self.now.coincident c.args.number) (sym c.truth_of-holds.ensures) ∙ sym c.in_ok-at_statement-in-If.ensures ∙ ap Ok c.if-branch.false)
    c.past-start.ensures.number c.past-start.ensures.slot c.block-else-branch.ensures

pub block-act-requires : goal.block-act-requires
block-act-requires t c =
    let is = next_is c.args.block.now c.loop-stmt.stmt-index c.stmt-item.result c.loop-stmt-test.true c.stmt-item.is in
    let rest = drop (c.loop-stmt.stmt-index + 1) c.args.block.now in (
      omega (arith, c.decreases, member_smaller c.args.block.now c.loop-stmt.stmt-index c.stmt-item.result c.loop-stmt-test.true c.stmt-item.is),
      (
        omega (arith, c.requires.numbers, c.loop-stmt.invariant.numbers, next_count c.args.self.now.decls.now c.args.self.now.coincident c.args.block.now c.loop-stmt.stmt-index c.stmt-item.result is),
        (
          omega (arith, c.requires.slots, c.loop-stmt.invariant.counts, next_slots c.args.self.now.decls.now c.args.self.now.coincident c.args.block.now c.loop-stmt.stmt-index c.stmt-item.result is),
          (
            places_first c.args.self.now.names.now c.loop-stmt.values (assigned_in (drop c.loop-stmt.stmt-index c.args.block.now)) (assigned_by c.stmt-item.result.act) (assigned_in rest) (ap assigned_in is) c.loop-stmt.invariant.places,
            c.split-parts.ensures.first ∙ own_links c.args.self.now.names.now c.args.self.now.decls.now c.args.block.now c.loop-stmt.stmt-index c.stmt-item.result is c.loop-stmt.rest.now c.loop-stmt.invariant.links,
          ),
        ),
      ),
    )

pub block-returns-in_err-next : goal.block-returns-in_err-next
block-returns-in_err-next t c =
    let is = next_is c.args.block.now c.loop-stmt.stmt-index c.stmt-item.result c.loop-stmt-test.true c.stmt-item.is in
    let fault = err_from_is_err_and c.from_residual.result c.from_residual.ensures.1 in
    rw (fault.1, fault.2)
    (block_stops c.args.self.now.decls.now c.args.self.now.coincident c.args.block.now c.loop-stmt.stmt-index c.stmt-item.result is c.loop-stmt.number c.loop-stmt.slot (pair_state (known_at_start c.args.self.now.decls.now c.args.self.now.i.now c.args.self.now.j.now) c.args.self.now.names.now c.loop-stmt.values c.loop-stmt.slots) _ c.loop-stmt.invariant.ran _ c.in_err-next.ensures)

pub block-loop-stmt-preserved : goal.block-loop-stmt-preserved
block-loop-stmt-preserved t c =
    let is = next_is c.args.block.now c.loop-stmt.stmt-index c.stmt-item.result c.loop-stmt-test.true c.stmt-item.is in
    let rest = drop (c.loop-stmt.stmt-index + 1) c.args.block.now in
    let count = next_count c.args.self.now.decls.now c.args.self.now.coincident c.args.block.now c.loop-stmt.stmt-index c.stmt-item.result is in
    let slots = next_slots c.args.self.now.decls.now c.args.self.now.coincident c.args.block.now c.loop-stmt.stmt-index c.stmt-item.result is in
    record {
      ran = block_goes_on c.args.self.now.decls.now c.args.self.now.coincident c.args.block.now c.loop-stmt.stmt-index c.stmt-item.result is c.loop-stmt.number c.loop-stmt.slot (pair_state (known_at_start c.args.self.now.decls.now c.args.self.now.i.now c.args.self.now.j.now) c.args.self.now.names.now c.loop-stmt.values c.loop-stmt.slots) _ c.loop-stmt.invariant.ran
          (pair_state (known_at_start c.args.self.now.decls.now c.args.self.now.i.now c.args.self.now.j.now) c.args.self.now.names.now c.act.new.values c.act.new.slots) c.in_ok-next.next.0 c.in_ok-next.next.1 c.in_ok-next.ensures.0 c.in_ok-next.ensures.1 c.in_ok-next.ensures.2;
      numbers = omega (arith, c.loop-stmt.invariant.numbers, count, c.in_ok-next.ensures.1);
      counts = omega (arith, c.loop-stmt.invariant.counts, slots, c.in_ok-next.ensures.2);
      places = places_rest c.args.self.now.names.now c.loop-stmt.values (assigned_in (drop c.loop-stmt.stmt-index c.args.block.now)) (assigned_by c.stmt-item.result.act) (assigned_in rest) (ap assigned_in is) c.loop-stmt.invariant.places c.act.new.values (omega (arith, c.act.auto.values));
      links = c.split-parts.ensures.others ∙ later_links c.args.self.now.names.now c.args.self.now.decls.now c.args.block.now c.loop-stmt.stmt-index c.stmt-item.result is c.loop-stmt.rest.now c.loop-stmt.invariant.links;
    }

pub act-returns-in_ok-hold-in-Set : goal.act-returns-in_ok-hold-in-Set
act-returns-in_ok-hold-in-Set t c =
    set_runs c.args.self.now.names.now c.args.self.now.decls.now c.args.act.now c.args.self.now.coincident (known_at_start c.args.self.now.decls.now c.args.self.now.i.now c.args.self.now.j.now) c.in-Set.field-0 c.in-Set.value c.in-Set.is c.args.links.now c.requires.links c.args.number c.args.slot
    c.args.values.now c.assign.new.values c.args.slots.now c.requires.places c.hold.new.held c.in_ok-hold-in-Set.ensures
    (c.assign.ensures ∙ ap (λ k. assigned c.args.values.now k c.hold.new.held) c.assigned_number.ensures)

pub act-past-requires-clause-numbers : goal.act-past-requires-clause-numbers
act-past-requires-clause-numbers t c =
    omega (arith, c.requires.numbers, c.in_ok-end-in-If.ensures.1, if_counts c.args.self.now.decls.now c.args.self.now.coincident c.args.act.now c.in-If.condition c.in-If.body c.in-If.others c.as_slice.result.now c.as_slice-then-branch.result.now c.in-If.is c.as_slice.ensures c.as_slice-then-branch.ensures)

pub act-past-requires-clause-slots : goal.act-past-requires-clause-slots
act-past-requires-clause-slots t c =
    omega (arith, c.requires.slots, c.in_ok-end-in-If.ensures.2, if_slots c.args.self.now.decls.now c.args.self.now.coincident c.args.act.now c.in-If.condition c.in-If.body c.in-If.others c.as_slice.result.now c.as_slice-then-branch.result.now c.in-If.is c.as_slice.ensures c.as_slice-then-branch.ensures)

pub act-past-start-requires-clause-numbers : goal.act-past-start-requires-clause-numbers
act-past-start-requires-clause-numbers t c =
    omega (arith, c.requires.numbers, if_counts c.args.self.now.decls.now c.args.self.now.coincident c.args.act.now c.in-If.condition c.in-If.body c.in-If.others c.as_slice-else-branch.result.now c.in-If.others c.in-If.is c.as_slice-else-branch.ensures refl)

pub act-past-start-requires-clause-slots : goal.act-past-start-requires-clause-slots
act-past-start-requires-clause-slots t c =
    omega (arith, c.requires.slots, if_slots c.args.self.now.decls.now c.args.self.now.coincident c.args.act.now c.in-If.condition c.in-If.body c.in-If.others c.as_slice-else-branch.result.now c.in-If.others c.in-If.is c.as_slice-else-branch.ensures refl)

pub act-returns-in_err-end-in-If : goal.act-returns-in_err-end-in-If
act-returns-in_err-end-in-If t c =
    let fault = err_from_is_err_and c.from_residual-in_err-end-in-If.result c.from_residual-in_err-end-in-If.ensures.1 in
    rw (fault.1, fault.2)
    (then_stops c.args.self.now.decls.now c.args.self.now.coincident c.args.act.now c.in-If.condition c.in-If.body c.in-If.others c.as_slice.result.now c.in-If.others c.in-If.is c.as_slice.ensures refl c.args.number c.args.slot
    (pair_state (known_at_start c.args.self.now.decls.now c.args.self.now.i.now c.args.self.now.j.now) c.args.self.now.names.now c.args.values.now c.args.slots.now) (pair_state (known_at_start c.args.self.now.decls.now c.args.self.now.i.now c.args.self.now.j.now) c.args.self.now.names.now c.block.new.values c.block.new.slots) _
    (ap (at_statement c.args.self.now.coincident c.args.number) (sym c.truth_of-holds.ensures) ∙ sym c.in_ok-at_statement-in-If.ensures ∙ ap Ok c.if-branch.true)
    c.in_err-end-in-If.ensures)
