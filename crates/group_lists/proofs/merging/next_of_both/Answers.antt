use Rattle.std.proofs.Common.{◌+◌, sym, ◌∙◌, subst, arith}
use Rattle.pf_model.specs.declared.entry.Entry.{Entry}
use Rattle.group_lists.specs.Pieces.{IsNextOfBoth}
use Rattle.group_lists.proofs.MergeLemmas.{ascends, next_second, next_first, next_before, next_after, next_joined}
use Rattle.group_lists.proofs.merging.next_of_both.Goals as goal

pub returns-then-from-pieces : goal.returns-then-from-pieces
returns-then-from-pieces c =
    let es = c.args.pieces.now in
    let fs = c.args.entries.now in
    next_second c.entry_order_is_strict.ensures es fs (ascends es c.requires.pieces) (ascends fs c.requires.entries) c.args.from c.args.at c.requires.first c.requires.second
    c.index-entries-at.result (let done = c.if-from-pieces.true in omega arith) (let done = c.if-from-pieces.true in let more = c.requires.more in omega arith) c.index-entries-at.is

pub returns-then-at-entries : goal.returns-then-at-entries
returns-then-at-entries c =
    let es = c.args.pieces.now in
    let fs = c.args.entries.now in
    next_first c.entry_order_is_strict.ensures es fs (ascends es c.requires.pieces) (ascends fs c.requires.entries) c.args.from c.args.at c.requires.first c.requires.second
    c.index-pieces-from.result (let done = c.if-at-entries.true in omega arith) (let done = c.if-at-entries.true in let more = c.requires.more in omega arith) c.index-pieces-from.is

pub returns-then-comes_before : goal.returns-then-comes_before
returns-then-comes_before c =
    let es = c.args.pieces.now in
    let fs = c.args.entries.now in
    let first = c.requires.first in
    let second = c.requires.second in
    let from = c.if-from-pieces.false in
    let at = c.if-at-entries.false in
    next_before c.entry_order_is_strict.ensures es fs (ascends es c.requires.pieces) (ascends fs c.requires.entries) c.args.from c.args.at first second
    c.index-pieces-from-2.result c.index-entries-at-2.result (omega arith) (omega arith) c.index-pieces-from-2.is c.index-entries-at-2.is (sym c.comes_before.ensures ∙ c.if-comes_before.true)

pub returns-then-comes_before-2 : goal.returns-then-comes_before-2
returns-then-comes_before-2 c =
    let es = c.args.pieces.now in
    let fs = c.args.entries.now in
    let first = c.requires.first in
    let second = c.requires.second in
    let from = c.if-from-pieces.false in
    let at = c.if-at-entries.false in
    next_after c.entry_order_is_strict.ensures es fs (ascends es c.requires.pieces) (ascends fs c.requires.entries) c.args.from c.args.at first second
    c.index-pieces-from-2.result c.index-entries-at-2.result (omega arith) (omega arith) c.index-pieces-from-2.is c.index-entries-at-2.is (sym c.comes_before-else-comes_before.ensures ∙ c.if-comes_before-2.true)

pub returns-else-comes_before-2 : goal.returns-else-comes_before-2
returns-else-comes_before-2 c =
    let es = c.args.pieces.now in
    let fs = c.args.entries.now in
    let first = c.requires.first in
    let second = c.requires.second in
    let from = c.if-from-pieces.false in
    let at = c.if-at-entries.false in
    subst (λ (e : Entry). IsNextOfBoth es fs c.args.from c.args.at e (c.args.from + 1) (c.args.at + 1)) (sym c.joined.ensures)
    (next_joined c.entry_order_is_strict.ensures es fs (ascends es c.requires.pieces) (ascends fs c.requires.entries) c.args.from c.args.at first second
    c.index-pieces-from-2.result c.index-entries-at-2.result (omega arith) (omega arith) c.index-pieces-from-2.is c.index-entries-at-2.is (sym c.comes_before.ensures ∙ c.if-comes_before.false) (sym c.comes_before-else-comes_before.ensures ∙ c.if-comes_before-2.false))
