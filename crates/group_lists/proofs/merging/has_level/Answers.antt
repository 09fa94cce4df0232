use Rattle.std.proofs.Common.{◌≡◌, ◌<◌, ◌≤◌, true, false, not, get_or, length, rules, of_calls, sym, ◌∙◌, ap, arith}
use Rattle.std.specs.List.Sorted.{IsPartitionPoint}
use Rattle.std.proofs.lemmas.Bool.{ltb-true, ltb-false}
use Rattle.std.proofs.lemmas.Fn.{always_returns_same}
use Rattle.pf_model.specs.Interaction.{comes_before}
use Rattle.pf_model.specs.Merging.{is_level}
use Rattle.group_lists.proofs.SearchLemmas.{found_at, found_none}
use Rattle.group_lists.proofs.MergeLemmas.{earlier_first, level_stands_first, level_is}
use Rattle.group_lists.proofs.merging.has_level.Goals as goal

pub returns-in-Some : goal.returns-in-Some
returns-in-Some c =
    let e = c.args.piece.now in
    let fs = c.args.entries.now in
    let f = c.in-Some.entry.now in
    let place = c.partition_point-place.result in
    let point : IsPartitionPoint (λ v. comes_before v e ≡ true) (λ v. comes_before v e ≡ false) fs place =
    c.partition_point-place.ensures.partitioned (λ v. comes_before v e) (always_returns_same _ _ _ (λ a r f k. search (rules, of_calls))) (earlier_first c.entry_order_is_strict.ensures e fs c.requires) in
    let look = c.in-Some.ensures.lookup in
    let within : place < length fs = ltb-true place (length fs) (sym look.0) in
    let at : get_or fs place f ≡ f = sym look.1 in
    let later : comes_before f e ≡ false = ap (λ v. comes_before v e) (sym at) ∙ point.1 place f (omega arith) within in
    sym (found_at (λ v. comes_before v e) (is_level e) fs place f (not c.comes_before.result) (level_stands_first c.entry_order_is_strict.ensures e fs c.requires) point within at (level_is e f later ∙ ap not (sym c.comes_before.ensures)))

pub returns-in-None : goal.returns-in-None
returns-in-None c =
    let e = c.args.piece.now in
    let fs = c.args.entries.now in
    let place = c.partition_point-place.result in
    let point : IsPartitionPoint (λ v. comes_before v e ≡ true) (λ v. comes_before v e ≡ false) fs place =
    c.partition_point-place.ensures.partitioned (λ v. comes_before v e) (always_returns_same _ _ _ (λ a r f k. search (rules, of_calls))) (earlier_first c.entry_order_is_strict.ensures e fs c.requires) in
    let look = c.in-None.ensures.lookup in
    let none : length fs ≤ place = ltb-false place (length fs) (sym look.0) in
    sym (found_none (λ v. comes_before v e) (is_level e) fs place (level_stands_first c.entry_order_is_strict.ensures e fs c.requires) point none)
