use Rattle.std.proofs.Common.{◌≡◌, ◌≤◌, ◌<◌, true, false, length, rules, of_calls, sym, ◌∙◌, ap, ltb}
use Rattle.std.specs.List.{Contains}
use Rattle.std.specs.Option.{is_some}
use Rattle.std.specs.List.Sorted.{IsPartitionPoint}
use Rattle.std.proofs.lemmas.Bool.{ltb-true, ltb-false}
use Rattle.std.proofs.lemmas.List.Sorted.{IsPartitionedBy-ltb}
use Rattle.std.proofs.lemmas.Fn.{always_returns_same}
use Rattle.group_lists.specs.declared.item_index.IdPlace.{IdPlace}
use Rattle.group_lists.proofs.IndexLemmas.{place_id, span_of_one, span_of_none, none_past, none_at}
use Rattle.group_lists.proofs.item_index.span_of_id.Goals as goal

pub returns-in-Some : goal.returns-in-Some
returns-in-Some c = λ items p named are apart.
    let i : IdPlace = c.in-Some.found.now in
    let look = c.in-Some.ensures.lookup in
    let place = c.partition_point-at.result in
    let there : Contains c.args.ids.now i = (place, ltb-true place (length c.args.ids.now) (sym look.0), sym look.1) in
    span_of_one items c.args.ids.now i p are apart there (c.if-found-id.true ∙ sym named)

pub returns-in_default : goal.returns-in_default
returns-in_default c = λ items p named are apart.
    let i : IdPlace = c.in-Some.found.now in
    let look = c.in-Some.ensures.lookup in
    let place = c.partition_point-at.result in
    let within : place < length c.args.ids.now = ltb-true place (length c.args.ids.now) (sym look.0) in
    let stops : IsPartitionPoint (λ i. ltb (place_id i) c.args.id ≡ true) (λ i. ltb (place_id i) c.args.id ≡ false) c.args.ids.now place =
    c.partition_point-at.ensures.partitioned (λ i. ltb (place_id i) c.args.id) (always_returns_same _ _ _ (λ a r f k. search (rules, of_calls)))
    (IsPartitionedBy-ltb place_id c.args.ids.now c.args.id are.ascending) in
    span_of_none items c.args.ids.now p are (λ j there same. none_at items c.args.ids.now c.args.id place i are stops within (sym look.1) c.if-found-id.false j there (same ∙ named))

pub returns-in_default-2 : goal.returns-in_default-2
returns-in_default-2 c = λ items p named are apart.
    let place = c.partition_point-at.result in
    let past : length c.args.ids.now ≤ place = ltb-false place (length c.args.ids.now) (sym c.get.ensures.lookup.0 ∙ ap is_some c.in_default.is) in
    let stops : IsPartitionPoint (λ i. ltb (place_id i) c.args.id ≡ true) (λ i. ltb (place_id i) c.args.id ≡ false) c.args.ids.now place =
    c.partition_point-at.ensures.partitioned (λ i. ltb (place_id i) c.args.id) (always_returns_same _ _ _ (λ a r f k. search (rules, of_calls)))
    (IsPartitionedBy-ltb place_id c.args.ids.now c.args.id are.ascending) in
    span_of_none items c.args.ids.now p are (λ j there same. none_past c.args.ids.now c.args.id place stops past j there (same ∙ named))
