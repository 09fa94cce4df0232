use Rattle.std.proofs.Common.{rules, of_calls, ◌∙◌}
use Rattle.std.proofs.lemmas.Fn.{always_returns_same, dedup_same}
use Rattle.pf_model.specs.Interaction.{entry_place}
use Rattle.group_lists.proofs.OrderLemmas.{same_place, list_from_sort}
use Rattle.group_lists.proofs.ordering.put_in_order.Goals as goal

pub returns : goal.returns
returns c = λ t box js distinct entries.
    let raw = c.args.entries.now.items in
    let sorted = c.sort_unstable_by_key.new.self.items in
    let kept = dedup_same _ same_place _ (λ x y b f' x' y' k. search rules) _ _ c.dedup_by_key.ensures.filtered in
    let order = c.sort_unstable_by_key.ensures.sorted entry_place (always_returns_same _ _ _ (λ a r f k. search (rules, of_calls))) in
    kept ∙ list_from_sort c.particles_of_one_id_are_one.ensures c.levels_are_least.ensures c.lists_hold_their_entries.ensures t box js distinct raw sorted entries c.sort_unstable_by_key.ensures.permutation order
