use Rattle.std.proofs.Common.{rules, of_calls}
use Rattle.std.proofs.lemmas.List.Sorted.{IsNonDecreasingBy-from_sort_by_key, IsPermutation-trans}
use Rattle.essential_tree.specs.declared.tree_parcel.TreeParcel.{TreeParcel}
use Rattle.tree_phase.specs.Parcels.{trees_received}
use Rattle.tree_phase.proofs.ParcelLemmas.{received_rise}
use Rattle.tree_phase.proofs.absorbing.sort_by_source.Goals as goal

pub returns : goal.returns
returns g c t d js rank ranks all =
    let number = λ (p : TreeParcel g.row.T.Denot). p.tree.src in
    let sorted = c.sort_unstable_by_key.new.self in
    c.sorts_by_key_are_one.ensures number (trees_received t d js rank ranks) sorted (received_rise g.row.T.Denot t d js rank ranks c.others_ascend.ensures)
    (IsPermutation-trans (trees_received t d js rank ranks) c.args.parcels.now sorted all c.sort_unstable_by_key.ensures.permutation)
    (IsNonDecreasingBy-from_sort_by_key number sorted c.sort_unstable_by_key.ensures.sorted (λ a r f k. search (rules, of_calls)))
