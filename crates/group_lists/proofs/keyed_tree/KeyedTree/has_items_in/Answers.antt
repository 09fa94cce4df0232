use Rattle.std.proofs.Common.{ℕ, ◌∙◌, ap}
use Rattle.std.specs.List.{list_any}
use Rattle.group_lists.proofs.SearchLemmas.{list_any_map}
use Rattle.pf_model.specs.Interaction.{is_cell}
use Rattle.pf_model.specs.EssentialTree.{Essential}
use Rattle.cell_runs.specs.Finding.{cell_of_key}
use Rattle.group_lists.specs.Keyed.{item_key}
use Rattle.group_lists.proofs.keyed_tree.KeyedTree.has_items_in.Goals as goal

pub returns : goal.returns
returns g c =
    let test : ℕ → _ = λ key. is_cell c.args.cell (cell_of_key key c.args.cell.level) in
    c.has_key_in.ensures ∙ ap (list_any test) (c.deref.ensures.value ∙ c.self.invariant.keyed) ∙ list_any_map test item_key c.self.inside.items.items
    ∙ ap (λ (t : Essential). list_any (λ item. test (item_key item)) t.items) c.self.view_is
