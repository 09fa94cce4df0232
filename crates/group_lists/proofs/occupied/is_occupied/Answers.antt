use Rattle.std.proofs.Common.{◌≡◌, Bool, false, ◌||◌, sym, ◌∙◌, ap}
use Rattle.group_lists.specs.Pieces.{is_occupied}
use Rattle.group_lists.proofs.occupied.is_occupied.Goals as goal

second : (a b c : Bool) → a ≡ false → c ≡ b → c ≡ (a || b)
second a b c none is = is ∙ ap (λ (x : Bool). x || b) (sym none)

pub returns-else-has_bodies_in : goal.returns-else-has_bodies_in
returns-else-has_bodies_in g c =
    second _ _ _ (sym c.has_bodies_in.ensures ∙ c.if-has_bodies_in.false) c.one_has_items_in.ensures ∙ ap (is_occupied c.args.bodies.now c.args.trees.now) (sym c.in-Cell.is)
