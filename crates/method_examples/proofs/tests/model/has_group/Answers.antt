use Rattle.std.proofs.Common.{◌≡◌, ◌<◌, ℕ, List, length, map, get_or, ap, sym, subst, ◌∙◌}
use Rattle.std.proofs.lemmas.List.{get_or-map, length-map}
use Rattle.method_examples.proofs.tests.model.has_group.Goals as goal

-- an element's id is among the ids
listed : {B : Type 0} (id_of : B → ℕ) (own : List B) (k : ℕ) (b : B) (id : ℕ) → k < length own → b ≡ get_or own k b → id ≡ id_of b
    → (n : ℕ) × (n < length (map id_of own)) × (get_or (map id_of own) n id ≡ id)
listed id_of own k b id inside at same =
    (k, subst (λ (n : ℕ). k < n) (sym (length-map own id_of)) inside, get_or-map id_of own k b id inside ∙ ap id_of (sym at) ∙ sym same)

pub slow_group-requires-clause-present : goal.slow_group-requires-clause-present
slow_group-requires-clause-present c =
    let h = c.in-Some.ensures.lookup in
    listed (λ j. j.id) c.list-own.result.now c.args.place c.in-Some.body.now c.body.inside.id h.3.0 h.1 (ap (λ j. j.id) c.body.view_is)
