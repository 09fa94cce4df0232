use Rattle.model_laws.proofs.ListLemmas.{IsListOf-list_of, member_place}
use Rattle.order_laws.proofs.ElementLemmas.{in_from_contains}
use Rattle.model_laws.proofs.list_laws.each_is_in_one_entry.Goals as goal

pub returns : goal.returns
returns c = λ t box js j distinct inside.
    let place = (IsListOf-list_of t box js distinct).complete j inside in
    (place.0, place.1, member_place t box js j distinct (in_from_contains js j inside) place.0 place.1 place.2)
