use Rattle.std.proofs.lemmas.List.Sorted.{IsPermutation-refl}
use Rattle.pf_model.specs.Particles.{by_id}
use Rattle.run_laws.proofs.laws.orders_by_id_stay.Goals as goal

pub returns : goal.returns
returns c js = c.ascending_is_by_id.ensures (by_id js) (by_id js) (IsPermutation-refl (by_id js)) (c.orders_by_id_ascend.ensures js)
