use Rattle.all_to_all.proofs.Picking.{one_from_each}
use Rattle.all_to_all.proofs.laws.each_other_sent_one.Goals as goal

pub returns : goal.returns
returns g c = λ parcel ranks rank names within. one_from_each g.M.Named.target parcel names c.others_stand_in_turn.ensures ranks rank within
