use Rattle.pf_model.specs.Group.{box_of}
use Rattle.run_model.proofs.ParticleLemmas.{built_distinct}
use Rattle.run_model.proofs.laws.each_is_in_one_entry_of_each_list.Goals as goal

pub returns : goal.returns
returns c u s now group j e inside =
    c.each_is_in_one_entry.ensures u.theta (box_of group.members) now.built j (built_distinct c.orders_by_id_have_distinct_ids.ensures u s now e) inside
