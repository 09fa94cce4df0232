use Rattle.std.proofs.Common.{◌≡◌, suc, [], ◌∷◌, ◌++◌, length, sym, ◌∙◌, ap, arith}
use Rattle.std.proofs.lemmas.Iterator.Adapters.{YieldsList-from_vec}
use Rattle.std.proofs.lemmas.Iterator.Consumers.{YieldsList-turn}
use Rattle.std.proofs.lemmas.List.{length_push}
use Rattle.pf_model.specs.Division.{rank_count}
use Rattle.group_lists.specs.Gathering.{Gathering}
use Rattle.let_inbox.specs.Sources.{others}
use Rattle.essential_tree.specs.declared.tree_parcel.TreeParcel.{TreeParcel}
use Rattle.tree_phase.proofs.ParcelLemmas.{gathered_to, turn_within, turn_is, new_source, few_absorbed, one_more}
use Rattle.tree_phase.proofs.absorbing.absorb_all.Goals as goal

pub absorb-requires-clause-here : goal.absorb-requires-clause-here
absorb-requires-clause-here g c =
    let start = c.into_iter-parcel-iterator.ensures.into_iter_gives in
    let turn = YieldsList-turn (YieldsList-from_vec c.args.parcels.items start.0 (start.1 ∙ c.args.parcels.ok.0)) c.loop-parcel.yielded c.loop-parcel.parcel-iterator c.loop-parcel.yielded_by c.next.result c.next.new.self c.in-Some.parcel c.in-Some.is c.next.ensures.steps in
    let place = length c.loop-parcel.yielded in
    let parcel_is = turn_is g.row.T.Denot g.T.Terms.theta g.T.Terms.grid g.T.Terms.particles c.args.gather.rank (rank_count g.T.Terms.grid) c.args.parcels.items c.requires.all place c.in-Some.parcel turn in
    ap (λ (p : TreeParcel g.row.T.Denot). p.tree.dst) parcel_is ∙ sym (ap (λ (v : Gathering). v.rank) c.loop-parcel.invariant)

pub absorb-requires-clause-new : goal.absorb-requires-clause-new
absorb-requires-clause-new g c =
    let start = c.into_iter-parcel-iterator.ensures.into_iter_gives in
    let turn = YieldsList-turn (YieldsList-from_vec c.args.parcels.items start.0 (start.1 ∙ c.args.parcels.ok.0)) c.loop-parcel.yielded c.loop-parcel.parcel-iterator c.loop-parcel.yielded_by c.next.result c.next.new.self c.in-Some.parcel c.in-Some.is c.next.ensures.steps in
    let place = length c.loop-parcel.yielded in
    let within = turn_within g.row.T.Denot g.T.Terms.theta g.T.Terms.grid g.T.Terms.particles c.args.gather.rank (rank_count g.T.Terms.grid) c.args.parcels.items c.requires.all place c.in-Some.parcel turn in
    let parcel_is = turn_is g.row.T.Denot g.T.Terms.theta g.T.Terms.grid g.T.Terms.particles c.args.gather.rank (rank_count g.T.Terms.grid) c.args.parcels.items c.requires.all place c.in-Some.parcel turn in
    new_source g.T.Terms.grid c.loop-parcel.gather c.args.gather place c.loop-parcel.invariant within c.others_ascend.ensures c.others_are_the_sources.ensures c.in-Some.parcel.tree.src
    (sym (ap (λ (p : TreeParcel g.row.T.Denot). p.tree.src) parcel_is))

pub absorb-requires-clause-few : goal.absorb-requires-clause-few
absorb-requires-clause-few g c =
    let start = c.into_iter-parcel-iterator.ensures.into_iter_gives in
    let turn = YieldsList-turn (YieldsList-from_vec c.args.parcels.items start.0 (start.1 ∙ c.args.parcels.ok.0)) c.loop-parcel.yielded c.loop-parcel.parcel-iterator c.loop-parcel.yielded_by c.next.result c.next.new.self c.in-Some.parcel c.in-Some.is c.next.ensures.steps in
    let place = length c.loop-parcel.yielded in
    let within = turn_within g.row.T.Denot g.T.Terms.theta g.T.Terms.grid g.T.Terms.particles c.args.gather.rank (rank_count g.T.Terms.grid) c.args.parcels.items c.requires.all place c.in-Some.parcel turn in
    few_absorbed g.T.Terms.grid c.loop-parcel.gather c.args.gather place c.loop-parcel.invariant within c.others_are_few.ensures g.T.Terms.is_division

pub loop-parcel-preserved : goal.loop-parcel-preserved
loop-parcel-preserved g c =
    let start = c.into_iter-parcel-iterator.ensures.into_iter_gives in
    let turn = YieldsList-turn (YieldsList-from_vec c.args.parcels.items start.0 (start.1 ∙ c.args.parcels.ok.0)) c.loop-parcel.yielded c.loop-parcel.parcel-iterator c.loop-parcel.yielded_by c.next.result c.next.new.self c.in-Some.parcel c.in-Some.is c.next.ensures.steps in
    let place = length c.loop-parcel.yielded in
    let within = turn_within g.row.T.Denot g.T.Terms.theta g.T.Terms.grid g.T.Terms.particles c.args.gather.rank (rank_count g.T.Terms.grid) c.args.parcels.items c.requires.all place c.in-Some.parcel turn in
    let parcel_is = turn_is g.row.T.Denot g.T.Terms.theta g.T.Terms.grid g.T.Terms.particles c.args.gather.rank (rank_count g.T.Terms.grid) c.args.parcels.items c.requires.all place c.in-Some.parcel turn in
    let more = length_push c.loop-parcel.yielded c.in-Some.parcel in
    let next : length (c.loop-parcel.yielded ++ c.in-Some.parcel ∷ []) ≡ suc place = omega arith in
    one_more g.T.Terms.grid c.loop-parcel.gather c.args.gather place c.loop-parcel.invariant within c.in_ok-gather.gather c.in-Some.parcel.tree.src
    (sym (ap (λ (p : TreeParcel g.row.T.Denot). p.tree.src) parcel_is)) c.in_ok-gather.ensures
    ∙ ap (gathered_to c.args.gather (others c.args.gather.rank (rank_count g.T.Terms.grid))) (sym next)
