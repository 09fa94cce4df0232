use Rattle.std.proofs.Common.{◌≡◌, ◌^◌, ◌<◌, ◌≤◌, List, length, map, get_or, sym, ◌∙◌, subst, arith, leb}
use Rattle.std.proofs.lemmas.Bool.{leb-true, le-leb}
use Rattle.std.proofs.lemmas.List.{get_or_default, length-map}
use Rattle.pf_model.specs.declared.entry.Entry.{Entry}
use Rattle.pf_model.specs.Interaction.{IsInListOrder}
use Rattle.group_lists.specs.declared.listed.Listed.{Listed}
use Rattle.group_lists.specs.Gathering.{Gathering, gathering_of, with_source, partial_list, source_list}
use Rattle.group_lists.proofs.AbsorbLemmas.{grown_none, grown_more, grown_all, served_at, order_kept, grown_step, tests_more, shorts_all}
use Rattle.group_lists.proofs.absorbing.absorb_tree.Goals as goal

pub loop-one-init : goal.loop-one-init
loop-one-init g c =
    let t = g.T.Terms.theta in
    let js = g.T.Terms.particles in
    let gather : Gathering = gathering_of c.args.tree.now.dst c.args.bodies.now (map (λ l. l.group) c.args.listed.now) c.args.trees.now in
    let before = partial_list t g.T.Terms.grid js gather in
    let after = partial_list t g.T.Terms.grid js (with_source gather c.args.tree.now.src) in
    let was = c.requires.gathered in
    let few : length c.args.listed.now ≤ 65536 = (let long = length-map c.args.listed.now (λ l. l.group) in let most = was.few in omega arith) in
    record {
      grown = grown_none before after c.args.listed.now c.args.before few (shorts_all c.pieces_are_in_order.ensures t g.T.Terms.grid js gather c.args.tree.now.src g.T.Terms.are_bodies c.requires.new gather.groups) was.counted was.kept was.bounded;
      tests = omega arith;
    }

pub find_pieces-requires-clause-served : goal.find_pieces-requires-clause-served
find_pieces-requires-clause-served g c =
    let listed : List Listed = c.loop-one.listed in
    let k = c.loop-one.one-index in
    let one = get_or listed k c.one-item.result in
    let within : k < length listed = (let less = c.loop-one-test.true in let same = c.loop-one.auto.listed in omega arith) in
    let gather : Gathering = gathering_of c.args.tree.now.dst c.args.bodies.now (map (λ l. l.group) c.args.listed.now) c.args.trees.now in
    served_at c.groups_are_served.ensures g.T.Terms.grid g.T.Terms.particles gather g.T.Terms.is_division g.T.Terms.within_limits c.requires.gathered.own c.requires.gathered.of_own
    listed k one c.loop-one.invariant.grown.same within (get_or_default listed k c.one-item.result one within)

pub grow-requires-clause-pieces : goal.grow-requires-clause-pieces
grow-requires-clause-pieces g c =
    let one = get_or c.loop-one.listed c.loop-one.one-index c.one-item.result in
    let gather : Gathering = gathering_of c.args.tree.now.dst c.args.bodies.now (map (λ l. l.group) c.args.listed.now) c.args.trees.now in
    let order = c.pieces_are_in_order.ensures g.T.Terms.theta g.T.Terms.grid g.T.Terms.particles gather c.args.tree.now.src one.group g.T.Terms.are_bodies c.requires.new in
    subst IsInListOrder (sym (c.deref.ensures.value ∙ c.in_ok-find_pieces.ensures.pieces)) order.0

pub grow-requires-clause-short : goal.grow-requires-clause-short
grow-requires-clause-short g c =
    let one = get_or c.loop-one.listed c.loop-one.one-index c.one-item.result in
    let gather : Gathering = gathering_of c.args.tree.now.dst c.args.bodies.now (map (λ l. l.group) c.args.listed.now) c.args.trees.now in
    let order = c.pieces_are_in_order.ensures g.T.Terms.theta g.T.Terms.grid g.T.Terms.particles gather c.args.tree.now.src one.group g.T.Terms.are_bodies c.requires.new in
    subst (λ (es : List Entry). length es ≤ 65536) (sym (c.deref.ensures.value ∙ c.in_ok-find_pieces.ensures.pieces)) order.3

pub grow-requires-clause-few : goal.grow-requires-clause-few
grow-requires-clause-few g c =
    let listed : List Listed = c.loop-one.listed in
    let k = c.loop-one.one-index in
    let one = get_or listed k c.one-item.result in
    let within : k < length listed = (let less = c.loop-one-test.true in let same = c.loop-one.auto.listed in omega arith) in
    let gather : Gathering = gathering_of c.args.tree.now.dst c.args.bodies.now (map (λ l. l.group) c.args.listed.now) c.args.trees.now in
    order_kept c.pieces_make_lists.ensures c.pieces_are_in_order.ensures c.common_pieces_are_occupied.ensures g.T.Terms.theta g.T.Terms.grid g.T.Terms.particles gather c.args.tree.now.src g.T.Terms.are_bodies c.requires.new
    gather.groups c.args.before k listed c.loop-one.count one c.deref.result.now (leb c.args.before (2 ^ 24)) c.loop-one.invariant.grown within (get_or_default listed k c.one-item.result one within)
    (λ e. leb-true c.args.before (2 ^ 24) e) (c.deref.ensures.value ∙ c.in_ok-find_pieces.ensures.pieces)

pub loop-one-preserved : goal.loop-one-preserved
loop-one-preserved g c =
    let t = g.T.Terms.theta in
    let grid = g.T.Terms.grid in
    let js = g.T.Terms.particles in
    let listed : List Listed = c.loop-one.listed in
    let k = c.loop-one.one-index in
    let one = get_or listed k c.one-item.result in
    let next : Listed = c.grow.new.one in
    let src = c.args.tree.now.src in
    let gather : Gathering = gathering_of c.args.tree.now.dst c.args.bodies.now (map (λ l. l.group) c.args.listed.now) c.args.trees.now in
    let before = partial_list t grid js gather in
    let after = partial_list t grid js (with_source gather src) in
    let within : k < length listed = (let less = c.loop-one-test.true in let same = c.loop-one.auto.listed in omega arith) in
    let at : one ≡ get_or listed k one = get_or_default listed k c.one-item.result one within in
    let was = c.requires.gathered in
    let all = c.loop-one.invariant.grown in
    let served = served_at c.groups_are_served.ensures grid js gather g.T.Terms.is_division g.T.Terms.within_limits was.own was.of_own listed k one all.same within at in
    let pieces = c.deref.result.now in
    let pieces_are : pieces ≡ source_list t grid js src one.group = c.deref.ensures.value ∙ c.in_ok-find_pieces.ensures.pieces in
    let few = leb c.args.before (2 ^ 24) in
    let done = c.in_ok-count.ensures in
    let step = grown_step c.pieces_make_lists.ensures c.pieces_are_in_order.ensures c.common_pieces_are_occupied.ensures t grid js gather src g.T.Terms.are_bodies c.requires.new
    c.args.t c.args.trees.now was.own c.requires.absorbs gather.groups c.args.before k listed c.loop-one.count c.in_ok-count.count one next pieces few all served within at
    (λ e. leb-true c.args.before (2 ^ 24) e) (λ small. le-leb c.args.before (2 ^ 24) small) pieces_are done.group done.count done.kept done.dropped in
    record {
      grown = grown_more before after gather.groups c.args.before k listed c.loop-one.count all c.in_ok-count.count one next within at step;
      tests = tests_more t grid js src gather.groups k listed one c.args.steps.now c.loop-one.steps c.find_pieces.new.steps c.find_pieces.new.pieces.items all.same within at c.loop-one.invariant.tests c.in_ok-find_pieces.ensures.pieces c.in_ok-find_pieces.ensures.tests;
    }

pub returns-clause-gathered : goal.returns-clause-gathered
returns-clause-gathered g c =
    let t = g.T.Terms.theta in
    let grid = g.T.Terms.grid in
    let js = g.T.Terms.particles in
    let listed : List Listed = c.loop-one.listed in
    let gather : Gathering = gathering_of c.args.tree.now.dst c.args.bodies.now (map (λ l. l.group) c.args.listed.now) c.args.trees.now in
    let before = partial_list t grid js gather in
    let after = partial_list t grid js (with_source gather c.args.tree.now.src) in
    let was = c.requires.gathered in
    let all = c.loop-one.invariant.grown in
    let done : length listed ≤ c.loop-one.one-index = (let none = c.loop-one-test.false in let same = c.loop-one.auto.listed in omega arith) in
    let end = grown_all before after gather.groups c.args.before c.loop-one.one-index listed c.loop-one.count all done in
    record {
      own = was.own;
      few = was.few;
      of_own = was.of_own;
      counted = end.0;
      kept = end.1;
      bounded = all.bounded;
    }
