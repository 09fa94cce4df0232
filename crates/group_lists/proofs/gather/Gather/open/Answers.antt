use Rattle.std.proofs.Common.{◌≡◌, List, map, ◌∙◌, subst, arith}
use Rattle.pf_model.specs.Criterion.{Criterion}
use Rattle.group_lists.specs.Gathering.{gathering_of, own_gathering, source_count, IsGathered}
use Rattle.group_lists.proofs.GatherLemmas.{gathered_from_listed}
use Rattle.group_lists.proofs.AbsorbLemmas.{entries_of, opened_all}
use Rattle.group_lists.proofs.gather.Gather.open.Goals as goal

pub invariant_of-result : goal.invariant_of-result
invariant_of-result g c =
    let grid = g.T.Terms.grid in
    let js = g.T.Terms.particles in
    let own = c.args.tree.now.built in
    let lists : List (List _) = map entries_of c.in_ok-listed.listed.items in
    let count = c.in_ok-listed.count in
    let bodies : c.in_ok-bodies.bodies.items ≡ own = c.in_ok-bodies.ensures.items_if_clones_equal (λ x y h. h) ∙ c.bodies-own.ensures.value ∙ c.requires.unmoved in
    let opened = gathered_from_listed c.lists_ignore_order.ensures c.one_rank_has_its_own.ensures c.args.t grid js own c.args.rank c.args.groups.now lists count c.bodies-own.ensures.tree.are_bodies.distinct c.requires.own c.requires.few c.requires.of_tree c.in_ok-listed.ensures.count c.in_ok-listed.ensures.lists c.in_ok-listed.ensures.bounded in
    opened_all g.T.Terms.theta grid js c.args.rank own c.in_ok-bodies.bodies.items c.args.groups.now c.in_ok-listed.listed.items c.new.result.items count c.args.t
    bodies c.in_ok-listed.ensures.each c.new.ensures.items c.requires.theta c.bodies-own.ensures.tree.ordered
    (subst (λ (t : Criterion). IsGathered t grid js (own_gathering c.args.rank own c.args.groups.now) lists count) c.requires.theta opened)

pub returns-clause-value : goal.returns-clause-value
returns-clause-value g c =
    let bodies : c.in_ok-bodies.bodies.items ≡ c.args.tree.now.built = c.in_ok-bodies.ensures.items_if_clones_equal (λ x y h. h) ∙ c.bodies-own.ensures.value ∙ c.requires.unmoved in
    λ i. gathering_of c.args.rank (bodies i) (c.in_ok-listed.ensures.each i) (c.new.ensures.items i)

pub returns-clause-tests : goal.returns-clause-tests
returns-clause-tests g c =
    let grid = g.T.Terms.grid in
    let js = g.T.Terms.particles in
    let own = c.args.tree.now.built in
    let opened = gathered_from_listed c.lists_ignore_order.ensures c.one_rank_has_its_own.ensures c.args.t grid js own c.args.rank c.args.groups.now (map entries_of c.in_ok-listed.listed.items) c.in_ok-listed.count c.bodies-own.ensures.tree.are_bodies.distinct c.requires.own c.requires.few c.requires.of_tree c.in_ok-listed.ensures.count c.in_ok-listed.ensures.lists c.in_ok-listed.ensures.bounded in
    let count : c.in_ok-listed.count ≡ source_count g.T.Terms.theta grid js c.args.groups.now c.args.rank = subst (λ (t : Criterion). c.in_ok-listed.count ≡ source_count t grid js c.args.groups.now c.args.rank) c.requires.theta opened.counted in
    let tests = c.in_ok-listed.ensures.tests in
    omega arith
