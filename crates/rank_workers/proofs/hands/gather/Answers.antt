use Rattle.std.proofs.Common.{rules, ◌≡◌, ◌+◌, ◌-◌, reverse, vec_len, sym, ◌∙◌, ap, subst, arith}
use Rattle.rank_workers.specs.Hands.{HavePlacesFor, AreDealt}
use Rattle.rank_workers.proofs.Gathered.{AreBetween, one_more_out, all_out}
use Rattle.rank_workers.proofs.hands.gather.Goals as goal

pub loop-rank-preserved : goal.loop-rank-preserved
loop-rank-preserved g c =
    let W = c.len-workers.result in
    let some = c.requires.some in
    let room = c.loop-rank.invariant.room in
    let step : c.loop-rank.rank ≡ c.loop-rank.rank - 1 + 1 = (let t = c.loop-rank-test.true in omega arith) in
    let now = subst (λ n. AreBetween W c.args.count n c.args.hands.items c.loop-rank.hands.items c.loop-rank.ranks.items) step c.loop-rank.invariant.between in
    record {
      room = search rules;
      between = subst (AreBetween W c.args.count (c.loop-rank.rank - 1) c.args.hands.items _) (sym c.push_reserved.ensures.items)
          (one_more_out W c.args.count (c.loop-rank.rank - 1) c.args.hands.items c.loop-rank.hands.items c.loop-rank.ranks.items c.index_mut.result.now (search rules) now c.index_mut.ensures.value c.pop.new.self c.in-Some.x c.in-Some.ensures.items);
    }

pub returns-clause-each : goal.returns-clause-each
returns-clause-each g c =
    let W = c.len-workers.result in
    let none : c.loop-rank.rank ≡ 0 = (let t = c.loop-rank-test.false in omega arith) in
    let now = subst (λ n. AreBetween W c.args.count n c.args.hands.items c.loop-rank.hands.items c.loop-rank.ranks.items) none c.loop-rank.invariant.between in
    let had = subst (λ n. HavePlacesFor n c.args.count c.args.hands.items) (sym c.len-workers.ensures) c.requires.places in
    let all = all_out W c.args.count c.args.hands.items c.loop-rank.hands.items c.loop-rank.ranks.items had now in
    subst (λ ys. AreDealt (vec_len c.args.hands) ys c.args.hands.items) (sym c.reversed.ensures)
    (subst (λ n. AreDealt n (reverse c.loop-rank.ranks.items) c.args.hands.items) c.len-workers.ensures all)
