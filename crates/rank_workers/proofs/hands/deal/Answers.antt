use Rattle.std.proofs.Common.{◌≡◌, ℕ, ◌+◌, ◌%◌, [], ◌∷◌, ◌++◌, length, get_or, map, set, sym, ◌∙◌, ap, subst, arith}
use Rattle.std.proofs.lemmas.Iterator.Adapters.{YieldsList-from_vec}
use Rattle.std.proofs.lemmas.Iterator.Consumers.{YieldsList-at, YieldsList-turn, YieldsList-from_enumerate}
use Rattle.std.proofs.lemmas.List.FromFn.{get_or-enumerate_from, length-enumerate_from}
use Rattle.std.proofs.lemmas.List.{map-append, length-map}
use Rattle.rank_workers.specs.Hands.{AreDealt}
use Rattle.rank_workers.proofs.Dealing.{one_more_dealt}
use Rattle.rank_workers.proofs.hands.deal.Goals as goal

pub loop-rank-preserved : goal.loop-rank-preserved
loop-rank-preserved g c =
    let X : Type 0 = g.row.X.Denot in
    let items = c.args.ranks.items in
    let road = YieldsList-at c.into_iter-rank-iterator.ensures.into_iter_gives
    (YieldsList-from_enumerate (YieldsList-at c.enumerate-rank-items.ensures.source (YieldsList-from_vec items c.into_iter.ensures.rest (c.into_iter.ensures.len ∙ c.args.ranks.ok.0))) c.enumerate-rank-items.ensures.count) in
    let turn = YieldsList-turn road c.loop-rank.yielded c.loop-rank.rank-iterator c.loop-rank.yielded_by c.next.result c.next.new.self (c.in-Some.rank, c.in-Some.x) c.in-Some.is c.next.ensures.steps in
    let long = length-enumerate_from 0 items in
    let pair = turn.1 ∙ get_or-enumerate_from 0 items (length c.loop-rank.yielded) (c.in-Some.rank, c.in-Some.x) (omega (arith, turn.0)) in
    let number : length (map {A = ℕ × X} {B = X} (λ p. p.1) c.loop-rank.yielded) ≡ c.in-Some.rank = length-map {A = ℕ × X} {B = X} c.loop-rank.yielded (λ p. p.1) ∙ sym (ap (λ (p : ℕ × X). p.0) pair ∙ omega arith) in
    let dealt = one_more_dealt c.args.workers (map {A = ℕ × X} {B = X} (λ p. p.1) c.loop-rank.yielded) c.in-Some.x c.loop-rank.hands.items c.index_mut.result.now c.push.new.self c.requires c.loop-rank.invariant
    (subst (λ n. c.index_mut.result.now ≡ get_or c.loop-rank.hands.items (n % c.args.workers) c.index_mut.result.now) (sym number) c.index_mut.ensures.value) c.in_ok-push.ensures.items in
    subst (λ ys. AreDealt c.args.workers ys (set c.loop-rank.hands.items (c.in-Some.rank % c.args.workers) c.push.new.self)) (sym (map-append {A = ℕ × X} {B = X} (λ p. p.1) c.loop-rank.yielded ((c.in-Some.rank, c.in-Some.x) ∷ [])))
    (subst (λ n. AreDealt c.args.workers (map {A = ℕ × X} {B = X} (λ p. p.1) c.loop-rank.yielded ++ c.in-Some.x ∷ []) (set c.loop-rank.hands.items (n % c.args.workers) c.push.new.self)) number dealt)
