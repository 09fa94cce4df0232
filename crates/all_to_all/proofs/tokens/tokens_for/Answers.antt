use Rattle.std.proofs.Common.{◌≡◌, ℕ, ◌+◌, List, [], length, map, get_or, set, Vec, Global, ap, sym, ◌∙◌, subst, arith}
use Rattle.std.proofs.lemmas.List.{with_items_is}
use Rattle.std.specs.List.{range_with_len}
use Rattle.std.proofs.lemmas.List.Elements.{All-map}
use Rattle.let_inbox.specs.declared.tokens.Spent.{Spent}
use Rattle.all_to_all.specs.Handed.{EachHasTokens, all_carried, with_sent}
use Rattle.all_to_all.proofs.Collecting.{HasCollected, rank_now, collects_none, collects_more, all_collected, map_both}
use Rattle.all_to_all.proofs.tokens.tokens_for.Goals as goal

pub loop-post-init : goal.loop-post-init
loop-post-init g c =
    let M : Type 0 = g.row.M.Denot in
    let items : Vec (Spent M) Global → List (Spent M) = λ v. v.items in
    let lists = c.in_ok-lists.lists.items in
    collects_none g.M.Named.source g.M.Named.target g.M.Named.has_terms c.args.inboxes.now c.args.posts.now (map items lists) c.requires.of_inboxes c.in_ok-lists.ensures.tokens
    (All-map (λ list. list ≡ []) items lists c.in_ok-lists.ensures.empty)

pub hand_over-requires-clause-tokens : goal.hand_over-requires-clause-tokens
hand_over-requires-clause-tokens g c =
    let M : Type 0 = g.row.M.Denot in
    let items : Vec (Spent M) Global → List (Spent M) = λ v. v.items in
    let inboxes = c.args.inboxes.now in
    let inv = c.loop-post.invariant in
    let rank = rank_now g.M.Named.source g.M.Named.target g.M.Named.has_terms inboxes c.args.posts.now c.loop-post.post-index c.loop-post.posts _ c.post-item.result inv c.requires.of_inboxes (let test = c.loop-post-test.true in let same = c.loop-post.auto in omega arith) in
    subst (λ (z : ℕ × List (Vec (Spent M) Global)). EachHasTokens g.M.Named.source inboxes z.0 (map items z.1)) (λ k. (sym rank k, sym c.deref_mut.ensures.value k)) inv.tokens

pub loop-post-preserved : goal.loop-post-preserved
loop-post-preserved g c =
    let M : Type 0 = g.row.M.Denot in
    let items : Vec (Spent M) Global → List (Spent M) = λ v. v.items in
    let inboxes = c.args.inboxes.now in
    let before = c.args.posts.now in
    let index = c.loop-post.post-index in
    let posts = c.loop-post.posts in
    let lists = c.loop-post.lists in
    let new = c.hand_over.new.lists in
    let done = c.in_ok-hand_over.ensures in
    let there = get_or posts index c.post-item.result in
    let lent = c.deref_mut.ensures.value in
    let long : length new ≡ lists.len = let a = c.hand_over.auto in let b = c.deref_mut.ensures.len in omega arith in
    let kept = with_items_is lists new long in
    let carried = map_both all_carried items new ∙ done.carried
    ∙ ap (λ (ls : List (Vec (Spent M) Global)). map (with_sent g.M.Named.target there (map items ls)) (range_with_len 0 (length inboxes))) lent in
    subst (λ (ls : List (Vec (Spent M) Global)). HasCollected g.M.Named.source g.M.Named.target g.M.Named.has_terms inboxes before (index + 1) (set posts index c.hand_over.new.self) (map items ls)) (sym kept)
    (collects_more g.M.Named.source g.M.Named.target g.M.Named.has_terms inboxes before index posts (map items lists.items) (map items new) c.post-item.result c.hand_over.new.self
    c.loop-post.invariant c.requires.of_inboxes (let test = c.loop-post-test.true in let same = c.loop-post.auto in omega arith) done.of_inboxes done.post done.tokens carried)

pub returns-clause-of_inboxes : goal.returns-clause-of_inboxes
returns-clause-of_inboxes g c =
    let done = c.loop-post-test.false in
    let end = c.loop-post.auto in
    (all_collected g.M.Named.source g.M.Named.target g.M.Named.has_terms c.args.inboxes.now c.args.posts.now c.loop-post.post-index c.loop-post.posts _ c.loop-post.invariant c.requires.of_inboxes (omega arith)).0

pub returns-clause-posts : goal.returns-clause-posts
returns-clause-posts g c =
    let done = c.loop-post-test.false in
    let end = c.loop-post.auto in
    (all_collected g.M.Named.source g.M.Named.target g.M.Named.has_terms c.args.inboxes.now c.args.posts.now c.loop-post.post-index c.loop-post.posts _ c.loop-post.invariant c.requires.of_inboxes (omega arith)).1

pub returns-clause-tokens : goal.returns-clause-tokens
returns-clause-tokens g c =
    let done = c.loop-post-test.false in
    let end = c.loop-post.auto in
    (all_collected g.M.Named.source g.M.Named.target g.M.Named.has_terms c.args.inboxes.now c.args.posts.now c.loop-post.post-index c.loop-post.posts _ c.loop-post.invariant c.requires.of_inboxes (omega arith)).2

pub returns-clause-carried : goal.returns-clause-carried
returns-clause-carried g c =
    let M : Type 0 = g.row.M.Denot in
    let items : Vec (Spent M) Global → List (Spent M) = λ v. v.items in
    let done = c.loop-post-test.false in
    let end = c.loop-post.auto in
    sym (map_both all_carried items c.loop-post.lists.items)
    ∙ (all_collected g.M.Named.source g.M.Named.target g.M.Named.has_terms c.args.inboxes.now c.args.posts.now c.loop-post.post-index c.loop-post.posts _ c.loop-post.invariant c.requires.of_inboxes (omega arith)).3
