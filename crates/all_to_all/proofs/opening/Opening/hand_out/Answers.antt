use Rattle.std.proofs.Common.{◌≡◌, length, sym, subst, arith}
use Rattle.std.proofs.lemmas.Bool.{false≢true}
use Rattle.std.proofs.lemmas.List.{with_items_is}
use Rattle.all_to_all.specs.Opening.{IsHandedOut}
use Rattle.all_to_all.proofs.Handing.{some_left, skipped, handed_on}
use Rattle.all_to_all.proofs.opening.Opening.hand_out.Goals as goal

pub loop-post-preserved-then-post-target : goal.loop-post-preserved-then-post-target
loop-post-preserved-then-post-target g c =
    skipped g.M.Named.source g.M.Named.target g.M.Named.has_terms c.others_stand_in_turn.ensures c.others_are_few.ensures c.args.column.target c.loop-post.post-index c.args.self.now.inboxes.items c.loop-post.post-items _ c.loop-post.invariant
    (let test = c.loop-post-test.true in let same = c.loop-post.auto in omega arith) c.requires.column.within c.post-item.result c.if-post-target.true

pub unreachable-requires : goal.unreachable-requires
unreachable-requires g c =
    let some = some_left g.M.Named.source g.M.Named.target g.M.Named.has_terms c.others_stand_in_turn.ensures c.others_are_few.ensures c.args.column.target c.loop-post.post-index c.args.self.now.inboxes.items c.loop-post.post-items _ c.loop-post.invariant
    (let test = c.loop-post-test.true in let same = c.loop-post.auto in omega arith) c.requires.column.within c.post-item.result c.if-post-target.false in
    let ok = c.loop-post.putters.rest.ok in
    let none = c.in_default.ensures.variant.1 (omega arith) in
    false≢true none

pub loop-post-preserved : goal.loop-post-preserved
loop-post-preserved g c =
    handed_on g.M.Named.source g.M.Named.target g.M.Named.has_terms c.others_stand_in_turn.ensures c.others_are_few.ensures c.args.column.target c.loop-post.post-index c.args.self.now.inboxes.items c.loop-post.post-items _ c.loop-post.invariant
    (let test = c.loop-post-test.true in let same = c.loop-post.auto in omega arith) c.requires.column.within c.post-item.result c.in-Some.putter _ c.push.new.self c.if-post-target.false c.in-Some.ensures.items c.in_ok-push.ensures.items

pub returns-clause-here : goal.returns-clause-here
returns-clause-here g c =
    let inboxes = c.args.self.now.inboxes.items in
    let posts = c.loop-post.post-items in
    let done = c.loop-post-test.false in
    let same = c.loop-post.auto in
    let lent = c.deref_mut-post-items.ensures.len in
    let inv = c.loop-post.invariant in
    let count = inv.count in
    let long : length posts ≡ c.args.self.now.posts.len = omega arith in
    subst (IsHandedOut g.M.Named.source g.M.Named.target g.M.Named.has_terms c.args.column.target inboxes) (sym (with_items_is c.args.self.now.posts posts long)) record {
      count = inv.count;
      fit = inv.fit;
      room = inv.room;
      are = λ rank d in_ranks. inv.handed rank d (omega arith) in_ranks;
    }
