use Rattle.std.proofs.Common.{◌≡◌, List, length, sym, ◌∙◌, ap, subst}
use Rattle.std.specs.Vec.{with_items}
use Rattle.std.proofs.lemmas.List.{with_items_is}
use Rattle.all_to_all.specs.declared.post.Post.{Post}
use Rattle.all_to_all.specs.Exchanging.{HaveSentParcels, CanAllSettle, HaveAllSent}
use Rattle.all_to_all.proofs.Exchanged.{are_posts, have_sent, after_counted, tokens_counted, can_settle}
use Rattle.all_to_all.proofs.tokens.with_tokens.Goals as goal

pub tokens_for-requires-clause-of_inboxes : goal.tokens_for-requires-clause-of_inboxes
tokens_for-requires-clause-of_inboxes g c =
    let given = c.deref_mut.ensures.value in
    let sent = subst (HaveSentParcels g.M.Named.source g.M.Named.target g.M.Named.has_terms c.args.inboxes.now) (sym given) c.requires.sent in
    are_posts g.M.Named.source g.M.Named.target g.M.Named.has_terms sent.0 c.args.inboxes.now c.deref_mut.result.now (ap length given ∙ c.requires.counted) sent.1

pub tokens_for-requires-clause-sent : goal.tokens_for-requires-clause-sent
tokens_for-requires-clause-sent g c =
    let given = c.deref_mut.ensures.value in
    let sent = subst (HaveSentParcels g.M.Named.source g.M.Named.target g.M.Named.has_terms c.args.inboxes.now) (sym given) c.requires.sent in
    have_sent g.M.Named.source g.M.Named.target g.M.Named.has_terms sent.0 c.args.inboxes.now c.deref_mut.result.now (ap length given ∙ c.requires.counted) sent.1

pub returns-clause-posts : goal.returns-clause-posts
returns-clause-posts g c =
    let given = c.deref_mut.ensures.value in
    let after = c.tokens_for.new.posts in
    let had = ap length given ∙ c.requires.counted in
    let sent = subst (HaveSentParcels g.M.Named.source g.M.Named.target g.M.Named.has_terms c.args.inboxes.now) (sym given) c.requires.sent in
    let many = after_counted g.M.Named.source g.M.Named.target g.M.Named.has_terms sent.0 c.args.inboxes.now c.deref_mut.result.now had sent.1 c.each_other_sent_one.ensures after c.in_ok-tokens.tokens.items
    c.in_ok-tokens.ensures.of_inboxes c.in_ok-tokens.ensures.posts c.in_ok-tokens.ensures.tokens c.in_ok-tokens.ensures.carried in
    let kept : (with_items c.args.posts after).items ≡ after = with_items_is c.args.posts after (many ∙ sym had ∙ c.deref_mut.ensures.len) in
    ap length kept ∙ many

pub returns-clause-tokens : goal.returns-clause-tokens
returns-clause-tokens g c =
    let given = c.deref_mut.ensures.value in
    let after = c.tokens_for.new.posts in
    let had = ap length given ∙ c.requires.counted in
    let sent = subst (HaveSentParcels g.M.Named.source g.M.Named.target g.M.Named.has_terms c.args.inboxes.now) (sym given) c.requires.sent in
    tokens_counted g.M.Named.source g.M.Named.target g.M.Named.has_terms sent.0 c.args.inboxes.now c.deref_mut.result.now had sent.1 c.each_other_sent_one.ensures after c.in_ok-tokens.tokens.items
    c.in_ok-tokens.ensures.of_inboxes c.in_ok-tokens.ensures.posts c.in_ok-tokens.ensures.tokens c.in_ok-tokens.ensures.carried

pub returns-clause-settle : goal.returns-clause-settle
returns-clause-settle g c parcel had_sent =
    let M : Type 0 = g.row.M.Denot in
    let given = c.deref_mut.ensures.value in
    let after = c.tokens_for.new.posts in
    let had = ap length given ∙ c.requires.counted in
    let sent = subst (HaveAllSent g.M.Named.source g.M.Named.target g.M.Named.has_terms parcel c.args.inboxes.now) (sym given) had_sent in
    let many = after_counted g.M.Named.source g.M.Named.target g.M.Named.has_terms parcel c.args.inboxes.now c.deref_mut.result.now had sent c.each_other_sent_one.ensures after c.in_ok-tokens.tokens.items
    c.in_ok-tokens.ensures.of_inboxes c.in_ok-tokens.ensures.posts c.in_ok-tokens.ensures.tokens c.in_ok-tokens.ensures.carried in
    let kept : (with_items c.args.posts after).items ≡ after = with_items_is c.args.posts after (many ∙ sym had ∙ c.deref_mut.ensures.len) in
    subst (λ (l : List (Post M)). CanAllSettle g.M.Named.source g.M.Named.target g.M.Named.has_terms parcel c.args.inboxes.now l c.in_ok-tokens.tokens.items) (sym kept)
    (can_settle g.M.Named.source g.M.Named.target g.M.Named.has_terms parcel c.args.inboxes.now c.deref_mut.result.now had sent c.each_other_sent_one.ensures after c.in_ok-tokens.tokens.items
    c.in_ok-tokens.ensures.of_inboxes c.in_ok-tokens.ensures.posts c.in_ok-tokens.ensures.tokens c.in_ok-tokens.ensures.carried)
