use Rattle.std.proofs.Common.{◌≡◌, List, [], ◌++◌, length, map, take, drop, sym, ◌∙◌, ap, subst}
use Rattle.std.specs.List.{All, range_with_len, flat_map, zip}
use Rattle.std.proofs.lemmas.Result.{IfOk-weaker}
use Rattle.pf_model.specs.Division.{IsDivision}
use Rattle.pf_model.specs.Domains.{particles_of}
use Rattle.pf_model.specs.Particles.{by_id}
use Rattle.multisection.specs.Regions.{Regions}
use Rattle.let_inbox.specs.declared.inbox.Inbox.{Inbox}
use Rattle.exchange.specs.States.{Package}
use Rattle.all_to_all.specs.declared.post.Post.{Post}
use Rattle.all_to_all.specs.Handed.{EachHasTokens, sent_for}
use Rattle.all_to_all.specs.Posts.{state_of}
use Rattle.exchange_phase.specs.Packages.{src_of, dst_of, ArePosts}
use Rattle.exchange_phase.specs.Arriving.{due_of, CanSettle, AreSettledFrom}
use Rattle.exchange_phase.specs.Ranks.{HaveTogether, with_owners}
use Rattle.exchange_phase.proofs.Home.{own_by, each_sent_to_all, arrives}
use Rattle.exchange_phase.proofs.phases.exchanged.Goals as goal

pub leave_all-requires-clause-ranks : goal.leave_all-requires-clause-ranks
leave_all-requires-clause-ranks g c κs within =
    let home = own_by c.phase_laws.ensures c.args.grid c.args.now.now c.args.states.items c.requires.bodies c.requires.together c.args.domains.now.cuts (ap (λ (d : Regions). d.cuts) c.requires.domains) in
    home.ranks ∙ ap (range_with_len 0) (sym (c.deref.ensures.len ∙ c.in_ok-inboxes.ensures.inboxes ∙ c.ranks.ensures))

pub tokens_for-requires-clause-sent : goal.tokens_for-requires-clause-sent
tokens_for-requires-clause-sent g c =
    let s = c.args.domains.now.cuts in
    each_sent_to_all c.phase_laws.ensures c.args.grid c.args.now.now c.args.states.items c.requires.bodies c.requires.together s (ap (λ (d : Regions). d.cuts) c.requires.domains)
    c.deref.result.now (c.deref.ensures.len ∙ c.in_ok-inboxes.ensures.inboxes ∙ c.ranks.ensures) c.in_ok-left.posts.items c.in_ok-left.ensures.sent
    c.deref-2.result.now c.deref_mut.result.now (c.deref.ensures.value ∙ sym c.deref-2.ensures.value) c.deref_mut.ensures.value

pub settle_all-requires-clause-each : goal.settle_all-requires-clause-each
settle_all-requires-clause-each g c κs within =
    let s = c.args.domains.now.cuts in
    let posts = c.in_ok-left.posts.items in
    let back : c.deref-2.result.now ≡ c.deref.result.now = c.deref-2.ensures.value ∙ sym c.deref.ensures.value in
    let home = arrives c.phase_laws.ensures c.args.grid c.args.now.now c.args.states.items c.requires.bodies c.requires.together s (ap (λ (d : Regions). d.cuts) c.requires.domains)
    c.deref.result.now (c.deref.ensures.len ∙ c.in_ok-inboxes.ensures.inboxes ∙ c.ranks.ensures) posts c.in_ok-left.ensures.sent
    c.in_ok-left.left.items c.in_ok-left.ensures.left c.tokens_for.new.posts
    (subst (λ (is : List (Inbox Package)). ArePosts is c.tokens_for.new.posts) back c.in_ok-tokens.ensures.of_inboxes)
    (c.in_ok-tokens.ensures.posts ∙ ap (map (λ (p : Post Package). record (state_of p) { sent = [] })) c.deref_mut.ensures.value)
    c.in_ok-tokens.tokens.items
    (subst (λ (is : List (Inbox Package)). EachHasTokens src_of is (length is) (map (λ l. l.items) c.in_ok-tokens.tokens.items)) back c.in_ok-tokens.ensures.tokens)
    (c.in_ok-tokens.ensures.carried ∙ (λ i. map (λ rank. flat_map (sent_for dst_of rank) (c.deref_mut.ensures.value i)) (range_with_len 0 (length (back i)))))
    c.in_ok-left.posts.len (drop (length c.tokens_for.new.posts) posts) (c.in_ok-left.posts.ok.0 ∙ sym (c.tokens_for.auto.posts ∙ ap length c.deref_mut.ensures.value)) in
    subst (λ (is : List (Inbox Package)). All (λ t. CanSettle is (due_of t)) (zip (zip c.in_ok-left.left.items (take c.in_ok-left.posts.len (c.tokens_for.new.posts ++ drop (length c.tokens_for.new.posts) posts))) c.in_ok-tokens.tokens.items))
    (c.deref.ensures.value ∙ sym c.deref-3.ensures.value) home.can

pub returns-clause-owners : goal.returns-clause-owners
returns-clause-owners g c =
    let s = c.args.domains.now.cuts in
    let posts = c.in_ok-left.posts.items in
    let back : c.deref-2.result.now ≡ c.deref.result.now = c.deref-2.ensures.value ∙ sym c.deref.ensures.value in
    let home = arrives c.phase_laws.ensures c.args.grid c.args.now.now c.args.states.items c.requires.bodies c.requires.together s (ap (λ (d : Regions). d.cuts) c.requires.domains)
    c.deref.result.now (c.deref.ensures.len ∙ c.in_ok-inboxes.ensures.inboxes ∙ c.ranks.ensures) posts c.in_ok-left.ensures.sent
    c.in_ok-left.left.items c.in_ok-left.ensures.left c.tokens_for.new.posts
    (subst (λ (is : List (Inbox Package)). ArePosts is c.tokens_for.new.posts) back c.in_ok-tokens.ensures.of_inboxes)
    (c.in_ok-tokens.ensures.posts ∙ ap (map (λ (p : Post Package). record (state_of p) { sent = [] })) c.deref_mut.ensures.value)
    c.in_ok-tokens.tokens.items
    (subst (λ (is : List (Inbox Package)). EachHasTokens src_of is (length is) (map (λ l. l.items) c.in_ok-tokens.tokens.items)) back c.in_ok-tokens.ensures.tokens)
    (c.in_ok-tokens.ensures.carried ∙ (λ i. map (λ rank. flat_map (sent_for dst_of rank) (c.deref_mut.ensures.value i)) (range_with_len 0 (length (back i)))))
    c.in_ok-left.posts.len (drop (length c.tokens_for.new.posts) posts) (c.in_ok-left.posts.ok.0 ∙ sym (c.tokens_for.auto.posts ∙ ap length c.deref_mut.ensures.value)) in
    IfOk-weaker c.settle_all.result
    (λ after. AreSettledFrom (map due_of (zip (zip c.in_ok-left.left.items (take c.in_ok-left.posts.len (c.tokens_for.new.posts ++ drop (length c.tokens_for.new.posts) posts))) c.in_ok-tokens.tokens.items)) after.items)
    (λ after. after.items ≡ with_owners c.args.grid c.args.now.now) (λ after are. home.owners after.items are) c.settle_all.ensures

pub returns-clause-together : goal.returns-clause-together
returns-clause-together g c =
    let division = subst IsDivision c.grid.view_is c.grid.invariant in
    let js = c.args.now.now in
    let together =
    c.ranks_by_number_have_together.ensures c.args.grid js (λ rank. by_id (particles_of c.args.grid js rank)) (c.ranks_by_id_have_all.ensures c.args.grid js division c.requires.bodies.distinct) in
    IfOk-weaker c.settle_all.result (λ after. after.items ≡ with_owners c.args.grid c.args.now.now) (λ after. HaveTogether c.args.grid c.args.now.now after.items)
    (λ after is. subst (HaveTogether c.args.grid c.args.now.now) (sym is) together) (returns-clause-owners g c)
