use Rattle.std.proofs.Common.{◌≡◌, ◌+◌, ◌<◌, [], ◌∷◌, ◌++◌, List, length, map, map-id, get_or, Vec, Global, ap, sym, ◌∙◌, arith}
use Rattle.std.specs.List.{range_with_len}
use Rattle.std.proofs.lemmas.List.{length-map, length-set, get_or-map, map-set}
use Rattle.std.proofs.lemmas.Iterator.Adapters.{YieldsList-from_vec}
use Rattle.std.proofs.lemmas.Iterator.Consumers.{YieldsList-turn, YieldsList-end}
use Rattle.let_inbox.specs.declared.tokens.Spent.{Spent}
use Rattle.all_to_all.specs.Handed.{all_carried, tokens_at, with_sent}
use Rattle.all_to_all.proofs.Delivery.{tokens_for_rank, delivered-more, each_has, carried_more, targets_are, target_within}
use Rattle.all_to_all.proofs.Opened.{same_at_each}
use Rattle.all_to_all.proofs.post.Post.hand_over.Goals as goal

pub bounds-lists-target : goal.bounds-lists-target
bounds-lists-target g c =
    let M : Type 0 = g.row.M.Denot in
    let inboxes = c.args.inboxes.now in
    let rank = c.args.self.now.rank in
    let taken = c.replace-tokens.result in
    let t = c.in-Some.field-0 in
    let start = c.into_iter-target-iterator.ensures.into_iter_gives in
    let turn = YieldsList-turn (YieldsList-from_vec taken.items start.0 (start.1 ∙ taken.ok.0)) c.loop-target.yielded c.loop-target.target-iterator c.loop-target.yielded_by c.next.result c.next.new.self t c.in-Some.is c.next.ensures.steps in
    let is : taken.items ≡ c.args.self.now.outgoing.tokens.items = λ k. (c.replace-tokens.ensures.value k).items in
    let long = ap length is in
    let at : t ≡ get_or c.args.self.now.outgoing.tokens.items (length c.loop-target.yielded) t = turn.1 ∙ ap (λ ts. get_or ts (length c.loop-target.yielded) t) is in
    let within = target_within g.M.Named.source g.M.Named.target inboxes rank c.others_are_the_sources.ensures (length inboxes) c.args.self.now.outgoing.tokens.items c.requires.of_inboxes.outgoing.tokens c.requires.sent.sent_to
    (length c.loop-target.yielded) t (let early = turn.0 in omega arith) at in
    let count = c.loop-target.invariant.count in
    let all = c.requires.tokens.all in
    let same = length-map c.args.lists.now (λ (v : Vec (Spent M) Global). v.items) in
    omega arith

pub loop-target-preserved : goal.loop-target-preserved
loop-target-preserved g c =
    let M : Type 0 = g.row.M.Denot in
    let items : Vec (Spent M) Global → List (Spent M) = λ v. v.items in
    let lists = c.loop-target.lists in
    let t = c.in-Some.field-0 in
    let inv = c.loop-target.invariant in
    let inboxes = c.args.inboxes.now in
    let taken = c.replace-tokens.result in
    let start = c.into_iter-target-iterator.ensures.into_iter_gives in
    let turn = YieldsList-turn (YieldsList-from_vec taken.items start.0 (start.1 ∙ taken.ok.0)) c.loop-target.yielded c.loop-target.target-iterator c.loop-target.yielded_by c.next.result c.next.new.self t c.in-Some.is c.next.ensures.steps in
    let is : taken.items ≡ c.args.self.now.outgoing.tokens.items = λ k. (c.replace-tokens.ensures.value k).items in
    let many = ap length is in
    let below = target_within g.M.Named.source g.M.Named.target inboxes c.args.self.now.rank c.others_are_the_sources.ensures (length inboxes) c.args.self.now.outgoing.tokens.items c.requires.of_inboxes.outgoing.tokens c.requires.sent.sent_to
    (length c.loop-target.yielded) t (let early = turn.0 in omega arith) (turn.1 ∙ ap (λ ts. get_or ts (length c.loop-target.yielded) t) is) in
    let within : t.target < length lists =
    let count = inv.count in let all = c.requires.tokens.all in let same = length-map c.args.lists.now items in omega arith in
    let long = length-map lists items in
    let at = get_or-map items lists t.target c.index-lists-target.result [] within in
    record {
      count = length-set lists t.target c.push.new.self ∙ inv.count;
      delivered = λ rank.
          ap (λ ls. tokens_at ls rank) (map-set items lists t.target c.push.new.self)
          ∙ delivered-more (map items c.args.lists.now) (map items lists) c.loop-target.yielded t c.push.new.self.items (omega arith)
          (c.in_ok-push.ensures.items ∙ ap (λ ss. ss ++ t.spent ∷ []) (sym at)) inv.delivered rank;
    }

pub returns-clause-tokens : goal.returns-clause-tokens
returns-clause-tokens g c =
    let M : Type 0 = g.row.M.Denot in
    let items : Vec (Spent M) Global → List (Spent M) = λ v. v.items in
    let inboxes = c.args.inboxes.now in
    let rank = c.args.self.now.rank in
    let tokens = c.args.self.now.outgoing.tokens.items in
    let taken = c.replace-tokens.result in
    let lists = c.loop-target.lists in
    let inv = c.loop-target.invariant in
    let fit = c.requires.of_inboxes.outgoing.tokens in
    let start = c.into_iter-target-iterator.ensures.into_iter_gives in
    let end = YieldsList-end (YieldsList-from_vec taken.items start.0 (start.1 ∙ taken.ok.0)) c.loop-target.yielded c.loop-target.target-iterator c.loop-target.yielded_by c.next.result c.next.new.self c.in-None.is c.next.ensures.steps in
    let all : c.loop-target.yielded ≡ tokens = sym (map-id c.loop-target.yielded) ∙ end.0 ∙ (λ k. (c.replace-tokens.ensures.value k).items) in
    each_has g.M.Named.source g.M.Named.target inboxes rank c.others_stand_in_turn.ensures c.others_grow.ensures (map items c.args.lists.now) (map items lists) tokens
    (length-map lists items ∙ inv.count ∙ sym (length-map c.args.lists.now items))
    (λ r. inv.delivered r ∙ ap (λ ts. tokens_at (map items c.args.lists.now) r ++ tokens_for_rank r ts) all)
    c.requires.tokens fit (targets_are g.M.Named.source g.M.Named.target inboxes rank (length inboxes) tokens fit c.requires.sent.sent_to)

pub returns-clause-carried : goal.returns-clause-carried
returns-clause-carried g c =
    let M : Type 0 = g.row.M.Denot in
    let items : Vec (Spent M) Global → List (Spent M) = λ v. v.items in
    let inboxes = c.args.inboxes.now in
    let rank = c.args.self.now.rank in
    let tokens = c.args.self.now.outgoing.tokens.items in
    let taken = c.replace-tokens.result in
    let lists = c.loop-target.lists in
    let inv = c.loop-target.invariant in
    let fit = c.requires.of_inboxes.outgoing.tokens in
    let first = map items c.args.lists.now in
    let start = c.into_iter-target-iterator.ensures.into_iter_gives in
    let end = YieldsList-end (YieldsList-from_vec taken.items start.0 (start.1 ∙ taken.ok.0)) c.loop-target.yielded c.loop-target.target-iterator c.loop-target.yielded_by c.next.result c.next.new.self c.in-None.is c.next.ensures.steps in
    let all : c.loop-target.yielded ≡ tokens = sym (map-id c.loop-target.yielded) ∙ end.0 ∙ (λ k. (c.replace-tokens.ensures.value k).items) in
    let more = carried_more g.M.Named.source g.M.Named.target inboxes rank first (map items lists) tokens (λ r. inv.delivered r ∙ ap (λ ts. tokens_at first r ++ tokens_for_rank r ts) all) fit in
    let long : length lists ≡ length inboxes = inv.count ∙ sym (length-map c.args.lists.now items) ∙ c.requires.tokens.all in
    same_at_each (λ (v : Vec (Spent M) Global). all_carried v.items) (with_sent g.M.Named.target c.args.self.now first) 0 lists
    (λ k d within.
    let is : k ≡ 0 + k = omega arith in
    ap all_carried (sym (get_or-map items lists k d [] within)) ∙ more k ∙ ap (with_sent g.M.Named.target c.args.self.now first) is)
    ∙ ap (λ n. map (with_sent g.M.Named.target c.args.self.now first) (range_with_len 0 n)) long
