use Rattle.std.proofs.Common.{◌≡◌, ℕ, ◌+◌, ◌<◌, ◌≤◌, List, [], ◌∷◌, ◌++◌, length, map, take, Vec, Global, refl, ap, sym, ◌∙◌, subst, arith}
use Rattle.std.proofs.lemmas.List.{with_items_is}
use Rattle.let_inbox.specs.declared.tokens.Spent.{Spent}
use Rattle.all_to_all.specs.Posts.{PostState}
use Rattle.all_to_all.specs.Handed.{EachHasTokens, AreTokensBelow}
use Rattle.worker_examples.proofs.Lists.{refilled}
use Rattle.worker_examples.proofs.desks.hand_over_between.Goals as goal

pub hand_over-requires-2-clause-tokens : goal.hand_over-requires-2-clause-tokens
hand_over-requires-2-clause-tokens g c =
    let M : Type 0 = g.row.M.Denot in
    let items : Vec (Spent M) Global → List (Spent M) = λ v. v.items in
    let new = c.hand_over.new.lists in
    let lists = c.in_ok-lists.lists in
    let long : length new ≡ lists.len = let a = c.hand_over.auto in let b = c.deref_mut.ensures.len in omega arith in
    let now : c.deref_mut-2.result.now ≡ new = c.deref_mut-2.ensures.value ∙ with_items_is lists new long in
    let ranks = c.requires.ranks in
    let next : c.args.first.now.post.rank + 1 ≡ c.args.second.now.post.rank = omega arith in
    subst (λ (z : ℕ × List (Vec (Spent M) Global)). EachHasTokens g.M.Named.source c.args.inboxes.now z.0 (map items z.1)) (λ k. (next k, sym now k)) c.in_ok-hand_over.ensures.tokens

pub returns-clause-first : goal.returns-clause-first
returns-clause-first g c =
    let M : Type 0 = g.row.M.Denot in
    let items : Vec (Spent M) Global → List (Spent M) = λ v. v.items in
    let inboxes = c.args.inboxes.now in
    let new = c.hand_over-2.new.lists in
    let lists = c.in_ok-lists.lists in
    let long : length new ≡ lists.len = let a = c.hand_over-2.auto in let b = c.deref_mut-2.ensures.len in omega arith in
    let both = sym (refilled lists.len new _ long) ∙ c.in-Some.ensures in
    let done = c.in_ok-hand_over.ensures in
    let ranks = c.requires.ranks in
    let two = c.requires.two in
    let all : c.args.second.now.post.rank + 1 ≡ length inboxes = omega arith in
    let tokens = subst (λ (z : ℕ × List (Vec (Spent M) Global)). EachHasTokens g.M.Named.source inboxes z.0 (map items z.1)) (λ k. (all k, both k)) c.in_ok-hand_over-2.ensures.tokens in
    let rank : 0 ≡ c.hand_over.new.self.rank = sym (ap (λ (s : PostState M). s.rank) done.post ∙ ranks.0) in
    record {
      of_inboxes = done.of_inboxes;
      unsettled = ap (λ (s : PostState M). s.settled) done.post ∙ c.requires.first.unsettled;
      tokens_are = subst (λ r. AreTokensBelow g.M.Named.source (length inboxes) inboxes r c.in-Some.for_first.items) rank (tokens.each 0 (omega arith));
    }

pub returns-clause-second : goal.returns-clause-second
returns-clause-second g c =
    let M : Type 0 = g.row.M.Denot in
    let items : Vec (Spent M) Global → List (Spent M) = λ v. v.items in
    let inboxes = c.args.inboxes.now in
    let new = c.hand_over-2.new.lists in
    let lists = c.in_ok-lists.lists in
    let long : length new ≡ lists.len = let a = c.hand_over-2.auto in let b = c.deref_mut-2.ensures.len in omega arith in
    let both = sym (refilled lists.len new _ long) ∙ c.in-Some.ensures in
    let done = c.in_ok-hand_over-2.ensures in
    let ranks = c.requires.ranks in
    let two = c.requires.two in
    let all : c.args.second.now.post.rank + 1 ≡ length inboxes = omega arith in
    let tokens = subst (λ (z : ℕ × List (Vec (Spent M) Global)). EachHasTokens g.M.Named.source inboxes z.0 (map items z.1)) (λ k. (all k, both k)) c.in_ok-hand_over-2.ensures.tokens in
    let rank : 1 ≡ c.hand_over-2.new.self.rank = sym (ap (λ (s : PostState M). s.rank) done.post ∙ ranks.1) in
    record {
      of_inboxes = done.of_inboxes;
      unsettled = ap (λ (s : PostState M). s.settled) done.post ∙ c.requires.second.unsettled;
      tokens_are = subst (λ r. AreTokensBelow g.M.Named.source (length inboxes) inboxes r c.in-Some.for_second.items) rank (tokens.each 1 (omega arith));
    }
