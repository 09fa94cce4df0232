use Rattle.std.proofs.Common.{◌∙◌, ◌++◌, [], sym, ap, subst, rules, Some, map, flat_map, All}
use Rattle.std.specs.Prelude.{Contains}
use Rattle.std.proofs.lemmas.List.{append_assoc, flat_map_more}
use Rattle.std.proofs.lemmas.List.Elements.{All-pop}
use Rattle.let_inbox.specs.Rule.{AllSettled}
use Rattle.let_inbox.specs.Tokens.{carried, settled_by, taken_by, IsSpentOf}
use Rattle.let_inbox.proofs.Keeps.{unites, settled_rest, all_carried}
use Rattle.let_inbox.proofs.Settles.{no_more, every_settled}
use Rattle.let_inbox.proofs.inbox.Inbox.settle.Goals as goal

pub absorb-requires-clause-rule : goal.absorb-requires-clause-rule
absorb-requires-clause-rule g c =
    let of = All-pop (IsSpentOf g.M.Named.source c.args.self.now) _ _ (Some c.in-Some.field-0) c.in-Some.ensures.items c.loop-pass.invariant.left in
    rw of.1.spent (unites g.M.Named.source g.M.Named.target g.M.Named.has_terms _ _ _ _ _ _ c.loop-pass.invariant.of_inbox.takes.0)

pub loop-pass-preserved : goal.loop-pass-preserved
loop-pass-preserved g c =
    let token = c.in-Some.field-0 in
    let left = c.pop.new.self.items in
    let items = c.in-Some.ensures.items in
    let inv = c.loop-pass.invariant in
    let of = All-pop (IsSpentOf g.M.Named.source c.args.self.now) _ _ (Some token) items inv.left in
    let same = c.absorb.ensures.queue in
    let now = c.absorb.ensures.rule in
    let was = inv.of_inbox in
    record {
      of_inbox = record {
        pass = (same.0 ∙ was.pass.0, same.2 ∙ was.pass.1);
        takes = (ap (λ v. v.opens) now ∙ was.takes.0, ap (λ v. v.knows) now ∙ was.takes.1, ap (λ v. v.takes) now ∙ was.takes.2);
        place = (ap (λ v. v.rank) now ∙ was.place.0, ap (λ v. v.ranks) now ∙ was.place.1);
        arrivals = was.arrivals ∙ ap (λ v. map g.M.Named.source v.taken) (sym now);
        room = was.room;
      };
      taken = ap (λ v. v.taken) now ∙ inv.taken;
      left = of.0;
      settled = ap (λ v. flat_map carried left ++ v.put) now
          ∙ sym (append_assoc (flat_map carried left) (carried token) (settled_by c.loop-pass.t))
          ∙ ap (λ xs. xs ++ settled_by c.loop-pass.t) (flat_map_more carried [] left token ∙ sym (ap (flat_map carried) items))
          ∙ inv.settled;
    }

pub learn_as-requires-clause-rule : goal.learn_as-requires-clause-rule
learn_as-requires-clause-rule g c =
    let inv = c.loop-pass.invariant in
    let none = no_more c.loop-pass.spent.items (let len = c.in_default.ensures.cases in search rules) in
    let all = ap (λ xs. flat_map carried xs ++ settled_by c.loop-pass.t) (sym none) ∙ inv.settled in
    settled_rest g.M.Named.source g.M.Named.target g.M.Named.has_terms _ _ inv.of_inbox.takes
    (every_settled g.M.Named.source c.args.self.now c.loop-pass.t c.args.spent.items (settled_by c.args.t.now) inv.of_inbox c.requires.tokens c.requires.every all)

pub returns-clause-settled : goal.returns-clause-settled
returns-clause-settled g c =
    let inv = c.loop-pass.invariant in
    let none = no_more c.loop-pass.spent.items (let len = c.in_default.ensures.cases in search rules) in
    let all = ap (λ xs. flat_map carried xs ++ settled_by c.loop-pass.t) (sym none) ∙ inv.settled in
    let known = every_settled g.M.Named.source c.args.self.now c.loop-pass.t c.args.spent.items (settled_by c.args.t.now) inv.of_inbox c.requires.tokens c.requires.every all in
    subst (AllSettled g.M.Named.source) (sym c.learn_as.ensures.queue.1) known

pub returns-clause-carried : goal.returns-clause-carried
returns-clause-carried g c =
    let rest = c.learn_as.ensures.rule in
    let carries = all_carried rest.0 (taken_by c.loop-pass.t) (settled_by c.loop-pass.t) rest.1 in
    subst (λ v. All (Contains v.put) v.taken) (sym c.learn_as.ensures.queue.1) carries
