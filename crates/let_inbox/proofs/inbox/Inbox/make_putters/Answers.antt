use Rattle.std.proofs.Common.{ℕ, ◌-◌, ◌+◌, List, [], ◌∷◌, ◌++◌, map, ◌∙◌, ap, sym, arith}
use Rattle.std.proofs.lemmas.List.{append_assoc, map-append}
use Rattle.std.proofs.lemmas.List.Elements.{All-push, All-same}
use Rattle.std.specs.Prelude.{drop, slice_index}
use Rattle.let_inbox.specs.Rule.{fresh_view, putter_view}
use Rattle.let_inbox.specs.Sources.{others_from}
use Rattle.let_inbox.specs.Tokens.{source_of, IsPutterOf}
use Rattle.let_inbox.proofs.Keeps.{splits}
use Rattle.let_inbox.proofs.Sources.{left_here, left_past}
use Rattle.let_inbox.proofs.inbox.Inbox.make_putters.Goals as goal

pub another-other-requires-clause-rule : goal.another-other-requires-clause-rule
another-other-requires-clause-rule g c =
    let i = c.args.self.now in
    rw (c.loop-source.invariant.left ∙ ap (fresh_view i.dst i.ranks) (left_here i.dst c.loop-source.source i.ranks c.loop-source-test.true c.if-source-self.false))
    (splits g.M.Named.source g.M.Named.target g.M.Named.has_terms _ _ _ _ _)

pub loop-source-preserved-then-source-self : goal.loop-source-preserved-then-source-self
loop-source-preserved-then-source-self g c =
    let i = c.args.self.now in
    let inv = c.loop-source.invariant in
    let more = c.loop-source-test.true in
    let past = left_past i.dst c.loop-source.source i.ranks more c.if-source-self.true in
    record {
      within = omega arith;
      of_queue = inv.of_queue;
      left = inv.left ∙ ap (fresh_view i.dst i.ranks) past;
      putters = inv.putters;
      sources = ap (λ ys. map source_of c.loop-source.putters.items ++ ys) (sym past) ∙ inv.sources;
    }

pub loop-source-preserved : goal.loop-source-preserved
loop-source-preserved g c =
    let i = c.args.self.now in
    let s = c.loop-source.source in
    let inv = c.loop-source.invariant in
    let more = c.loop-source-test.true in
    let here = left_here i.dst s i.ranks more c.if-source-self.false in
    let start = inv.left ∙ ap (fresh_view i.dst i.ranks) here in
    let split = c.another-other.ensures.rule in
    let queue = c.another-other.ensures.queue in
    let pushed = c.in_ok-push.ensures.items in
    let rest : List ℕ = others_from i.dst (s + 1) (i.ranks - (s + 1)) in
    let before = c.loop-source.putters.items in
    record {
      within = omega arith;
      of_queue = (queue.0.0 ∙ inv.of_queue.0, queue.0.2 ∙ inv.of_queue.1);
      left = split.0 ∙ ap (λ v. fresh_view v.rank v.ranks (drop 1 v.unspent)) start;
      putters = All-same (IsPutterOf i) _ _ pushed (All-push (IsPutterOf i) before _ inv.putters record { pass = queue.1; unspent = split.1 ∙ ap (λ v. putter_view v.rank v.ranks (slice_index v.unspent 0)) start });
      sources = ap (λ ps. map source_of ps ++ rest) pushed
          ∙ ap (λ ps. ps ++ rest) (map-append source_of before _)
          ∙ append_assoc (map source_of before) (s ∷ []) rest
          ∙ ap (λ ys. map source_of before ++ ys) (sym here)
          ∙ inv.sources;
    }
