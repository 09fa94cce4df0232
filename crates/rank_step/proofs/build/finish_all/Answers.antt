use Rattle.std.proofs.Common.{◌≡◌, ◌≤◌, length, get_or, sym, ◌∙◌, ap, subst, arith}
use Rattle.std.proofs.lemmas.Iterator.Adapters.{YieldsList-from_vec}
use Rattle.std.proofs.lemmas.Iterator.Consumers.{YieldsList-turn, YieldsList-end}
use Rattle.std.proofs.lemmas.List.{get_or_default, length_push}
use Rattle.group_lists.specs.declared.gather.TheConstants.{MOST_ENTRIES}
use Rattle.group_lists.specs.Gathering.{Gathering, IsWhole, gathered_count}
use Rattle.tree_phase.specs.Trees.{IsFinished}
use Rattle.rank_step.proofs.TreeLemmas.{each_of_none, each_pushed, long_pushed}
use Rattle.rank_step.proofs.build.finish_all.Goals as goal

pub loop-gather-init : goal.loop-gather-init
loop-gather-init g c =
    let none = ap length c.in_ok-finished.ensures.items in
    (none, each_of_none (λ rank r. (gather : Gathering) → IsFinished g.T.Terms.theta g.T.Terms.grid g.T.Terms.particles (get_or c.args.gathers.items rank gather) r) c.in_ok-finished.finished.items none)

pub finish-requires-clause-whole : goal.finish-requires-clause-whole
finish-requires-clause-whole g c =
    let start = c.into_iter-gather-iterator.ensures.into_iter_gives in
    let turn = YieldsList-turn (YieldsList-from_vec c.args.gathers.items start.0 (start.1 ∙ c.args.gathers.ok.0)) c.loop-gather.yielded c.loop-gather.gather-iterator c.loop-gather.yielded_by c.next.result c.next.new.self c.in-Some.gather c.in-Some.is c.next.ensures.steps in
    subst (IsWhole g.T.Terms.grid) (sym turn.1) (c.requires.whole (length c.loop-gather.yielded) c.in-Some.gather turn.0)

pub finish-requires-clause-few : goal.finish-requires-clause-few
finish-requires-clause-few g c =
    let start = c.into_iter-gather-iterator.ensures.into_iter_gives in
    let turn = YieldsList-turn (YieldsList-from_vec c.args.gathers.items start.0 (start.1 ∙ c.args.gathers.ok.0)) c.loop-gather.yielded c.loop-gather.gather-iterator c.loop-gather.yielded_by c.next.result c.next.new.self c.in-Some.gather c.in-Some.is c.next.ensures.steps in
    subst (λ (v : Gathering). gathered_count g.T.Terms.theta g.T.Terms.grid g.T.Terms.particles v ≤ MOST_ENTRIES) (sym turn.1) (c.requires.few (length c.loop-gather.yielded) c.in-Some.gather turn.0)

pub loop-gather-preserved : goal.loop-gather-preserved
loop-gather-preserved g c =
    let start = c.into_iter-gather-iterator.ensures.into_iter_gives in
    let turn = YieldsList-turn (YieldsList-from_vec c.args.gathers.items start.0 (start.1 ∙ c.args.gathers.ok.0)) c.loop-gather.yielded c.loop-gather.gather-iterator c.loop-gather.yielded_by c.next.result c.next.new.self c.in-Some.gather c.in-Some.is c.next.ensures.steps in
    let before = c.loop-gather.invariant in
    let gathers = c.args.gathers.items in
    let n = length c.loop-gather.yielded in
    let pushed = c.in_ok-push.ensures.items in
    let one = c.in_ok-finish.field-0 in
    let more = length_push c.loop-gather.yielded c.in-Some.gather in
    let long = long_pushed c.loop-gather.finished.items c.push.new.self.items one n pushed before.0 in (
      omega arith,
      each_pushed (λ rank r. (gather : Gathering) → IsFinished g.T.Terms.theta g.T.Terms.grid g.T.Terms.particles (get_or gathers rank gather) r) c.loop-gather.finished.items c.push.new.self.items one n pushed before.0 before.1
          (λ gather.
          let here : c.in-Some.gather ≡ get_or gathers n gather = turn.1 ∙ get_or_default gathers n c.in-Some.gather gather turn.0 in
          subst (λ (v : Gathering). IsFinished g.T.Terms.theta g.T.Terms.grid g.T.Terms.particles v one) here c.in_ok-finish.ensures),
    )

pub returns : goal.returns
returns g c =
    let start = c.into_iter-gather-iterator.ensures.into_iter_gives in
    let all = YieldsList-end (YieldsList-from_vec c.args.gathers.items start.0 (start.1 ∙ c.args.gathers.ok.0)) c.loop-gather.yielded c.loop-gather.gather-iterator c.loop-gather.yielded_by c.next.result c.next.new.self c.in-None.is c.next.ensures.steps in
    record { counted = c.loop-gather.invariant.0 ∙ all.1; each = c.loop-gather.invariant.1 }
