use Rattle.std.proofs.Common.{◌≡◌, ℕ, ◌<◌, List, Vec, Global, ◌++◌, length, get_or, take, drop, sym, ◌∙◌, ap, subst, arith}
use Rattle.std.proofs.Math.Seq.{take-append_seam}
use Rattle.rank_workers.specs.Hands.{AreDealt, ChangesHand}
use Rattle.rank_workers.proofs.Driven.{each_rank_is_driven}
use Rattle.rank_workers.proofs.workers.drive.Goals as goal

pub returns-clause-each : goal.returns-clause-each
returns-clause-each g c =
    let X : Type 0 = g.row.X.Denot in
    let W = c.args.workers in
    let dealt = c.in_ok-hands.ensures in
    let hands : List (Vec X Global) = c.in_ok-hands.hands.items in
    let after : List (Vec X Global) = c.drive_hands.new.hands in
    let lent : c.deref_mut.result.now ≡ hands = c.deref_mut.ensures.value in
    let many : length c.deref_mut.result.now ≡ W = ap length lent ∙ dealt.places.one_each in
    let long : c.in_ok-hands.hands.len ≡ W = c.in_ok-hands.hands.ok.0 ∙ dealt.places.one_each in
    let kept : length after ≡ W = c.drive_hands.auto.hands ∙ many in
    let written : take c.in_ok-hands.hands.len (after ++ drop (length after) hands) ≡ after = ap (λ n. take n (after ++ drop (length after) hands)) (long ∙ sym kept) ∙ take-append_seam after (drop (length after) hands) in
    let again : AreDealt W c.gather.result.items after = subst (AreDealt W c.gather.result.items) written (subst (λ n. AreDealt n c.gather.result.items (take c.in_ok-hands.hands.len (after ++ drop (length after) hands))) long c.gather.ensures.each) in
    let changes : (w : ℕ) (h : Vec X Global) → w < W → ChangesHand g.F.Fn c.args.f.now W w (get_or hands w h).items (get_or after w h).items = λ w h lt.
    subst (λ (hs : List (Vec X Global)). ChangesHand g.F.Fn c.args.f.now W w (get_or hs w h).items (get_or after w h).items) lent
    (subst (λ n. ChangesHand g.F.Fn c.args.f.now n w (get_or c.deref_mut.result.now w h).items (get_or after w h).items) many (c.drive_hands.ensures w h (omega arith))) in
    each_rank_is_driven g.F.Fn c.args.f.now W c.args.ranks.items hands dealt after c.gather.result.items c.args.ranks c.requires.some
    (sym c.gather.result.ok.0 ∙ c.gather.ensures.len ∙ c.len-count.ensures ∙ c.args.ranks.ok.0) again changes
