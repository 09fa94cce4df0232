use Rattle.std.proofs.Common.{◌≡◌, ℕ, ◌+◌, ◌*◌, ◌<◌, ◌≤◌, length, get_or, set, sym, ◌∙◌, subst, below_more, arith}
use Rattle.std.specs.Fork.{ChangesAt}
use Rattle.std.proofs.lemmas.List.{length-set, get_or-set_same, get_or-set_other, get_or_default}
use Rattle.rank_workers.proofs.workers.drive_hand.Goals as goal

pub loop-place-preserved : goal.loop-place-preserved
loop-place-preserved g c =
    let k = c.loop-place.place in let xs = c.args.hand.now.items in let ys = c.loop-place.hand.items in let y = c.drive_rank.new.x in
    let R : ℕ → g.row.X.Denot → g.row.X.Denot → Type 0 = λ j. ChangesAt g.F.Fn c.args.f.now (j * c.args.workers + c.args.worker) in
    let long = c.loop-place.invariant.len in
    let l : k < length ys = omega arith in record {
      len = length-set ys k y ∙ long;
      rest = λ j d h. get_or-set_other ys k j y d (λ e. omega arith) ∙ c.loop-place.invariant.rest j d (omega arith);
      past = λ j d h. below_more (λ i. R i (get_or xs i d) (get_or (set ys k y) i d)) k
          (λ i u. subst (R i (get_or xs i d)) (sym (get_or-set_other ys k i y d (λ e. omega arith))) (c.loop-place.invariant.past i d u))
          (subst (R k (get_or xs k d)) (sym (get_or-set_same ys k y d l))
          (subst (λ x. R k x y) (c.index_mut.ensures.value ∙ get_or_default ys k _ d l ∙ c.loop-place.invariant.rest k d (omega arith)) c.drive_rank.ensures))
          j h;
    }
