use Rattle.std.proofs.Common.{◌≡◌, ◌+◌, ◌^◌, ◌≤◌, ℕ, ℤ, [], ◌∷◌, if◌then◌else◌, fold, sym, ap, subst, ◌∙◌, w64, to_z, of_z, arith}
use Rattle.std.proofs.lemmas.Int.{ints}
use Rattle.lane_code.specs.Steps.{mask_at, number_at}
use Rattle.lane_machine.specs.Block.{lane_in}
use Rattle.lane_machine.specs.Columns.{numbers_at, masks_at}
use Rattle.lane_machine.specs.Gathered.{gift_of}
use Rattle.lane_machine.specs.Total.{AreFew, along, with_along, joined}
use Rattle.lane_machine.proofs.GiftLemmas.{one_gift}
use Rattle.lane_machine.proofs.TotalLemmas.{few_at_least, with_own}
use Rattle.lane_machine.proofs.give.added.Goals as goal
use Rattle.lane_machine.proofs.give.added.Goals.{then-mask_at, else-mask_at}

pub and-sum-requires : goal.and-sum-requires
and-sum-requires c =
    let small : 2 ^ 57 + c.loop-l.l ≤ 2 ^ 60 = omega arith in
    few_at_least (2 ^ 57 + c.loop-l.l) (2 ^ 60) c.loop-l.sum small (c.loop-l.invariant.few (2 ^ 57) c.requires.room)

pub loop-l-preserved : goal.loop-l-preserved
loop-l-preserved c =
    let k = c.loop-l.l in
    let axis = c.args.axis in
    let sum = c.loop-l.sum in
    let registers = c.args.registers.now in
    let own = λ (l : ℕ). gift_of c.args.under c.args.register (lane_in registers l) in
    let masked = ap (λ ms. mask_at (masks_at ms k) c.args.under) (sym c.deref.ensures.value) ∙ sym c.mask_at.ensures in
    elim c.if-mask_at.branch [
      | then-mask_at w ↦
          let same : to_z w64 (of_z w64 w.number_at.result) ≡ w.number_at.result = omega (arith, ints) in
          let own_is : own k ≡ w.number_at.result ∷ [] =
          ap (λ b. if b then number_at (numbers_at registers.numbers.items k) c.args.register ∷ [] else []) (masked ∙ w.if-mask_at.true)
          ∙ ap (λ n. n ∷ []) (ap (λ ns. number_at (numbers_at ns k) c.args.register) (sym w.deref-then-mask_at.ensures.value) ∙ sym w.number_at.ensures) in
          record {
            value = one_gift axis c.args.total sum _ own k c.loop-l.invariant.value
                (w.sum-is ∙ w.and-sum.ensures.value ∙ ap (λ (n : ℤ). with_along axis sum (joined sum.combine (along axis sum) n)) same ∙ ap (λ ns. with_along axis sum (fold (joined sum.combine) (along axis sum) ns)) (sym own_is));
            few = λ n h. few_at_least (n + k + 1) (n + (k + 1)) _ (omega arith)
                (subst (AreFew (n + k + 1)) (sym w.sum-is) (w.and-sum.ensures.few (n + k) (c.loop-l.invariant.few n h)));
          }
      | else-mask_at w ↦
          let own_is : own k ≡ [] =
          ap (λ b. if b then number_at (numbers_at registers.numbers.items k) c.args.register ∷ [] else []) (masked ∙ w.if-mask_at.false) in
          record {
            value = one_gift axis c.args.total sum _ own k c.loop-l.invariant.value
                (w.sum-is ∙ sym (with_own axis sum) ∙ ap (λ ns. with_along axis sum (fold (joined sum.combine) (along axis sum) ns)) (sym own_is));
            few = λ n h. few_at_least (n + k) (n + (k + 1)) _ (omega arith) (subst (AreFew (n + k)) (sym w.sum-is) (c.loop-l.invariant.few n h));
          }
    ]

pub returns-clause-few : goal.returns-clause-few
returns-clause-few c = λ n h. few_at_least (n + c.loop-l.l) (n + c.args.count) c.loop-l.sum (omega arith) (c.loop-l.invariant.few n h)
