use Rattle.std.proofs.Common.{ℕ, [], ◌∷◌, ◌++◌, sym, ◌∙◌, arith}
use Rattle.std.proofs.lemmas.List.FromFn.{map-range_with_len_more}
use Rattle.exchange.specs.States.{Package}
use Rattle.exchange.proofs.leaving.one_for_each_rank.Goals as goal

pub loop-dst-preserved : goal.loop-dst-preserved
loop-dst-preserved c =
    let empty : ℕ → Package = λ dst. record { src = c.args.rank; dst = dst; bodies = [] } in
    c.in_ok-push.ensures.items ∙ (λ i. c.loop-dst.invariant i ++ c.empty.ensures i ∷ []) ∙ sym (map-range_with_len_more empty 0 c.loop-dst.dst c.loop-dst.dst (omega arith))
