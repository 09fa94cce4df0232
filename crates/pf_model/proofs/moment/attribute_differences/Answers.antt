use Rattle.std.proofs.Common.{◌≡◌, ◌<◌, get_or, pos, ◌-ℤ◌, to_z, of_z, w64, ◌∙◌, sym, add-one, arith}
use Rattle.std.proofs.lemmas.Int.{ints}
use Rattle.pf_model.proofs.DifferenceLemmas.{pairwise_differences-more, pairwise_differences-whole}
use Rattle.pf_model.proofs.moment.attribute_differences.Goals as goal

pub loop-k-preserved : goal.loop-k-preserved
loop-k-preserved c =
    let k = c.loop-k.k in
    let a = c.args.a in
    let b = c.args.b in
    let within : k < 8 = c.loop-k-test.true in
    let a_length = c.loop-k.invariant.0 in
    let b_length = c.loop-k.invariant.1 in
    let a_fits = c.requires.a_fits k (pos 0) (omega arith) in
    let b_fits = c.requires.b_fits k (pos 0) (omega arith) in
    let difference_is : to_z w64 (of_z w64 (to_z w64 (of_z w64 (get_or a k (pos 0))) -ℤ to_z w64 (of_z w64 (get_or b k (pos 0))))) ≡ get_or a k (pos 0) -ℤ get_or b k (pos 0) = omega (arith, ints) in
    (a_length, b_length, rw (c.loop-k.invariant.2, difference_is, add-one) (pairwise_differences-more a b k (pos 0) (omega arith) (a_length ∙ sym b_length)))

pub returns : goal.returns
returns c =
    let done : c.loop-k.k ≡ 8 = omega arith in
    c.loop-k.invariant.2 ∙ pairwise_differences-whole c.args.a c.args.b c.loop-k.k (omega (arith, c.loop-k.invariant.0, c.loop-k.invariant.1)) (omega (arith, c.loop-k.invariant.0, c.loop-k.invariant.1))
