use Rattle.std.proofs.Common.{◌≡◌, ℕ, ◌+◌, ◌<◌, ◌∷◌, [], take, length, sym, ◌∙◌, ap, subst, arith}
use Rattle.std.proofs.lemmas.List.{take_more_set, take_all, length-set}
use Rattle.std.proofs.lemmas.List.Elements.{All-nil, All-same}
use Rattle.pf_model.specs.Totals.{Totals, IsTotals}
use Rattle.pf_model.specs.Sums.{together}
use Rattle.moments.proofs.SumLemmas.{first_sums, sum_more, first_sums-more, totals_more, particles_more}
use Rattle.moments.proofs.prefix.fill_over.Goals as goal

pub loop-place-init : goal.loop-place-init
loop-place-init c = record {
  so_far = c.none-so_far.ensures;
  limits = All-nil IsTotals;
  written = take_more_set c.args.sums.now 0 c.none-so_far.result (let room = c.requires.room in omega arith) ∙ ap (λ (m : Totals). m ∷ []) c.none-so_far.ensures;
}

pub merge-so_far-requires : goal.merge-so_far-requires
merge-so_far-requires c =
    let m : Totals = c.index-moments-place.result in
    let same = ap (λ (t : Totals). t.count) c.limited.ensures.value in
    let few = particles_more c.args.moments.now c.loop-place.place m c.loop-place.so_far c.loop-place-test.true c.index-moments-place.is c.loop-place.invariant.so_far c.requires.few_particles in
    omega arith

pub loop-place-preserved : goal.loop-place-preserved
loop-place-preserved c =
    let ms = c.args.moments.now in
    let place = c.loop-place.place in
    let m : Totals = c.index-moments-place.result in
    let at = c.index-moments-place.is in
    let before = c.loop-place.invariant in
    let here = c.limited.ensures in
    let within : place < length ms = c.loop-place-test.true in
    let room = c.loop-place.auto.sums ∙ length-set c.args.sums.now 0 c.none-so_far.result ∙ c.requires.room in
    let sum = c.merge-so_far.ensures ∙ ap (together c.loop-place.so_far) here.value ∙ sum_more c.moments_join_in_any_order.ensures ms place m c.loop-place.so_far within at before.so_far in
    record {
      so_far = sum;
      limits = totals_more ms place m within at before.limits (subst IsTotals here.value here.limits);
      written =
          take_more_set c.loop-place.sums (place + 1) c.merge-so_far.result (omega (arith, room))
          ∙ first_sums-more ms (place + 1) (take (place + 1) c.loop-place.sums) c.merge-so_far.result before.written sum;
    }

pub returns : goal.returns
returns c =
    let ms = c.args.moments.now in
    let sums = c.loop-place.sums in
    let after = c.loop-place.invariant in
    let room = c.loop-place.auto.sums ∙ length-set c.args.sums.now 0 c.none-so_far.result ∙ c.requires.room in
    let far = c.loop-place-test.false in
    let end : c.loop-place.place ≡ length ms = (let most = c.loop-place.auto.place-end in omega arith) in
    record {
      value = sym (take_all (c.loop-place.place + 1) sums (omega (arith, room))) ∙ after.written ∙ ap (λ (n : ℕ). first_sums ms (n + 1)) end;
      limits = All-same IsTotals ms (take c.loop-place.place ms) (sym (take_all c.loop-place.place ms far)) after.limits;
    }
