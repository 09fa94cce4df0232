use Rattle.std.proofs.Common.{◌≡◌, ℕ, ◌+◌, ◌<◌, ◌∷◌, [], take, length, sym, ◌∙◌, ap, arith}
use Rattle.std.proofs.lemmas.List.{take_more_set, take_all, length-set}
use Rattle.std.proofs.lemmas.List.Elements.{All-nil, All-same}
use Rattle.pf_model.specs.Totals.{Totals}
use Rattle.moments.specs.Prefix.{HasLimitedMoment}
use Rattle.moments.proofs.PrefixLemmas.{first_moments, prefix_moments_are_first, moment_more, first_moments-more, limits_more, count_more}
use Rattle.moments.proofs.prefix.fill.Goals as goal

pub loop-place-init : goal.loop-place-init
loop-place-init c = record {
  so_far = c.none-so_far.ensures;
  limits = All-nil HasLimitedMoment;
  written = take_more_set c.args.moments.now 0 c.none-so_far.result (let room = c.requires.room in omega arith) ∙ ap (λ (m : Totals). m ∷ []) c.none-so_far.ensures;
}

pub merge-so_far-requires : goal.merge-so_far-requires
merge-so_far-requires c =
    count_more c.args.bodies.now c.loop-place.place c.index-bodies-place.result c.loop-place.so_far c.limited_moment.result c.loop-place-test.true c.requires.few
    c.loop-place.invariant.so_far c.limited_moment.ensures.value

pub loop-place-preserved : goal.loop-place-preserved
loop-place-preserved c =
    let js = c.args.bodies.now in
    let place = c.loop-place.place in
    let body = c.index-bodies-place.result in
    let at = c.index-bodies-place.is in
    let before = c.loop-place.invariant in
    let one = c.limited_moment.ensures in
    let within : place < length js = c.loop-place-test.true in
    let room = c.loop-place.auto.moments ∙ length-set c.args.moments.now 0 c.none-so_far.result ∙ c.requires.room in
    let sum = c.merge-so_far.ensures ∙ moment_more c.moments_add_up.ensures js place body c.loop-place.so_far c.limited_moment.result within at before.so_far one.value in
    record {
      so_far = sum;
      limits = limits_more js place body c.limited_moment.result within at before.limits one.limits one.value;
      written =
          take_more_set c.loop-place.moments (place + 1) c.merge-so_far.result (omega (arith, room))
          ∙ first_moments-more js (place + 1) (take (place + 1) c.loop-place.moments) c.merge-so_far.result before.written sum;
    }

pub returns : goal.returns
returns c =
    let js = c.args.bodies.now in
    let ms = c.loop-place.moments in
    let after = c.loop-place.invariant in
    let room = c.loop-place.auto.moments ∙ length-set c.args.moments.now 0 c.none-so_far.result ∙ c.requires.room in
    let far = c.loop-place-test.false in
    let end : c.loop-place.place ≡ length js = (let most = c.loop-place.auto.place-end in omega arith) in
    record {
      value = sym (take_all (c.loop-place.place + 1) ms (omega (arith, room))) ∙ after.written ∙ ap (λ (n : ℕ). first_moments js (n + 1)) end ∙ sym (prefix_moments_are_first js);
      limits = All-same HasLimitedMoment js (take c.loop-place.place js) (sym (take_all c.loop-place.place js far)) after.limits;
    }
