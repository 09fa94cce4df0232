use Rattle.std.proofs.Common.{◌≡◌, ◌+◌, ◌-◌, ◌*◌, ◌/◌, ◌++◌, ◌∷◌, [], length, List, map, sym, ◌∙◌, ap, arith}
use Rattle.std.specs.Prelude.{slice_index_or}
use Rattle.std.specs.List.{range_with_len}
use Rattle.std.proofs.lemmas.List.FromFn.{map-range_with_len_more}
use Rattle.pf_model.specs.Particle.{Particle}
use Rattle.pf_model.specs.Domains.{cut_before}
use Rattle.pf_geom.specs.Position.{along}
use Rattle.step_core.proofs.cutting.cut_along.Goals as goal

pub loop-slab-preserved : goal.loop-slab-preserved
loop-slab-preserved c =
    let f = cut_before (along c.args.axis) c.args.bodies.now c.args.slabs in
    let slab = c.loop-slab.slab in
    let sorted : c.deref.result.now ≡ _ = c.deref.ensures.value ∙ c.in_ok-sorted.ensures in
    let here : c.cut_before.result ≡ f slab =
    c.cut_before.ensures ∙ ap (λ (l : List Particle). slice_index_or (map (λ (j : Particle). along c.args.axis j.at) l) (length c.args.bodies.now * slab / c.args.slabs) 1073741824) sorted in
    let one_more : slab - 1 + 1 ≡ slab + 1 - 1 = omega arith in
    c.in_ok-push.ensures.items ∙ (λ i. c.loop-slab.invariant i ++ here i ∷ [])
    ∙ sym (map-range_with_len_more f 1 (slab - 1) slab (omega arith)) ∙ ap (λ n. map f (range_with_len 1 n)) one_more
