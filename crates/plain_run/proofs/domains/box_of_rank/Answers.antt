use Rattle.std.proofs.Common.{◌≡◌, sym, subst, ◌∙◌}
use Rattle.pf_geom.specs.Position.{Position, IsPosition, IsAtMost}
use Rattle.pf_model.specs.Domains.{domain_box}
use Rattle.plain_run.proofs.PieceLemmas.{low_from_places, high_from_places}
use Rattle.plain_run.proofs.domains.box_of_rank.Goals as goal

low : (c : goal.After-slab_end-3) → record { x = c.slab_start.result; y = c.slab_start-2.result; z = c.slab_start-3.result } ≡ (domain_box c.args.grid c.args.bodies.now c.args.rank).lo
low c =
    low_from_places c.cuts_are_of_slabs_and_columns.ensures c.args.grid c.args.bodies.now c.args.rank _ _ _ _ _ _ _ _ _ c.places_of-ix.ensures (c.deref.ensures.value ∙ c.in_ok-x.ensures) (c.deref-2.ensures.value ∙ c.in_ok-y.ensures) (c.deref-3.ensures.value ∙ c.in_ok-z.ensures)
    c.slab_start.ensures c.slab_start-2.ensures c.slab_start-3.ensures

high : (c : goal.After-slab_end-3) → record { x = c.slab_end.result; y = c.slab_end-2.result; z = c.slab_end-3.result } ≡ (domain_box c.args.grid c.args.bodies.now c.args.rank).hi
high c =
    high_from_places c.cuts_are_of_slabs_and_columns.ensures c.args.grid c.args.bodies.now c.args.rank _ _ _ _ _ _ _ _ _ c.places_of-ix.ensures (c.deref-4.ensures.value ∙ c.in_ok-x.ensures) (c.deref-5.ensures.value ∙ c.in_ok-y.ensures) (c.deref-6.ensures.value ∙ c.in_ok-z.ensures)
    c.slab_end.ensures c.slab_end-2.ensures c.slab_end-3.ensures

pub invariant_of-result : goal.invariant_of-result
invariant_of-result c = subst IsPosition (sym (low c)) c.requires.owns.lo_fits

pub invariant_of-result-2 : goal.invariant_of-result-2
invariant_of-result-2 c = subst IsPosition (sym (high c)) c.requires.owns.hi_fits

pub invariant_of-result-3 : goal.invariant_of-result-3
invariant_of-result-3 c = subst (λ (p : Position). IsAtMost p (record { x = c.slab_end.result; y = c.slab_end-2.result; z = c.slab_end-3.result })) (sym (low c)) (subst (IsAtMost (domain_box c.args.grid c.args.bodies.now c.args.rank).lo) (sym (high c)) c.requires.owns.ordered)

pub returns : goal.returns
returns c =
    let x = c.in_ok-x.ensures in
    let y = c.in_ok-y.ensures in
    let z = c.in_ok-z.ensures in
    let lo = low_from_places c.cuts_are_of_slabs_and_columns.ensures c.args.grid c.args.bodies.now c.args.rank _ _ _ _ _ _ _ _ _ c.places_of-ix.ensures (c.deref.ensures.value ∙ x) (c.deref-2.ensures.value ∙ y) (c.deref-3.ensures.value ∙ z)
    c.slab_start.ensures c.slab_start-2.ensures c.slab_start-3.ensures in
    let hi = high_from_places c.cuts_are_of_slabs_and_columns.ensures c.args.grid c.args.bodies.now c.args.rank _ _ _ _ _ _ _ _ _ c.places_of-ix.ensures (c.deref-4.ensures.value ∙ x) (c.deref-5.ensures.value ∙ y) (c.deref-6.ensures.value ∙ z)
    c.slab_end.ensures c.slab_end-2.ensures c.slab_end-3.ensures in
    λ i. record { lo = lo i; hi = hi i }
