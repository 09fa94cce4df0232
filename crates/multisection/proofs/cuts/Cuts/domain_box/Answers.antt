use Rattle.std.proofs.Common.{◌≡◌, sym, subst, ◌∙◌, ap}
use Rattle.pf_geom.specs.Position.{Position, IsPosition, IsAtMost}
use Rattle.pf_geom.specs.Bounds.{Bounds}
use Rattle.pf_model.specs.Domains.{box_by, slab_start, slab_end}
use Rattle.multisection.proofs.BoxLemmas.{HasPlaces, corner_is, box_by-corners}
use Rattle.multisection.proofs.cuts.Cuts.domain_box.Goals as goal

has_places : (c : goal.After-slab_end-3) → HasPlaces c.args.self.now c.args.rank c.places_of-ix.result.0 c.places_of-ix.result.1 c.places_of-ix.result.2 c.in_cube-x.result.now c.in_slab-y.result.now c.in_column-z.result.now
has_places c = record {
  x_place = c.places_of-ix.ensures.x;
  y_place = c.places_of-ix.ensures.y;
  z_place = c.places_of-ix.ensures.z;
  x_cuts = c.in_cube-x.ensures.value;
  y_cuts = c.in_slab-y.ensures.value;
  z_cuts = c.in_column-z.ensures.value;
}

low : (c : goal.After-slab_end-3) → record { x = c.slab_start.result; y = c.slab_start-2.result; z = c.slab_start-3.result } ≡ (box_by c.args.self.now c.args.rank).lo
low c =
    corner_is slab_start c.args.self.now c.args.rank _ _ _ _ _ _ (has_places c) _ _ _ c.slab_start.ensures c.slab_start-2.ensures c.slab_start-3.ensures
    ∙ sym (ap (λ (b : Bounds). b.lo) (box_by-corners c.args.self.now c.args.rank))

high : (c : goal.After-slab_end-3) → record { x = c.slab_end.result; y = c.slab_end-2.result; z = c.slab_end-3.result } ≡ (box_by c.args.self.now c.args.rank).hi
high c =
    corner_is slab_end c.args.self.now c.args.rank _ _ _ _ _ _ (has_places c) _ _ _ c.slab_end.ensures c.slab_end-2.ensures c.slab_end-3.ensures
    ∙ sym (ap (λ (b : Bounds). b.hi) (box_by-corners c.args.self.now c.args.rank))

pub invariant_of-result : goal.invariant_of-result
invariant_of-result c = subst IsPosition (sym (low c)) c.requires.owns.lo_fits

pub invariant_of-result-2 : goal.invariant_of-result-2
invariant_of-result-2 c = subst IsPosition (sym (high c)) c.requires.owns.hi_fits

pub invariant_of-result-3 : goal.invariant_of-result-3
invariant_of-result-3 c = subst (λ (p : Position). IsAtMost p (record { x = c.slab_end.result; y = c.slab_end-2.result; z = c.slab_end-3.result })) (sym (low c)) (subst (IsAtMost (box_by c.args.self.now c.args.rank).lo) (sym (high c)) c.requires.owns.ordered)

pub returns : goal.returns
returns c = λ i. record { lo = low c i; hi = high c i }
