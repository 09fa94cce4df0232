use Rattle.std.proofs.Common.{◌∙◌, subst, arith}
use Rattle.pf_model.specs.Division.{IsDivision}
use Rattle.pf_model.specs.Domains.{slab_of}
use Rattle.plain_run.proofs.PieceLemmas.{HasPlaces, owner_from_places}
use Rattle.plain_run.proofs.domains.slow_owner.Goals as goal

has_places : (c : goal.After-slab_of-iz) → HasPlaces c.args.grid c.args.bodies.now c.args.at c.slab_of-ix.result c.slab_of-iy.result c.slab_of-iz.result
has_places c =
    let x = c.deref.ensures.value ∙ c.in_ok-x.ensures in
    let y = c.deref-2.ensures.value ∙ c.in_ok-y.ensures in
    let z = c.deref-3.ensures.value ∙ c.in_ok-z.ensures in
    let at = c.at.view_is in
    record {
      along_x = c.slab_of-ix.ensures.value ∙ (λ i. slab_of (x i) (at i).x);
      along_y = c.slab_of-iy.ensures.value ∙ (λ i. slab_of (y i) (at i).y);
      along_z = c.slab_of-iz.ensures.value ∙ (λ i. slab_of (z i) (at i).z);
    }

pub rank_at-requires : goal.rank_at-requires
rank_at-requires c =
    let division = subst IsDivision c.grid.view_is c.grid.invariant in
    let is = owner_from_places c.cuts_are_of_slabs_and_columns.ensures c.args.grid c.args.bodies.now c.args.at _ _ _ division (has_places c) in
    let below = c.owners_are_ranks.ensures c.args.grid c.args.bodies.now c.args.at division in
    let few = division.few in
    omega arith

pub returns : goal.returns
returns c =
    let x = c.deref.ensures.value ∙ c.in_ok-x.ensures in
    let y = c.deref-2.ensures.value ∙ c.in_ok-y.ensures in
    let z = c.deref-3.ensures.value ∙ c.in_ok-z.ensures in
    let at = c.at.view_is in
    c.rank_at.ensures ∙ owner_from_places c.cuts_are_of_slabs_and_columns.ensures c.args.grid c.args.bodies.now c.args.at _ _ _ (subst IsDivision c.grid.view_is c.grid.invariant) (record {
      along_x = c.slab_of-ix.ensures.value ∙ (λ i. slab_of (x i) (at i).x);
      along_y = c.slab_of-iy.ensures.value ∙ (λ i. slab_of (y i) (at i).y);
      along_z = c.slab_of-iz.ensures.value ∙ (λ i. slab_of (z i) (at i).z);
    })
