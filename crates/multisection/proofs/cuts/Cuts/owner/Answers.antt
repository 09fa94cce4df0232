use Rattle.std.proofs.Common.{◌≡◌, ℕ, ◌+◌, ◌*◌, ◌<◌, ◌∙◌, sym, subst}
use Rattle.pf_model.specs.Division.{rank_count}
use Rattle.pf_model.specs.Domains.{owner_by, slab_of, cuts_in_slab, cuts_in_column}
use Rattle.multisection.proofs.cuts.Cuts.owner.Goals as goal

value : (c : goal.After-rank_at) → c.rank_at.result ≡ owner_by c.args.self.now c.args.at
unfolding owner_by
value c =
    let s = c.args.self.now in
    let p = c.args.at in
    let ix : c.slab_of-ix.result ≡ slab_of s.x p.x = c.slab_of-ix.ensures.value ∙ (λ i. slab_of (c.in_cube.ensures.value i) (c.at.view_is i).x) in
    let iy : c.slab_of-iy.result ≡ slab_of (cuts_in_slab s (slab_of s.x p.x)) p.y =
    c.slab_of-iy.ensures.value ∙ (λ i. slab_of (c.in_slab.ensures.value i) (c.at.view_is i).y) ∙ (λ i. slab_of (cuts_in_slab s (ix i)) p.y) in
    let iz : c.slab_of-iz.result ≡ slab_of (cuts_in_column s (slab_of s.x p.x) (slab_of (cuts_in_slab s (slab_of s.x p.x)) p.y)) p.z =
    c.slab_of-iz.ensures.value ∙ (λ i. slab_of (c.in_column.ensures.value i) (c.at.view_is i).z) ∙ (λ i. slab_of (cuts_in_column s (ix i) (iy i)) p.z) in
    c.rank_at.ensures ∙ (λ i. (ix i * s.grid.ny + iy i) * s.grid.nz + iz i)

pub returns-clause-value : goal.returns-clause-value
returns-clause-value c = value c

pub returns-clause-rank : goal.returns-clause-rank
returns-clause-rank c = subst (λ (n : ℕ). n < rank_count c.args.self.now.grid) (sym (value c)) (c.owners_by_cuts_are_ranks.ensures c.args.self.now c.args.at c.in_cube.ensures.whole)
