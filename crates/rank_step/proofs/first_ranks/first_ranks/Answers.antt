use Rattle.std.proofs.Common.{◌≡◌, ℕ, ◌*◌, ◌++◌, ◌∷◌, [], map, sym, ◌∙◌, ap, subst, arith}
use Rattle.std.specs.List.{range_with_len}
use Rattle.std.proofs.lemmas.List.FromFn.{map-range_with_len_more}
use Rattle.pf_model.specs.Division.{IsDivision, rank_count}
use Rattle.rank_step.specs.Ranks.{HaveTogether, dealt_to, first_ranks}
use Rattle.rank_step.proofs.DealLemmas.{first_together, some_ranks, rank_with}
use Rattle.rank_step.proofs.first_ranks.first_ranks.Goals as goal

pub loop-rank-preserved : goal.loop-rank-preserved
loop-rank-preserved c =
    let count = c.grid.inside.nx * c.grid.inside.ny * c.grid.inside.nz in
    let n = c.loop-rank.rank in
    c.in_ok-push.ensures.items ∙ (λ i. c.loop-rank.invariant i ++ c.in_ok-first_rank.ensures i ∷ [])
    ∙ sym (map-range_with_len_more (rank_with (dealt_to count c.args.bodies.now)) 0 n n (omega arith))

pub returns-clause-together : goal.returns-clause-together
returns-clause-together c =
    let js = c.args.bodies.now in
    let inside : ℕ = c.grid.inside.nx * c.grid.inside.ny * c.grid.inside.nz in
    let end : c.loop-rank.rank ≡ inside = omega arith in
    let same : inside ≡ rank_count c.args.grid = ap rank_count c.grid.view_is in
    let is : c.loop-rank.ranks.items ≡ first_ranks c.args.grid js =
    c.loop-rank.invariant ∙ ap (λ n. map (rank_with (dealt_to inside js)) (range_with_len 0 n)) end ∙ ap (λ n. map (rank_with (dealt_to n js)) (range_with_len 0 n)) same in
    subst (HaveTogether c.args.grid js) (sym is) (first_together c.deal_laws.ensures c.args.grid js (some_ranks c.args.grid (subst IsDivision c.grid.view_is c.grid.invariant)))
