use Rattle.std.proofs.Common.{◌≡◌, ℕ, ◌<◌, List, ◌∷◌, sym, ◌∙◌, ap, subst, arith}
use Rattle.std.specs.List.{Contains}
use Rattle.pf_model.specs.Division.{rank_count}
use Rattle.method_examples.proofs.Ranks.{one_of_three}
use Rattle.method_examples.proofs.tests.absorbing.gathered_in.Goals as goal

pub finish-requires-clause-whole : goal.finish-requires-clause-whole
finish-requires-clause-whole g c rank within =
    let ranks = c.requires.ranks in
    let apart = c.requires.apart in
    let count : rank_count g.T.Terms.grid ≡ 3 = ap rank_count c.requires.grid ∙ c.requires.three in
    let all = one_of_three c.args.rank c.args.one c.args.other rank ranks.0 ranks.1 ranks.2 apart.0 apart.1 apart.2 (omega (arith, count)) in
    subst (λ (l : List ℕ). Contains l rank) (λ i. sym c.in_ok-gather.ensures.rank i ∷ sym c.in_ok-gather.ensures.absorbed i) all
