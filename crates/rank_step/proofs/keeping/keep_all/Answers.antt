use Rattle.std.proofs.Common.{◌≡◌, List, [], ◌∷◌, ◌++◌, map, refl, sym, ◌∙◌, ap}
use Rattle.std.proofs.lemmas.Iterator.Adapters.{YieldsList-from_vec}
use Rattle.std.proofs.lemmas.Iterator.Consumers.{YieldsList-end}
use Rattle.std.proofs.lemmas.List.{map-append}
use Rattle.refresh_phase.specs.Kept.{as_built}
use Rattle.rank_step.specs.declared.keeping.RankBuilt.{RankBuilt}
use Rattle.rank_step.proofs.keeping.keep_all.Goals as goal

mapped_alike : {X Y : Type 0} (f : X → Y) (xs : List X) → map f xs ≡ map f (map (λ x. x) xs)
mapped_alike f [] = refl
mapped_alike f (x ∷ xs) = ap (λ rest. f x ∷ rest) (mapped_alike f xs)

pub loop-rank-preserved : goal.loop-rank-preserved
loop-rank-preserved c =
    c.in_ok-push.ensures.items
    ∙ (λ i. c.loop-rank.invariant i ++ c.in_ok-of.ensures i ∷ [])
    ∙ sym (map-append (λ (r : RankBuilt). as_built r.tree r.lists) c.loop-rank.yielded (c.in-Some.rank ∷ []))

pub returns : goal.returns
returns c =
    let start = c.into_iter-rank-iterator.ensures.into_iter_gives in
    let all = YieldsList-end (YieldsList-from_vec c.args.ranks.items start.0 (start.1 ∙ c.args.ranks.ok.0)) c.loop-rank.yielded c.loop-rank.rank-iterator c.loop-rank.yielded_by c.next.result c.next.new.self c.in-None.is c.next.ensures.steps in
    c.loop-rank.invariant ∙ mapped_alike (λ (r : RankBuilt). as_built r.tree r.lists) c.loop-rank.yielded ∙ ap (map (λ (r : RankBuilt). as_built r.tree r.lists)) all.0
