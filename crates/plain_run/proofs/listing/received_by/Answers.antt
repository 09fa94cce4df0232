use Rattle.std.proofs.Common.{◌≡◌, [], nat_eq, length, ◌∙◌, ap, arith}
use Rattle.std.specs.Prelude.{if◌then◌else◌}
use Rattle.std.specs.List.{flat_map, range_with_len}
use Rattle.pf_model.specs.EssentialTree.{essential_tree}
use Rattle.plain_run.proofs.StepLemmas.{range_next}
use Rattle.plain_run.proofs.ListingLemmas.{received_few}
use Rattle.plain_run.proofs.listing.received_by.Goals as goal

pub loop-src-preserved : goal.loop-src-preserved
loop-src-preserved c =
    c.in_ok-extend_from_slice.ensures.items
    ∙ range_next (λ src. if nat_eq src c.args.rank then [] else essential_tree c.args.theta c.args.grid c.args.built.now src c.args.rank) c.loop-src.src _ _ c.loop-src.invariant (c.deref.ensures.value ∙ c.in_ok-tree.ensures)

pub returns-clause-few : goal.returns-clause-few
returns-clause-few c =
    let done : c.loop-src.src ≡ c.rank_count-src-end.result = omega arith in
    let whole = ap length (c.loop-src.invariant ∙ ap (λ n. flat_map (λ src. if nat_eq src c.args.rank then [] else essential_tree c.args.theta c.args.grid c.args.built.now src c.args.rank) (range_with_len 0 n)) (done ∙ c.rank_count-src-end.ensures.value)) in
    let few = received_few c.lists_are_short.ensures c.args.theta c.args.grid c.args.built.now c.args.rank c.rank_count-src-end.ensures.division c.requires.few in
    omega arith
