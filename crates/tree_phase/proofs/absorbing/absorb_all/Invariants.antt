use Rattle.std.proofs.Common.{◌≡◌, length, take}
use Rattle.pf_model.specs.Division.{rank_count}
use Rattle.let_inbox.specs.Sources.{others}
use Rattle.tree_phase.proofs.absorbing.absorb_all.Given as goal

abbrev pub invariant-loop-parcel : goal.invariant-loop-parcel
invariant-loop-parcel g l =
    l.gather ≡ record l.initial.gather { absorbed = take (length l.yielded) (others l.initial.gather.rank (rank_count g.T.Terms.grid)) }
