use Rattle.std.proofs.Common.{◌≡◌, take}
use Rattle.pf_model.specs.Division.{rank_count}
use Rattle.refresh_phase.specs.Exchange.{refreshes_sent}
use Rattle.refresh_phase.proofs.present.refreshes.Given as goal

abbrev pub invariant-loop-kept : goal.invariant-loop-kept
invariant-loop-kept g l =
    l.refreshes.items ≡ take l.kept-index (refreshes_sent g.T.Terms.theta g.T.Terms.grid g.T.Terms.particles l.now l.rank (rank_count g.T.Terms.grid))
