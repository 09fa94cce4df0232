use Rattle.std.proofs.Common.{◌≡◌, take}
use Rattle.pf_model.specs.Division.{rank_count}
use Rattle.exchange.proofs.PileLemmas.{piles}
use Rattle.exchange.proofs.leaving.parcels_of.Given as goal

abbrev pub invariant-loop-body : goal.invariant-loop-body
invariant-loop-body l = l.parcels.items ≡ piles l.d.cuts l.s-inside.rank (take l.body-index l.body-items) (rank_count l.d.cuts.grid)
