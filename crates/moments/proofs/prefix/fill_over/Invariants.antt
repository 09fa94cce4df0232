use Rattle.std.proofs.Common.{◌≡◌, ◌+◌, take}
use Rattle.std.specs.List.{All}
use Rattle.pf_model.specs.Totals.{IsTotals}
use Rattle.pf_model.specs.Sums.{all_together}
use Rattle.moments.proofs.SumLemmas.{first_sums}
use Rattle.moments.proofs.prefix.fill_over.Given as goal

abbrev pub invariant-loop-place : goal.invariant-loop-place
invariant-loop-place l = record {
  so_far : l.so_far ≡ all_together (take l.place l.moments);
  limits : All IsTotals (take l.place l.moments);
  written : take (l.place + 1) l.sums ≡ first_sums l.moments (l.place + 1);
}
