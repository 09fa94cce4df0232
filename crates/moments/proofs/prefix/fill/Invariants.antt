use Rattle.std.proofs.Common.{◌≡◌, ◌+◌, take}
use Rattle.std.specs.List.{All}
use Rattle.pf_model.specs.Sums.{moment_of}
use Rattle.moments.specs.Prefix.{HasLimitedMoment}
use Rattle.moments.proofs.PrefixLemmas.{first_moments}
use Rattle.moments.proofs.prefix.fill.Given as goal

abbrev pub invariant-loop-place : goal.invariant-loop-place
invariant-loop-place l = record {
  so_far : l.so_far ≡ moment_of (take l.place l.bodies);
  limits : All HasLimitedMoment (take l.place l.bodies);
  written : take (l.place + 1) l.moments ≡ first_moments l.bodies (l.place + 1);
}
