use Rattle.std.proofs.Common.{◌≡◌, take}
use Rattle.std.specs.List.{fold}
use Rattle.bench_summary.specs.Summary.{next_digest}
use Rattle.bench_summary.proofs.tally.digest_after.Given as goal

abbrev pub invariant-loop-byte : goal.invariant-loop-byte
invariant-loop-byte l = l.digest ≡ fold next_digest l.before (take l.byte-index l.bytes)
