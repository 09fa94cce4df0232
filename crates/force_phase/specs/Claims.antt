-- The groups that workers claimed.
use Rattle.std.specs.Prelude.{◌≡◌, ℕ, List, map, flat_map, All}
use Rattle.std.specs.List.{range_with_len}
use Rattle.std.specs.List.Sorted.{IsStrictlyIncreasing}
use Rattle.claim_board.specs.Once.{HasEachOnce}
use Rattle.force_phase.specs.declared.phase.Claims.{Claims}

-- the groups of all workers, one worker after another
abbrev pub groups_claimed : List Claims → List ℕ
groups_claimed claims = flat_map (λ c. c.groups.items) claims

-- one entry for each worker by number, each ascending, together every group number once
pub record HaveAllGroups (workers total : ℕ) (claims : List Claims) : Type 0 where
  pub by_number : map (λ c. c.worker) claims ≡ range_with_len 0 workers
  pub ascending : All (λ c. IsStrictlyIncreasing c.groups.items) claims
  pub once : HasEachOnce total (groups_claimed claims)
