-- Calls that are to fail by their numbers.
use Rattle.std.proofs.Common.{ℕ, ◌≡◌, ◌≤◌, false, List, [], ◌∷◌, IsTrue, arith}
use Rattle.std.proofs.lemmas.Bool.Decides.{nat_tests}
use Rattle.pf_io.specs.MemoryStore.{MemoryStore, fails_no_more, fails_next, fails_by_number, next_count, is_steady_of}

-- where no later call is to fail, none after more calls is
no_more_later : (fails : List ℕ) (calls later : ℕ) → calls ≤ later
    → IsTrue (fails_no_more fails calls) → IsTrue (fails_no_more fails later)
no_more_later [] calls later more steady = steady
no_more_later (n ∷ fails) calls later more steady =
    grind (arith, nat_tests, no_more_later fails calls later more)

-- nor is the next
next_passes : (fails : List ℕ) (calls : ℕ) → IsTrue (fails_no_more fails calls) → fails_next fails calls ≡ false
next_passes [] calls steady = grind (arith, nat_tests)
next_passes (n ∷ fails) calls steady = grind (arith, nat_tests, next_passes fails calls)

-- a steady store stays steady over a call, which doesn't fail by its number
pub stays : (s now : MemoryStore) → now.fails ≡ s.fails → now.calls ≡ next_count s.calls
    → IsTrue (is_steady_of s) → IsTrue (is_steady_of now)
stays s now fails calls steady =
    rw (fails, calls) (no_more_later s.fails s.calls (next_count s.calls) (grind (arith, nat_tests)) steady)

pub passes : (s : MemoryStore) → IsTrue (is_steady_of s) → fails_by_number s ≡ false
passes s steady = next_passes s.fails s.calls steady
