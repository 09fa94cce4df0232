-- Laws of the other ranks.
use Rattle.std.specs.Prelude.{◌≡◌, ◌≢◌, ℕ, suc, ◌+◌, ◌<◌, ◌≤◌, ◌==◌, ◌↔◌, cond, [], ◌∷◌, ◌++◌, length, AllPairs, Contains}
use Rattle.let_inbox.specs.Sources.{IsSource, HasEachSource, others_from, others}

-- the others stand by ascending number
abbrev pub OthersAscend : Type 0
OthersAscend = (rank first n : ℕ) → AllPairs (λ s t. s < t) (others_from rank first n)

-- they are the sources, each once
abbrev pub OthersAreTheSources : Type 0
OthersAreTheSources =
    (rank ranks : ℕ) → HasEachSource rank ranks (others rank ranks) × ((s : ℕ) → Contains (others rank ranks) s ↔
    IsSource rank ranks s)

-- the first rank is one of them, if it isn't the own one, and the rest are the others from the next on
abbrev pub OthersStandInTurn : Type 0
OthersStandInTurn =
    (rank first n : ℕ) → ((first ≢ rank) →
    others_from rank first (suc n) ≡ first ∷ others_from rank (first + 1) n) × ((first ≡ rank) →
    others_from rank first (suc n) ≡ others_from rank (first + 1) n)

-- with one rank more there is one more of them, unless that is the own one
abbrev pub OthersGrow : Type 0
OthersGrow = (rank n : ℕ) → others rank (n + 1) ≡ others rank n ++ cond (n == rank) [] (n ∷ [])

-- they are no more than the ranks
abbrev pub OthersAreFew : Type 0
OthersAreFew = (rank first n : ℕ) → length (others_from rank first n) ≤ n
