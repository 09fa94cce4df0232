-- An element that is there, and the ranks to which refreshes are sent.
use Rattle.std.proofs.Common.{◌≡◌, ℕ, ◌<◌, List, [], ◌∷◌, length, map, refl, ap, arith}
use Rattle.pf_model.specs.Criterion.{Criterion}
use Rattle.pf_model.specs.Division.{Division}
use Rattle.pf_model.specs.Particle.{Particle}
use Rattle.let_inbox.specs.Sources.{others}
use Rattle.refresh_phase.specs.Exchange.{target_of, refresh_sent, refreshes_sent}

pub some_of : {X : Type 0} (xs : List X) (k : ℕ) → k < length xs → X
some_of [] k within = absurd (omega arith)
some_of (x ∷ xs) k within = x

module _ (t : Criterion) (g : Division) (js now : List Particle) where
  targets_of : (rank : ℕ) (dsts : List ℕ) → map target_of (map (refresh_sent t g js now rank) dsts) ≡ dsts
  targets_of rank [] = refl
  targets_of rank (x ∷ xs) = ap (λ (l : List ℕ). x ∷ l) (targets_of rank xs)

  pub targets_sent : (rank ranks : ℕ) → map target_of (refreshes_sent t g js now rank ranks) ≡ others rank ranks
  targets_sent rank ranks = targets_of rank (others rank ranks)
