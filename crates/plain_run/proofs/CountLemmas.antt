-- What the text of a step tells, from its parts.
use Rattle.std.proofs.Common.{◌≡◌, ℕ, ℤ, List, refl}
use Rattle.pf_model.specs.Reuse.{as_in}
use Rattle.pf_model.specs.Particle.{Particle}
use Rattle.pf_model.specs.Domains.{owner}
use Rattle.run_model.specs.Setup.{Setup}
use Rattle.run_model.specs.Run.{WithForces}
use Rattle.run_model.specs.Text.{rank_counts, body_row}
use Rattle.plain_run.specs.Runs.{counts_by, body_line_of}

pub counts_are : (u : Setup) (built : List Particle) (rank : ℕ) → counts_by u.grid u.theta u.group built rank ≡ rank_counts u built rank
unfolding rank_counts
counts_are u built rank = refl

pub row_is : (u : Setup) (built : List Particle) (b : WithForces) (p : Particle) (rank : ℕ) (forces : List ℤ) → p ≡ b.body → rank ≡ owner u.grid built (as_in built b.body).at → forces ≡ b.forces → body_line_of p rank forces ≡ body_row u built b
unfolding body_row
row_is u built b p rank forces body owned given = λ i. body_line_of (body i) (owned i) (given i)
