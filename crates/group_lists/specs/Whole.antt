-- The lists of a rank's groups over the particles of all ranks.
use Rattle.std.specs.Prelude.{ℕ, ◌+◌, ◌≤◌, List, length, All, ⊤}
use Rattle.pf_model.specs.declared.entry.Entry.{Entry}
use Rattle.pf_model.specs.declared.entry.Entry.TheVariants.{Cell, One}
use Rattle.pf_model.specs.declared.limits.TheConstants.{MOST_PARTICLES}
use Rattle.pf_model.specs.Particle.{Particle}
use Rattle.morton_tree.specs.declared.span.Span.{Span}

-- a group as clauses see it: where its particles stand in the tree of the build, its particles, and its
-- interaction list
pub record GroupList : Type 0 where
  pub span : Span
  pub bodies : List Particle
  pub entries : List Entry

-- a cell in a list stands for at least one particle
abbrev pub HasMembers : Entry → Type 0
HasMembers (Cell c m) = 1 ≤ m.count
HasMembers (One p) = ⊤

-- what each list keeps: the span of its group is among that many particles, and it has few entries, of which each
-- cell has members
pub record IsListed (count : ℕ) (span : Span) (entries : List Entry) : Type 0 where
  pub inside : span.first + span.len ≤ count
  pub few : length entries ≤ MOST_PARTICLES
  pub some : All HasMembers entries
