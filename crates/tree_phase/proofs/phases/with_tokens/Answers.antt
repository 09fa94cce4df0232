use Rattle.std.proofs.Common.{refl}
use Rattle.tree_phase.specs.Parcels.{tree_sent}
use Rattle.tree_phase.proofs.phases.with_tokens.Goals as goal

pub with_tokens-requires-clause-sent : goal.with_tokens-requires-clause-sent
with_tokens-requires-clause-sent g c = (
  tree_sent g.T.Terms.theta g.T.Terms.grid g.T.Terms.particles,
  record { targets = λ q p. refl; each = c.requires.sent },
)

pub returns-clause-settle : goal.returns-clause-settle
returns-clause-settle g c =
    c.in_ok-posts.ensures.settle (tree_sent g.T.Terms.theta g.T.Terms.grid g.T.Terms.particles) (record { targets = λ q p. refl; each = c.requires.sent })
