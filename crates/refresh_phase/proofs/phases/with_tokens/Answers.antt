use Rattle.std.proofs.Common.{refl}
use Rattle.refresh_phase.specs.Exchange.{refresh_sent}
use Rattle.refresh_phase.proofs.phases.with_tokens.Goals as goal

pub with_tokens-requires-clause-sent : goal.with_tokens-requires-clause-sent
with_tokens-requires-clause-sent g c = (
  refresh_sent g.T.Terms.theta g.T.Terms.grid g.T.Terms.particles c.args.now.now,
  record { targets = λ q p. refl; each = c.requires.sent },
)

pub returns-clause-settle : goal.returns-clause-settle
returns-clause-settle g c =
    c.in_ok-posts.ensures.settle (refresh_sent g.T.Terms.theta g.T.Terms.grid g.T.Terms.particles c.args.now.now) (record { targets = λ q p. refl; each = c.requires.sent })
