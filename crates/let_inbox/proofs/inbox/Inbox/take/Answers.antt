use Rattle.std.proofs.Common.{ℕ, true≢false, sym, refl, subst}
use Rattle.let_inbox.specs.Sources.{IsSource}
use Rattle.let_inbox.proofs.Keeps.{takes, finds, none_left, not_all_taken, took_settled}
use Rattle.let_inbox.proofs.inbox.Inbox.take.Goals as goal

pub pop_as-requires-clause-rule : goal.pop_as-requires-clause-rule
pop_as-requires-clause-rule g c = (
  takes g.M.Named.source g.M.Named.target g.M.Named.has_terms _ _ c.requires.takes,
  finds g.M.Named.source g.M.Named.target g.M.Named.has_terms _ _ c.requires.takes,
)

pub returns-in-Some-clause-none : goal.returns-in-Some-clause-none
returns-in-Some-clause-none g c = let place = c.requires.place in λ all. (
  (λ e. absurd (true≢false e)),
  λ taken. absurd (not_all_taken g.M.Named.source g.M.Named.target g.M.Named.has_terms _ _ _ c.in-Some.ensures.rule
      (λ s is. taken s (subst (λ (z : ℕ × ℕ). IsSource z.0 z.1 s) (λ k. (place.0 k, place.1 k)) is))),
)

pub returns-in-Some-clause-carried : goal.returns-in-Some-clause-carried
returns-in-Some-clause-carried g c = took_settled g.M.Named.source g.M.Named.target g.M.Named.has_terms _ _ _ c.in-Some.ensures.rule

pub returns-in-None-clause-none : goal.returns-in-None-clause-none
returns-in-None-clause-none g c = let place = c.requires.place in let held = c.in-None.ensures.rule in λ all. (
  (λ _ s is. none_left g.M.Named.source g.M.Named.target g.M.Named.has_terms _ _ held.1.1 held.1.2 all s
      (subst (λ (z : ℕ × ℕ). IsSource z.0 z.1 s) (λ k. (sym place.0 k, sym place.1 k)) is)),
  λ _. refl,
)
