use Rattle.std.proofs.Common.{◌≡◌, ◌<◌, nat_eq, rules, sym, ◌∙◌, ap, subst}
use Rattle.std.proofs.lemmas.Fn.{filter_same}
use Rattle.std.proofs.lemmas.List.Kept.{AllPairs-filter}
use Rattle.pf_model.specs.Particle.{Particle}
use Rattle.pf_model.specs.Domains.{owner_by}
use Rattle.exchange.specs.States.{AreInIdOrder, owned_by, left_with}
use Rattle.exchange.proofs.leaving.keep_own.Goals as goal

kept : (c : goal.After-retain) → c.retain.new.self.items ≡ owned_by c.args.d.now.cuts c.s.inside.rank c.s.inside.bodies.items
kept c = filter_same _ (λ (j : Particle). nat_eq (owner_by c.args.d.now.cuts j.at) c.s.inside.rank) _ (λ x b f' k. search rules) _ _ c.retain.ensures.filtered

pub invariant_of-s : goal.invariant_of-s
invariant_of-s c =
    subst AreInIdOrder (sym (kept c))
    (AllPairs-filter (λ (i j : Particle). i.id < j.id) (λ (j : Particle). nat_eq (owner_by c.args.d.now.cuts j.at) c.s.inside.rank) c.s.inside.bodies.items c.s.invariant)

pub returns : goal.returns
returns c = (λ i. record { rank = c.s.inside.rank; bodies = kept c i }) ∙ ap (left_with c.args.d.now.cuts) c.s.view_is
