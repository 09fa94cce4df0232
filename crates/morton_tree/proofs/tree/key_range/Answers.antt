use Rattle.std.proofs.Common.{◌+◌, ◌-◌, ◌*◌, ◌^◌, ◌∙◌, ap, arith}
use Rattle.pf_geom.specs.Octant.{Octant}
use Rattle.morton_tree.proofs.KeyLemmas.{past_fits}
use Rattle.morton_tree.proofs.tree.key_range.Goals as goal

pub overflow_add-result : goal.overflow_add-result
overflow_add-result c = let few = past_fits c.c.inside.level c.c.inside.key c.c.invariant in omega arith

pub returns-clause-least : goal.returns-clause-least
returns-clause-least c =
    c.shifted_keys_fit.ensures c.c.inside.level c.c.inside.key c.c.invariant.level_fits (let fits = c.c.invariant.key_fits in omega arith) ∙ ap (λ (o : Octant). o.key * 8 ^ (30 - o.level)) c.c.view_is

pub returns-clause-past : goal.returns-clause-past
returns-clause-past c =
    c.shifted_keys_fit.ensures c.c.inside.level (c.c.inside.key + 1) c.c.invariant.level_fits (let fits = c.c.invariant.key_fits in omega arith) ∙ ap (λ (o : Octant). (o.key + 1) * 8 ^ (30 - o.level)) c.c.view_is
