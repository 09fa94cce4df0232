use Rattle.std.proofs.Common.{◌-◌, ◌/◌, ◌∙◌, ap, arith}
use Rattle.pf_geom.specs.Octant.{Octant, ancestor_at}
use Rattle.morton_tree.proofs.KeyLemmas.{ancestor_fits}
use Rattle.morton_tree.proofs.groups.ancestor.Goals as goal

pub invariant_of-result : goal.invariant_of-result
invariant_of-result c = ancestor_fits c.levels_take_three_bits.ensures c.args.level c.c.inside.level c.c.inside.key c.c.invariant (let same = ap (λ (o : Octant). o.level) c.c.view_is in let above = c.requires in omega arith)

pub returns : goal.returns
returns c =
    let level = c.args.level in
    let power = c.levels_take_three_bits.ensures (c.c.inside.level - level) in
    (λ i. record { level = level; key = c.c.inside.key / power i }) ∙ ap (λ (o : Octant). ancestor_at o level) c.c.view_is
