use Rattle.std.proofs.Common.{◌∙◌, arith}
use Rattle.morton_tree.proofs.SpanLemmas.{span_from_ends}
use Rattle.morton_tree.proofs.KeyLemmas.{searched}
use Rattle.morton_tree.proofs.tree.Tree.node_in.Goals as goal

pub first_from-first-requires : goal.first_from-first-requires
first_from-first-requires c =
    let s = searched c.args.c c.args.self.now.built c.keys-keys.result.now _ _ c.keys-keys.ensures.tree.ordered c.keys-keys.ensures.value c.key_range-least.ensures.least c.key_range-least.ensures.past in
    let first = s.first in
    let end = s.end in
    let counted = s.counted in
    let start = c.requires.within.start in
    let past = c.requires.within.end in
    let inside = c.requires.inside in
    record { ascending = s.ascending; least = omega arith; most = omega arith; inside = omega arith }

pub first_from-end-requires : goal.first_from-end-requires
first_from-end-requires c =
    let s = searched c.args.c c.args.self.now.built c.keys-keys.result.now _ _ c.keys-keys.ensures.tree.ordered c.keys-keys.ensures.value c.key_range-least.ensures.least c.key_range-least.ensures.past in
    let first = s.first in
    let end = s.end in
    let counted = s.counted in
    let found = c.first_from-first.ensures in
    let past = c.requires.within.end in
    let inside = c.requires.inside in
    record { ascending = s.ascending; least = omega arith; most = omega arith; inside = omega arith }

pub between-requires : goal.between-requires
between-requires c =
    let s = searched c.args.c c.args.self.now.built c.keys-keys.result.now _ _ c.keys-keys.ensures.tree.ordered c.keys-keys.ensures.value c.key_range-least.ensures.least c.key_range-least.ensures.past in
    let first = s.first in
    let end = s.end in
    let from = c.first_from-first.ensures in
    let to = c.first_from-end.ensures in
    let past = c.requires.within.end in
    let inside = c.requires.inside in
    let few = c.keys-keys.ensures.tree.are_bodies.few in
    record { ordered = omega arith; few = omega arith }

pub returns : goal.returns
returns c =
    let s = searched c.args.c c.args.self.now.built c.keys-keys.result.now _ _ c.keys-keys.ensures.tree.ordered c.keys-keys.ensures.value c.key_range-least.ensures.least c.key_range-least.ensures.past in
    c.between.ensures
    ∙ span_from_ends c.args.c c.args.self.now.built c.first_from-first.result c.first_from-end.result (c.first_from-first.ensures ∙ s.first) (c.first_from-end.ensures ∙ s.end)
