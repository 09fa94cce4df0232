use Rattle.std.proofs.Common.{◌≡◌, List, get_or, sym, ◌∙◌, ap}
use Rattle.pf_geom.specs.Octant.{cell_at}
use Rattle.pf_model.specs.declared.entry.Entry.TheVariants.{Cell, One}
use Rattle.pf_model.specs.Particle.{Particle}
use Rattle.pf_model.specs.Sums.{moment_of}
use Rattle.morton_tree.specs.Spans.{at_span}
use Rattle.tree_lists.proofs.ListingLemmas.{nobody}
use Rattle.tree_lists.proofs.EntryLemmas.{cell_entry, one_entry}
use Rattle.tree_lists.proofs.listing.entry_of.Goals as goal

pub returns-then-level-le-DEEPEST : goal.returns-then-level-le-DEEPEST
returns-then-level-le-DEEPEST c = λ t box e h.
    let js = c.args.tree.now.built in
    let span = c.args.piece.span in
    let moment : c.moment.result ≡ moment_of (at_span span js) = c.moment.ensures ∙ ap (λ (ks : List Particle). moment_of (at_span span ks)) c.requires.unmoved in
    let cell : c.cell_at.result ≡ cell_at (get_or js span.first nobody).at c.args.piece.place.0 = c.cell_at.ensures nobody in
    (λ i. Cell (cell i) (moment i)) ∙ cell_entry t box js e c.args.piece nobody h c.if-level-le-DEEPEST.true

pub returns-else-level-le-DEEPEST : goal.returns-else-level-le-DEEPEST
returns-else-level-le-DEEPEST c = λ t box e h.
    let js = c.args.tree.now.built in
    let span = c.args.piece.span in
    let body : Particle = c.index-bodies-first.result in
    let first : get_or js span.first body ≡ body = sym (c.index-bodies-first.is ∙ ap (λ (ks : List Particle). get_or ks span.first body) (c.bodies.ensures.value ∙ c.requires.unmoved)) in
    ap One (sym first) ∙ one_entry c.levels_are_least.ensures t box js e c.args.piece body h c.if-level-le-DEEPEST.false
