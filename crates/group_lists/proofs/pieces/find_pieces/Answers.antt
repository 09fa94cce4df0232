use Rattle.std.proofs.Common.{◌≡◌, ◌≤◌, length, None, sym, ◌∙◌, ap, subst, arith}
use Rattle.std.proofs.lemmas.List.{length-map}
use Rattle.std.proofs.lemmas.Slice.Zip.{AllZip-long}
use Rattle.pf_model.specs.Criterion.{Criterion}
use Rattle.pf_model.specs.EssentialTree.{Essential}
use Rattle.pf_model.specs.Domains.{particles_of}
use Rattle.pf_model.specs.Interaction.{list_of}
use Rattle.cell_runs.specs.CellRuns.{AreCellRuns}
use Rattle.group_lists.specs.Keyed.{IsKeyed, item_position}
use Rattle.group_lists.specs.Runs.{HasEntriesOf}
use Rattle.group_lists.proofs.PieceRunLemmas.{AreMade, runs_are_made, zip_more, zip_all}
use Rattle.group_lists.proofs.pieces.find_pieces.Given as given
use Rattle.group_lists.proofs.pieces.find_pieces.Goals as goal
use Rattle.group_lists.proofs.pieces.find_pieces.Goals.{After-deref-run-items, After-put_in_order}

-- what is found
made : (g : given.Over) (c : After-deref-run-items g) → AreMade g.T.Terms.theta g.T.Terms.grid g.T.Terms.particles c.args.tree.now c.args.b c.deref-run-items.result.now
made g c =
    let t = g.T.Terms.theta in
    let grid = g.T.Terms.grid in
    let js = g.T.Terms.particles in
    let keyed : IsKeyed t grid js c.args.tree.now c.tree.inside.keys.items c.tree.inside.places.items c.tree.inside.sums.items = subst (λ (v : Essential). IsKeyed t grid js v c.tree.inside.keys.items c.tree.inside.places.items c.tree.inside.sums.items) c.tree.view_is c.tree.invariant in
    runs_are_made c.items_make_pieces.ensures t grid js c.args.tree.now c.args.b c.tree.inside.keys.items c.tree.inside.places.items c.tree.inside.sums.items c.deref-run-items.result.now g.T.Terms.are_bodies g.T.Terms.within_limits c.requires.served keyed
    (λ ps e. subst (AreCellRuns t c.args.b ps) (sym c.deref-run-items.ensures.value)
    (subst (λ (k : Criterion). AreCellRuns k c.args.b ps c.find_runs.new.runs.items) c.requires.theta (c.in_ok-find_runs.ensures.runs ps (c.deref.ensures.value ∙ e))))

pub piece_of-requires-clause-within : goal.piece_of-requires-clause-within
piece_of-requires-clause-within g c =
    let is = made g c.before.before.before.before in
    let inside = (is.found.each c.loop-run.run-index (record { first = 0; len = 0; level = None }) c.loop-run-test.true).inside in
    let long = length-map c.args.tree.now.items item_position in
    omega arith

pub piece_of-requires-clause-some : goal.piece_of-requires-clause-some
piece_of-requires-clause-some g c = ((made g c.before.before.before.before).found.each c.loop-run.run-index (record { first = 0; len = 0; level = None }) c.loop-run-test.true).some

pub piece_of-requires-clause-limits : goal.piece_of-requires-clause-limits
piece_of-requires-clause-limits g c = (made g c.before.before.before.before).limits c.loop-run.run-index (record { first = 0; len = 0; level = None }) c.loop-run-test.true

pub loop-run-preserved : goal.loop-run-preserved
loop-run-preserved g c =
    zip_more c.args.tree.now.items c.deref-run-items.result.now c.loop-run.run-index (record { first = 0; len = 0; level = None }) c.loop-run.pieces.items c.push.new.self.items c.piece_of.result c.loop-run-test.true c.loop-run.invariant c.piece_of.ensures c.in_ok-push.ensures.items

-- the pieces of all runs
all_made : (g : given.Over) (c : After-put_in_order g) → HasEntriesOf g.T.Terms.theta c.args.b (particles_of g.T.Terms.grid g.T.Terms.particles c.args.tree.now.src) c.loop-run.pieces.items
    × (length c.loop-run.pieces.items ≤ length (list_of g.T.Terms.theta c.args.b (particles_of g.T.Terms.grid g.T.Terms.particles c.args.tree.now.src))) × (length c.loop-run.pieces.items ≡ length c.find_runs.new.runs.items)
    × (c.put_in_order.new.entries.items ≡ list_of g.T.Terms.theta c.args.b (particles_of g.T.Terms.grid g.T.Terms.particles c.args.tree.now.src))
all_made g c =
    let runs = c.deref-run-items.result.now in
    let all = zip_all c.args.tree.now.items runs c.loop-run.run-index c.loop-run.pieces.items c.loop-run-test.false c.loop-run.invariant in
    let made = (made g c.before.before.before.before).pieces c.loop-run.pieces.items all in
    let own = particles_of g.T.Terms.grid g.T.Terms.particles c.args.tree.now.src in (
      made.0,
      made.1,
      AllZip-long _ runs c.loop-run.pieces.items all ∙ ap length c.deref-run-items.ensures.value,
      c.put_in_order.ensures g.T.Terms.theta c.args.b own (c.some_have_distinct_ids.ensures _ g.T.Terms.particles g.T.Terms.are_bodies.distinct) made.0,
    )

pub returns-clause-pieces : goal.returns-clause-pieces
returns-clause-pieces g c =
    let t = g.T.Terms.theta in
    (all_made g c).3 ∙ ap (list_of t c.args.b) (sym (c.one_rank_has_its_own.ensures g.T.Terms.grid g.T.Terms.particles c.args.tree.now.src))

pub returns-clause-tests : goal.returns-clause-tests
returns-clause-tests g c =
    let all = all_made g c in
    let short = all.1 in
    let same = all.2 in
    let long = ap length all.3 in
    let tests = c.in_ok-find_runs.ensures.tests in
    omega arith
