use Rattle.std.proofs.Common.{◌^◌, ◌<◌, ℕ, List, length, map, sym, ◌∙◌, ap, subst}
use Rattle.std.specs.List.{All}
use Rattle.std.specs.List.Sorted.{IsNonDecreasing}
use Rattle.std.proofs.lemmas.Result.{IfOk-weaker}
use Rattle.pf_geom.specs.Key.{morton_key}
use Rattle.pf_model.specs.Particle.{Particle}
use Rattle.pf_model.specs.Particles.{HaveDistinctIds}
use Rattle.cell_runs.specs.declared.cell_run.CellRun.{CellRun}
use Rattle.tree_lists.specs.Pieces.{IsRunAmong, ArePieces, ArePiecesOf}
use Rattle.tree_lists.proofs.PieceLemmas.{positions, pieces_from_runs, runs_among}
use Rattle.tree_lists.proofs.KeyLemmas.{keys_of_positions, keys_fit, keys_ascend}
use Rattle.tree_lists.proofs.pieces.pieces_of.Goals as goal

pub find_runs-requires-clause-keys : goal.find_runs-requires-clause-keys
find_runs-requires-clause-keys g c =
    subst (All (λ (key : ℕ). key < 2 ^ 90)) (sym c.keys.ensures.value) (keys_fit c.keys_fit.ensures c.args.tree.now.built)

pub find_runs-requires-clause-ascending : goal.find_runs-requires-clause-ascending
find_runs-requires-clause-ascending g c =
    subst IsNonDecreasing (sym c.keys.ensures.value) (keys_ascend c.args.tree.now.built c.bodies-bodies.ensures.tree.ordered)

pub pieces_for-requires : goal.pieces_for-requires
pieces_for-requires g c =
    let js = c.bodies-bodies.result.now in
    let same = c.bodies-bodies.ensures.value ∙ c.requires.unmoved in
    let runs = c.in_ok-find_runs.ensures.runs (positions js) (c.keys.ensures.value ∙ ap (map (λ (j : Particle). morton_key j.at)) (sym same) ∙ keys_of_positions js) in
    subst (All (IsRunAmong (length js))) (sym c.deref.ensures.value) (runs_among c.levels_are_least.ensures c.args.t c.args.b js c.find_runs.new.runs.items runs)

pub returns-clause-pieces : goal.returns-clause-pieces
returns-clause-pieces g c =
    let js = c.bodies-bodies.result.now in
    let same = c.bodies-bodies.ensures.value ∙ c.requires.unmoved in
    let rs = c.find_runs.new.runs.items in
    let runs = c.in_ok-find_runs.ensures.runs (positions js) (c.keys.ensures.value ∙ ap (map (λ (j : Particle). morton_key j.at)) (sym same) ∙ keys_of_positions js) in
    let distinct = c.bodies-bodies.ensures.tree.are_bodies.distinct in
    IfOk-weaker c.pieces_for.result (λ qs. ArePiecesOf js c.deref.result.now qs.items) (λ qs. ArePieces c.args.t c.args.b c.args.tree.now.built qs.items) (λ qs pieces.
    subst (λ (ks : List Particle). ArePieces c.args.t c.args.b ks qs.items) same
    (pieces_from_runs c.tests_keep_spans.ensures c.levels_are_least.ensures c.first_cells_hold_their_members.ensures c.runs_hold_each_place.ensures c.runs_rise.ensures c.args.t c.args.b js rs qs.items
    (subst HaveDistinctIds (sym same) distinct) runs (subst (λ (ss : List CellRun). ArePiecesOf js ss qs.items) c.deref.ensures.value pieces)))
    c.pieces_for.ensures
