use Rattle.std.proofs.Common.{ℕ, List, get_or, Option, sym, subst}
use Rattle.std.proofs.lemmas.List.{take_rest}
use Rattle.cell_runs.specs.Finding.{NoSharedPasses, IsFront}
use Rattle.cell_runs.proofs.RunLemmas.{run_from_place}
use Rattle.cell_runs.proofs.finding.run_from.Goals as goal

pub returns-clause-run : goal.returns-clause-run
returns-clause-run g c = λ ps is between.
    let keys = c.args.keys.now in
    run_from_place c.positions_share_lower_cells.ensures c.levels_are_least.ensures c.args.gaps.now c.args.b ps keys c.args.place c.first_level-level.result c.front-len.result c.requires.within
    (λ p key shared. c.first_level-level.ensures.value p key (subst (λ (o : Option ℕ). NoSharedPasses c.args.gaps.now c.args.b o (get_or keys c.args.place 0)) (sym c.key_before.ensures.value) shared))
    (subst (λ (ks : List ℕ). IsFront ks c.first_level-level.result c.front-len.result) (take_rest keys c.args.place) c.front-len.ensures) is between
