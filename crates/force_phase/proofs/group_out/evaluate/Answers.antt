use Rattle.std.proofs.Common.{◌≡◌, ◌++◌, ℤ, List, length, take, drop, sym, ap, subst, ◌∙◌, arith}
use Rattle.std.specs.List.{All}
use Rattle.std.proofs.lemmas.List.{length-map}
use Rattle.pf_model.specs.Particle.{Particle}
use Rattle.kern_types.specs.Declarations.{forces_of}
use Rattle.force_phase.specs.Outcome.{row_width, IsOutcome}
use Rattle.force_phase.specs.Partner.{partner_of}
use Rattle.force_phase.proofs.FoundLemmas.{group_exists, part_at}
use Rattle.force_phase.proofs.UnderWay.{written_back}
use Rattle.force_phase.proofs.group_out.evaluate.Goals as goal

pub evaluate_all-requires-clause-few : goal.evaluate_all-requires-clause-few
evaluate_all-requires-clause-few c =
    let g = group_exists c.args.lists.now.groups c.args.group c.requires.group in
    let room = c.requires.out g.0 g.1 in
    let entries = part_at (λ l. l.entries) c.args.lists.now.groups c.args.group g.0 c.entries-entries.result.now g.1 c.entries-entries.ensures.value in
    let long : length c.deref.result.now ≡ length c.entries-entries.result.now = ap length (c.deref.ensures.value ∙ room.partners) ∙ length-map g.0.entries partner_of ∙ ap length (sym entries) in
    let few = c.entries-entries.ensures.few in
    omega (arith, long, few)

pub evaluate_all-requires-clause-rows : goal.evaluate_all-requires-clause-rows
evaluate_all-requires-clause-rows c =
    let g = group_exists c.args.lists.now.groups c.args.group c.requires.group in
    let room = c.requires.out g.0 g.1 in
    let bodies = part_at (λ l. l.bodies) c.args.lists.now.groups c.args.group g.0 c.group.result.now g.1 c.group.ensures in
    ap length c.deref_mut.ensures.value ∙ room.rows ∙ ap length (sym bodies)

pub evaluate_all-requires-clause-widths : goal.evaluate_all-requires-clause-widths
evaluate_all-requires-clause-widths c =
    let g = group_exists c.args.lists.now.groups c.args.group c.requires.group in
    let room = c.requires.out g.0 g.1 in
    let P : List (List ℤ) → Type 0 = λ rows. All (λ row. length row ≡ row_width (forces_of c.args.t.now.decls)) rows in
    subst P (sym c.deref_mut.ensures.value) room.widths

pub returns-clause-outcome : goal.returns-clause-outcome
returns-clause-outcome c = λ g is.
    let room = c.requires.out g is in
    let bodies = part_at (λ l. l.bodies) c.args.lists.now.groups c.args.group g c.group.result.now is c.group.ensures in
    let own = c.args.out.now.rows in
    let new = c.evaluate_all.new.rows in
    let long : length new ≡ length own.items = c.evaluate_all.auto.rows ∙ ap length c.deref_mut.ensures.value in
    let back : take own.len (new ++ drop (length new) own.items) ≡ new = written_back new own.items own.len (omega (arith, long, own.ok.0)) (omega (arith, own.ok.0)) in
    let P : List Particle → Type 0 = λ bodies. IsOutcome c.args.work.now.edge c.args.t.now (record g { bodies = bodies }) new c.evaluate_all.result in
    subst (λ rows. IsOutcome c.args.work.now.edge c.args.t.now g rows c.evaluate_all.result) (sym back)
    (subst P bodies (c.evaluate_all.ensures.outcome g (c.deref.ensures.value ∙ room.partners)))
