use Rattle.std.proofs.Common.{◌≡◌, length, map}
use Rattle.std.specs.List.{All}
use Rattle.group_lists.specs.Whole.{GroupList}
use Rattle.kern_types.specs.Declarations.{forces_of}
use Rattle.force_phase.specs.Gathered.{IsReady}
use Rattle.force_phase.specs.Outcome.{row_width}
use Rattle.force_phase.specs.Partner.{partner_of}
use Rattle.force_phase.proofs.FoundLemmas.{IsEvaluated}
use Rattle.force_phase.proofs.group_out.evaluate_all.Given as goal

abbrev pub invariant-loop-k : goal.invariant-loop-k
invariant-loop-k l = record {
  ready : IsReady l.t l.work.scratch l.work.targets.items (length l.work.tallies.items);
  rows : length l.rows ≡ length l.bodies;
  widths : All (λ row. length row ≡ row_width (forces_of l.t.decls)) l.rows;
  evaluated : (g : GroupList) → l.partners ≡ map partner_of g.entries → IsEvaluated l.edge l.t (record g { bodies = l.bodies }) l.k l.least l.rows;
}
