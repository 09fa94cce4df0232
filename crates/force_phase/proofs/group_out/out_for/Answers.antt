use Rattle.std.proofs.Common.{◌≡◌, ℕ, length, map, ap, subst, ◌∙◌, arith}
use Rattle.std.specs.List.{All}
use Rattle.kern_types.specs.Declarations.{forces_of}
use Rattle.force_phase.specs.Outcome.{row_width}
use Rattle.force_phase.specs.Partner.{partner_of}
use Rattle.force_phase.proofs.FoundLemmas.{part_at}
use Rattle.force_phase.proofs.group_out.out_for.Goals as goal

pub row_width-width-requires : goal.row_width-width-requires
row_width-width-requires c =
    rw c.forces.ensures (omega (arith, c.forces_and_slots_are_few.ensures c.args.t.now c.kernel-kernel.ensures.parsed))

pub returns : goal.returns
returns c = λ g is.
    let bodies = part_at (λ l. l.bodies) c.args.lists.now.groups c.args.group g c.group.result.now is c.group.ensures in
    let entries = part_at (λ l. l.entries) c.args.lists.now.groups c.args.group g c.entries.result.now is c.entries.ensures.value in
    let width : c.row_width-width.result ≡ row_width (forces_of c.args.t.now.decls) = c.row_width-width.ensures ∙ ap row_width c.forces.ensures in
    let P : ℕ → Type 0 = λ n. All (λ row. length row ≡ n) c.in_ok-rows_of.field-0.items in
    record {
      partners = c.in_ok-partners.ensures ∙ ap (map partner_of) entries;
      rows = c.in_ok-rows_of.ensures.count ∙ ap length bodies;
      widths = subst P width c.in_ok-rows_of.ensures.widths;
    }
