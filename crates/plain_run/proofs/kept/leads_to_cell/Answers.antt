use Rattle.std.proofs.Common.{List, sym, subst, ◌∙◌, ap}
use Rattle.std.specs.List.{list_any}
use Rattle.pf_model.specs.declared.entry.Entry.{Entry}
use Rattle.pf_model.specs.Particle.{Particle}
use Rattle.pf_model.specs.Particles.{AreBodies}
use Rattle.pf_model.specs.Interaction.{list_of}
use Rattle.plain_run.specs.Lists.{is_of_cell}
use Rattle.plain_run.proofs.KeptLemmas.{one_is_bodies, leads_alone}
use Rattle.plain_run.proofs.kept.leads_to_cell.Goals as goal

pub slow_list-requires : goal.slow_list-requires
slow_list-requires c = subst AreBodies (sym c.from_ref.ensures.value) (one_is_bodies c.args.body.now)

pub returns : goal.returns
returns c =
    c.has_cell.ensures
    ∙ ap (λ (l : List Entry). list_any (is_of_cell c.args.cell) l) (c.deref.ensures.value ∙ c.in_ok-entries.ensures ∙ ap (λ (js : List Particle). list_of c.args.theta c.args.around js) c.from_ref.ensures.value)
    ∙ leads_alone c.args.theta c.args.around c.args.cell c.args.body.now
