use Rattle.std.proofs.Common.{sym, subst}
use Rattle.pf_model.specs.Interaction.{list_of}
use Rattle.model_laws.specs.ListLaws.{IsListOf}
use Rattle.model_laws.proofs.ListLemmas.{IsListOf-list_of, same_list}
use Rattle.model_laws.proofs.list_laws.lists_hold_their_entries.Goals as goal

pub returns : goal.returns
returns c = λ t box js es distinct.
    (λ h. same_list t box js es (list_of t box js) h (IsListOf-list_of t box js distinct), λ e. subst (IsListOf t box js) (sym e) (IsListOf-list_of t box js distinct))
