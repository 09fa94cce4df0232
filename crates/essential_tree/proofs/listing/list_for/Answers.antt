use Rattle.std.proofs.Common.{◌∙◌, ap}
use Rattle.essential_tree.specs.Sending.{cells_among}
use Rattle.essential_tree.proofs.ListingLemmas.{sent_from_spans}
use Rattle.essential_tree.proofs.listing.list_for.Goals as goal

pub returns-clause-sent : goal.returns-clause-sent
returns-clause-sent g c =
    sent_from_spans c.args.t c.args.b c.args.tree.now.built c.in_ok-items.items.items _
    (c.in_ok-cells.ensures ∙ ap cells_among c.deref.ensures.value) c.in_ok-items.ensures.spans
