use Rattle.kern_token.specs.declared.limits.TheConstants.{MOST_TEXT}
use Rattle.command_frame.proofs.StepLaws.{load_then_read}
use Rattle.top_call.specs.Inputs.{DeckMeans}
use Rattle.top_call.specs.declared.status.Refusal.TheVariants.{DeckTooLarge}
use Rattle.top_call.proofs.inputs.read_deck.Goals as goal

pub returns-clause-reads : goal.returns-clause-reads
returns-clause-reads g c =
    let read = rw c.deref.ensures.value at c.deck_in.ensures.interprets in
    load_then_read MOST_TEXT DeckTooLarge DeckMeans (λ v. v.items) (λ deck. deck) c.args.name.now c.in_ok-text.text c.text_of.result c.deck_in.result _ _
    c.in_ok-text.was c.text_of.ensures.reads read
