use Rattle.std.proofs.Common.{Ok, Err, refl}
use Rattle.command_frame.proofs.StepLaws.{goes_on_after}
use Rattle.command_frame.proofs.VerdictLaws.{reading_looks}
use Rattle.kern_token.specs.declared.limits.TheConstants.{MOST_TEXT}
use Rattle.top_call.specs.Inputs.{DeckFileMeans, DeckMeans}
use Rattle.top_call.specs.declared.status.Refusal.TheVariants as refusals
use Rattle.top_call.specs.Run.{EndsRun, WithDeck}
use Rattle.top_call.proofs.RunSteps.{stops_run}
use Rattle.top_call.proofs.run.run.Goals as goal

pub returns-in-Ok : goal.returns-in-Ok
returns-in-Ok g c =
    goes_on_after EndsRun DeckFileMeans (λ deck. deck) c.args.name.now (λ files deck. WithDeck deck files) (Ok c.in-Ok.deck) c.in-Ok.deck c.with_deck.result _ _ _
    refl c.in-Ok.ensures.reads (reading_looks MOST_TEXT refusals.DeckTooLarge DeckMeans c.args.name.now (λ files deck. WithDeck deck files)) c.with_deck.ensures

pub returns-in-Err : goal.returns-in-Err
returns-in-Err g c =
    stops_run DeckFileMeans (λ deck. deck) c.args.name.now (λ files deck. WithDeck deck files) (Err c.in-Err.status) c.in-Err.status _ _
    c.in-Err.ensures.ends refl c.in-Err.ensures.reads (reading_looks MOST_TEXT refusals.DeckTooLarge DeckMeans c.args.name.now (λ files deck. WithDeck deck files))
