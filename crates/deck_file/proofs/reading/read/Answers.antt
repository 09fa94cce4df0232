use Rattle.std.proofs.Common.{rules, ◌≡◌, ◌⊎◌}
use Rattle.std.specs.Prelude.{IfErr, IfOk}
use Rattle.deck_file.specs.declared.fault.DeckFault.TheVariants.{Memory}
use Rattle.deck_file.specs.Reading.{HasFirstDeckFault, SpellsDeck}
use Rattle.deck_file.proofs.ReadingLemmas.{exact_answer}
use Rattle.deck_file.proofs.reading.read.Goals as goal

pub returns-in_err-settings-clause-exact : goal.returns-in_err-settings-clause-exact
returns-in_err-settings-clause-exact c =
    let text = c.args.text.now in
    let answer = c.from_residual.result in
    let ok : IfOk answer (SpellsDeck text) = search rules in
    let err : IfErr answer (λ fault. (fault ≡ Memory) ⊎ HasFirstDeckFault text fault) = search rules in
    exact_answer text answer ok err

pub returns-clause-exact : goal.returns-clause-exact
returns-clause-exact c =
    let text = c.args.text.now in
    let answer = c.deck_of.result in
    let ok : IfOk answer (SpellsDeck text) = search rules in
    let err : IfErr answer (λ fault. (fault ≡ Memory) ⊎ HasFirstDeckFault text fault) = search rules in
    exact_answer text answer ok err
