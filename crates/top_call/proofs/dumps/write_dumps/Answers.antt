use Rattle.std.proofs.Common.{inl, refl}
use Rattle.command_frame.proofs.StepLaws.{carried_at_once}
use Rattle.command_frame.specs.Status.{EndsWriting}
use Rattle.command_frame.specs.declared.status.Status.TheVariants.{Memory}
use Rattle.top_call.specs.Run.{setup_of}
use Rattle.top_call.proofs.RunSteps.{WritesDumps, dumps_written}
use Rattle.top_call.proofs.dumps.write_dumps.Goals as goal

pub returns : goal.returns
returns g c =
    let deck = c.args.deck.now in
    dumps_written deck.out c.file_name.result.now g.U.Run.setup (setup_of deck c.args.kernel c.args.particles) c.in-Ok.world c.write.result _ _
    c.file_name.ensures c.requires.run c.write.ensures

pub returns-in_default : goal.returns-in_default
returns-in_default g c =
    let deck = c.args.deck.now in
    carried_at_once EndsWriting (WritesDumps deck.out (setup_of deck c.args.kernel c.args.particles)) Memory _ tt (λ files. inl refl) (λ files said. refl) refl
