use Rattle.std.proofs.Common.{◌≡◌, ◌^◌, Ok, Err, refl}
use Rattle.command_frame.proofs.StepLaws.{carried_as_more, goes_on_after}
use Rattle.command_frame.proofs.VerdictLaws.{reading_looks}
use Rattle.command_frame.specs.Status.{EndsWriting}
use Rattle.top_call.specs.Inputs.{ParticleFileMeans, ParticlesMean}
use Rattle.top_call.specs.declared.status.Refusal.TheVariants as refusals
use Rattle.top_call.specs.Run.{EndsRun, run_verdict, setup_of}
use Rattle.top_call.proofs.RunSteps.{WritesDumps, stops_run, writing_ends_run}
use Rattle.top_call.proofs.run.with_kernel.Goals as goal

pub returns-in-Ok : goal.returns-in-Ok
returns-in-Ok g c =
    let deck = c.args.deck.now in
    let reads = rw c.file_name.ensures at c.in-Ok.ensures.reads in
    let run = setup_of deck c.args.kernel c.in-Ok.particles in
    let carried = carried_as_more EndsWriting EndsRun (WritesDumps deck.out run) (WritesDumps deck.out run) c.write_dumps.result _ _
    (writing_ends_run c.write_dumps.result) (λ files verdict m. m) (λ alike. alike) c.write_dumps.ensures in
    goes_on_after EndsRun ParticleFileMeans (λ particles. particles) deck.particles (λ files particles last. last ≡ run_verdict deck.out (setup_of deck c.args.kernel particles))
    (Ok c.in-Ok.particles) c.in-Ok.particles c.write_dumps.result _ _ _ refl reads
    (reading_looks (2 ^ 24) refusals.ParticlesTooLarge ParticlesMean deck.particles (λ files particles last. last ≡ run_verdict deck.out (setup_of deck c.args.kernel particles))) carried

pub returns-in-Err : goal.returns-in-Err
returns-in-Err g c =
    let deck = c.args.deck.now in
    let reads = rw c.file_name.ensures at c.in-Err.ensures.reads in
    stops_run ParticleFileMeans (λ particles. particles) deck.particles (λ files particles last. last ≡ run_verdict deck.out (setup_of deck c.args.kernel particles))
    (Err c.in-Err.status) c.in-Err.status _ _ c.in-Err.ensures.ends refl reads
    (reading_looks (2 ^ 24) refusals.ParticlesTooLarge ParticlesMean deck.particles (λ files particles last. last ≡ run_verdict deck.out (setup_of deck c.args.kernel particles)))
