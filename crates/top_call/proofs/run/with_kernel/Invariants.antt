use Rattle.top_call.specs.Run.{setup_of}
use Rattle.top_call.proofs.run.with_kernel.Given as goal

abbrev pub ghosts-write_dumps : goal.ghosts-write_dumps
ghosts-write_dumps g a = record { setup = setup_of a.deck.now a.kernel a.particles }
