use Rattle.particle_file.specs.Printing.{particles_text}
use Rattle.particle_file.proofs.PrintingLemmas.{printed_spells}
use Rattle.particle_file.proofs.laws.printed_particles_read_back.Goals as goal

pub returns : goal.returns
returns c = λ ps bodies good plain.
    c.reading_is_spelling.ensures.spelled (particles_text ps) ps (printed_spells ps c.written_lines_read_back.ensures c.numbers_read_back.ensures.digits c.numbers_read_back.ensures.integers bodies good plain)
