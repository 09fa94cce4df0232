use Rattle.run_laws.proofs.laws.lists_without_cells_are_particles.Goals as goal

pub returns : goal.returns
returns c = λ t box js angle none.
    c.lists_of_near_are_particles.ensures t box js (λ k j within level deep. c.nothing_passes_at_zero.ensures t box _ angle none)
