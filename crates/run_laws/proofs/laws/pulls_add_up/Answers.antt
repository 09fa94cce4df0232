use Rattle.run_laws.proofs.ForceLemmas as lemmas
use Rattle.run_laws.proofs.laws.pulls_add_up.Goals as goal

pub returns : goal.returns
returns c = lemmas.pulls_add_up c.particles_of_one_id_are_one.ensures
