use Rattle.run_laws.proofs.PullLemmas as lemmas
use Rattle.run_laws.proofs.laws.pull_kernels_give_distances.Goals as goal

pub returns : goal.returns
returns c = lemmas.pull_kernels_give_distances
