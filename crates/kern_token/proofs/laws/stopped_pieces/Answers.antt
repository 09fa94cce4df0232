use Rattle.kern_token.proofs.StoppingLemmas.{Begins-stopped}
use Rattle.kern_token.proofs.laws.stopped_pieces.Goals as goal

pub returns : goal.returns
returns c = Begins-stopped
