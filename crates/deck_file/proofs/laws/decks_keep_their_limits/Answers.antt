use Rattle.deck_file.proofs.KeptLimits.{kept_limits}
use Rattle.deck_file.proofs.laws.decks_keep_their_limits.Goals as goal

pub returns : goal.returns
returns c = kept_limits
