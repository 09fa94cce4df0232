use Rattle.model_laws.proofs.PresentLemmas.{present_ignores_order}
use Rattle.model_laws.proofs.reuse_laws.present_ignores_order.Goals as goal

pub returns : goal.returns
returns c = present_ignores_order
