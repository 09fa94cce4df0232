use Rattle.kern_tree.proofs.OneAnswer.{one_answer}
use Rattle.kern_tree.proofs.laws.one_answer.Goals as goal

pub returns : goal.returns
returns c = one_answer
