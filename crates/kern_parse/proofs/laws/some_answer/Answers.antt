use Rattle.kern_parse.proofs.FirstFaults.{some_answer}
use Rattle.kern_parse.proofs.laws.some_answer.Goals as goal

pub returns : goal.returns
returns c = some_answer c.trees_by_form.ensures c.tokens_stand_in_order.ensures.stand c.tokens_stand_in_order.ensures.in_order
