use Rattle.kern_print.proofs.ReadBack.{reads_back}
use Rattle.kern_print.proofs.laws.canonical_reads_back.Goals as goal

pub returns : goal.returns
returns c = reads_back c.trees_by_form.ensures c.stopped_pieces.ensures c.tokens_stand_in_order.ensures.stand
