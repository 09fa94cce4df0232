use Rattle.kern_parse.proofs.Stopping.{unexpected_is_the_stop}
use Rattle.kern_parse.proofs.laws.unexpected_is_the_stop.Goals as goal

pub returns : goal.returns
returns c = (unexpected_is_the_stop c.trees_by_form.ensures)
