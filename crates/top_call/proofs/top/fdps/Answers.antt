use Rattle.std.proofs.Common.{map}
use Rattle.command_frame.proofs.Concluding.{concluded}
use Rattle.top_call.specs.Said.{line_of}
use Rattle.top_call.specs.Words.{EndsWords, WordsMean}
use Rattle.top_call.proofs.top.fdps.Goals as goal

pub returns-clause-concludes : goal.returns-clause-concludes
returns-clause-concludes g c =
    let words = map g.W.AsStr.text c.args.words.now in
    concluded (EndsWords words) (WordsMean words) line_of c.carry_out-status.result c.say.result _ _ _ (c.one_verdict.ensures words) c.carry_out-status.ensures c.say.ensures
