use Rattle.std.proofs.Common.{◌∙◌, sym}
use Rattle.kern_parse.proofs.Leaves.{scale_passed, scale_taken}
use Rattle.kern_parse.proofs.reader.Reader.scale_if_any.Goals as goal

pub returns-in_default : goal.returns-in_default
returns-in_default c = scale_passed c.args.self.now (rw (← c.next.ensures) c.in_default.ensures)

pub returns : goal.returns
returns c = scale_taken c.args.self.now _ c.in-Some.bits _ c.take.ensures (sym c.next.ensures ∙ c.in-Some.ensures)
