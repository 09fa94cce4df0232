use Rattle.std.proofs.Common.{inr}
use Rattle.std.proofs.lemmas.Result.{err_from_is_err_and}
use Rattle.kern_parse.proofs.Leaves.{literal_read, literal_full}
use Rattle.kern_parse.proofs.reader.Reader.literal.Goals as goal

pub returns-in_err-place : goal.returns-in_err-place
returns-in_err-place c =
    let fault = err_from_is_err_and c.from_residual.result c.from_residual.ensures.1 in
    rw (fault.1, fault.2) (inr (literal_full c.args.number c.args.self.now _ c.requires c.in_err-place.ensures.err))

pub returns : goal.returns
returns c = literal_read c.args.number _ _ c.args.self.now c.node.new.self _ c.requires c.in_ok-place.ensures.ok c.scale_if_any-scale.ensures
