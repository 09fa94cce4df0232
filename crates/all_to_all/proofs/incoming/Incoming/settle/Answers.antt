use Rattle.std.proofs.Common.{◌<◌, arith, subst, sym}
use Rattle.let_inbox.specs.Sources.{times}
use Rattle.all_to_all.proofs.incoming.Incoming.settle.Goals as goal

pub settle-requires-clause-every : goal.settle-requires-clause-every
settle-requires-clause-every g c = λ s is.
    let i = c.args.inbox.now in
    let once = (c.others_are_the_sources.ensures i.dst i.ranks).0.each s is in
    subst (λ ss. 0 < times s ss) (sym c.requires.tokens.sources) (omega arith)
