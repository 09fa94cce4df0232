use Rattle.std.proofs.Common.{◌≡◌, ◌++◌, All, flat_map}
use Rattle.let_inbox.specs.Tokens.{carried, taken_by, settled_by, IsSpentOf, IsTakerOf}
use Rattle.let_inbox.proofs.inbox.Inbox.settle.Given as goal

abbrev pub invariant-loop-pass : goal.invariant-loop-pass
invariant-loop-pass g l = record {
  of_inbox : IsTakerOf g.M.Named.source l.self l.t;
  taken : taken_by l.t ≡ taken_by l.fn.t;
  left : All (IsSpentOf g.M.Named.source l.self) l.spent.items;
  settled : flat_map carried l.spent.items ++ settled_by l.t ≡ flat_map carried l.fn.spent.items ++ settled_by l.fn.t;
}

abbrev pub decreases-loop-pass : goal.decreases-loop-pass
decreases-loop-pass g l = goal.left-loop-pass g l
