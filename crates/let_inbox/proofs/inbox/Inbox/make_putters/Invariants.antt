use Rattle.std.proofs.Common.{◌≡◌, ◌-◌, ◌≤◌, ◌++◌, map, All}
use Rattle.crossbeam_queue.specs.Passes.{view, IsPassOf}
use Rattle.let_inbox.specs.Sources.{others, others_from}
use Rattle.let_inbox.specs.Rule.{fresh_view}
use Rattle.let_inbox.specs.Tokens.{source_of, IsPutterOf}
use Rattle.let_inbox.proofs.inbox.Inbox.make_putters.Given as goal

abbrev pub invariant-loop-source : goal.invariant-loop-source
invariant-loop-source g l = record {
  within : l.source ≤ l.self.ranks;
  of_queue : IsPassOf l.self.queue l.pass;
  left : view l.pass ≡ fresh_view l.self.dst l.self.ranks (others_from l.self.dst l.source (l.self.ranks - l.source));
  putters : All (IsPutterOf l.self) l.putters.items;
  sources : map source_of l.putters.items ++ others_from l.self.dst l.source (l.self.ranks - l.source) ≡ others l.self.dst l.self.ranks;
}
