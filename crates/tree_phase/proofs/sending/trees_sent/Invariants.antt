use Rattle.std.proofs.Common.{◌≡◌}
use Rattle.let_inbox.specs.Sources.{others}
use Rattle.tree_phase.specs.Parcels.{trees_sent, AreSentTo}
use Rattle.tree_phase.proofs.sending.trees_sent.Given as goal

abbrev pub invariant-loop-dst : goal.invariant-loop-dst
invariant-loop-dst g l = record {
  parcels : l.parcels.items ≡ trees_sent g.T.Terms.theta g.T.Terms.grid g.T.Terms.particles l.rank l.dst;
  kept : AreSentTo g.T.Terms.theta g.T.Terms.grid g.T.Terms.particles l.rank l.own.built (others l.rank l.dst) l.kept.items;
}
