use Rattle.std.proofs.Common.{length, ap}
use Rattle.exchange.specs.States.{Package}
use Rattle.all_to_all.specs.Posts.{PostState}
use Rattle.exchange_phase.proofs.Leave.{targets_by, sources_by}
use Rattle.exchange_phase.proofs.leaving.Leaver.leave.Goals as goal

pub send-requires-clause-targets : goal.send-requires-clause-targets
send-requires-clause-targets g c =
    targets_by c.args.domains.now.cuts c.args.self.now.state (length c.args.inboxes.now) c.in-Ok.parcels.items _ c.requires.count c.in-Ok.ensures.parcels
    (ap (λ (t : PostState Package). t.unsent) c.requires.fresh)

pub send-requires-clause-sources : goal.send-requires-clause-sources
send-requires-clause-sources g c =
    sources_by c.args.domains.now.cuts c.args.self.now.state c.args.self.now.post.rank c.in-Ok.parcels.items c.in-Ok.ensures.parcels
    (ap (λ (t : PostState Package). t.rank) c.requires.fresh)
