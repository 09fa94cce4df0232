use Rattle.std.proofs.Common.{◌≡◌, ◌-◌, vec_len, vec_capacity}
use Rattle.let_inbox.specs.Tokens.{settled_by}
use Rattle.all_to_all.specs.Arrivals.{Extends}
use Rattle.all_to_all.specs.Incoming.{IsIncomingOf}
use Rattle.all_to_all.proofs.incoming.Incoming.take_all.Given as goal

abbrev pub invariant-loop-parcel : goal.invariant-loop-parcel
invariant-loop-parcel g l = record {
  of_inbox : IsIncomingOf g.M.Named.source g.M.Named.target g.M.Named.has_terms l.inbox l.self;
  settled : settled_by l.self.taker ≡ settled_by l.initial.self.taker;
  more : Extends l.initial.self.parcels.items l.self.parcels.items;
}

abbrev pub decreases-loop-parcel : goal.decreases-loop-parcel
decreases-loop-parcel g l = vec_capacity l.self.parcels - vec_len l.self.parcels
