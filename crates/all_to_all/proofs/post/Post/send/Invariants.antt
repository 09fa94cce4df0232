use Rattle.std.proofs.Common.{◌≡◌, ◌++◌, length, drop}
use Rattle.all_to_all.specs.Outgoing.{unsent_of, sent_of}
use Rattle.all_to_all.specs.Posts.{IsPostOf}
use Rattle.all_to_all.proofs.post.Post.send.Given as goal

abbrev pub invariant-loop-parcel : goal.invariant-loop-parcel
invariant-loop-parcel g l = record {
  of_inboxes : IsPostOf g.M.Named.source g.M.Named.target g.M.Named.has_terms l.inboxes l.self;
  unsent : unsent_of l.self.outgoing ≡ drop (length l.yielded) (unsent_of l.initial.self.outgoing);
  sent : sent_of l.self.outgoing ≡ sent_of l.initial.self.outgoing ++ l.yielded;
  rank : l.self.rank ≡ l.initial.self.rank;
  incoming : l.self.incoming ≡ l.initial.self.incoming;
}
