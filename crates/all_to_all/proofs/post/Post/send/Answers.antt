use Rattle.std.proofs.Common.{◌≡◌, [], ◌∷◌, ◌++◌, length, map, drop, append_assoc, ap, sym, ◌∙◌, subst, length-append}
use Rattle.std.proofs.lemmas.Iterator.Adapters.{YieldsList-from_vec}
use Rattle.std.proofs.lemmas.Iterator.Consumers.{YieldsList-turn}
use Rattle.all_to_all.specs.Outgoing.{unsent_of, IsOutgoingOf}
use Rattle.all_to_all.proofs.Sending.{target_left, one_dropped}
use Rattle.all_to_all.proofs.post.Post.send.Goals as goal

pub put_next-requires-clause-target : goal.put_next-requires-clause-target
put_next-requires-clause-target g c =
    let p = c.in-Some.parcel in
    let items = c.args.parcels.items in
    let n = length c.loop-parcel.yielded in
    let start = c.into_iter-parcel-iterator.ensures.into_iter_gives in
    let turn = YieldsList-turn (YieldsList-from_vec items start.0 (start.1 ∙ c.args.parcels.ok.0)) c.loop-parcel.yielded c.loop-parcel.parcel-iterator c.loop-parcel.yielded_by c.next.result c.next.new.self p c.in-Some.is c.next.ensures.steps in
    let left : unsent_of c.loop-parcel.self.outgoing ≡ drop n (map g.M.Named.target items) = c.loop-parcel.invariant.unsent ∙ ap (drop n) (sym c.requires.targets) in
    left ∙ target_left g.M.Named.target items n p turn.0 (sym turn.1) ∙ ap (λ ts. g.M.Named.target p ∷ drop 1 ts) (sym left)

pub loop-parcel-preserved : goal.loop-parcel-preserved
loop-parcel-preserved g c =
    let p = c.in-Some.parcel in
    let items = c.args.parcels.items in
    let put = c.put_next.ensures in
    let inv = c.loop-parcel.invariant in
    let was = inv.of_inboxes in
    let n = length c.loop-parcel.yielded in
    let inboxes = c.args.inboxes.now in
    let start = c.into_iter-parcel-iterator.ensures.into_iter_gives in
    let turn = YieldsList-turn (YieldsList-from_vec items start.0 (start.1 ∙ c.args.parcels.ok.0)) c.loop-parcel.yielded c.loop-parcel.parcel-iterator c.loop-parcel.yielded_by c.next.result c.next.new.self p c.in-Some.is c.next.ensures.steps in
    let from : g.M.Named.source p ≡ c.loop-parcel.self.rank = ap g.M.Named.source turn.1 ∙ c.requires.sources n p turn.0 ∙ sym inv.rank in
    let more = length-append c.loop-parcel.yielded (p ∷ []) in
    record {
      of_inboxes = record {
        within = was.within;
        incoming = was.incoming;
        outgoing = subst (λ rank. IsOutgoingOf g.M.Named.source g.M.Named.target (length inboxes) inboxes rank c.put_next.new.self) from put.of_inboxes;
        sources = record { arrivals = was.sources.arrivals; taken = was.sources.taken };
      };
      unsent = put.unsent ∙ ap (drop 1) inv.unsent ∙ one_dropped g.M.Named.target (unsent_of c.args.self.now.outgoing) n ∙ ap (λ k. drop k (unsent_of c.args.self.now.outgoing)) (sym more);
      sent = put.sent ∙ ap (λ ms. ms ++ p ∷ []) inv.sent ∙ append_assoc _ c.loop-parcel.yielded (p ∷ []);
      rank = inv.rank;
      incoming = inv.incoming;
    }
