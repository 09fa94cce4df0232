use Rattle.std.proofs.Common.{◌≡◌, ◌+◌, ◌<◌, [], ◌∷◌, ◌++◌, List, length, All, refl, sym, ◌∙◌, subst, arith, length-append}
use Rattle.let_inbox.specs.declared.inbox.Inbox.{Inbox}
use Rattle.let_inbox.specs.Tokens.{taken_by, IsPutterOf}
use Rattle.all_to_all.specs.declared.incoming.Incoming.{Incoming}
use Rattle.all_to_all.specs.declared.opening.Column.{Column}
use Rattle.all_to_all.specs.declared.post.Post.{Post}
use Rattle.all_to_all.specs.Incoming.{IsIncomingOf}
use Rattle.all_to_all.specs.Opening.{IsUnused, IsColumnOf, IsOpenTo}
use Rattle.all_to_all.proofs.Coming.{HaveCome-none}
use Rattle.all_to_all.proofs.Opened.{opens_next, at_last}
use Rattle.all_to_all.proofs.opening.Opening.open_inbox.Goals as goal

pub returns : goal.returns
returns g c =
    let M : Type 0 = g.row.M.Denot in
    let rank = c.args.rank in
    let ranks = c.args.ranks in
    let before = c.requires.before in
    let inboxes = c.args.self.now.inboxes.items in
    let i = c.in_ok-inbox.inbox in
    let made = c.in_ok-inbox.ensures in
    let incoming : Incoming M = record { taker = c.in_ok-inbox.taker; parcels = c.in_ok-with_capacity.field-0 } in
    let post : Post M = record { rank = rank; incoming = incoming; outgoing = record { unsent = c.in_ok-with_capacity-2.field-0; tokens = c.in_ok-with_capacity-3.field-0 } } in
    let column : Column M = record { target = rank; putters = c.in_ok-inbox.putters } in
    let long = length-append inboxes (i ∷ []) in
    let count = before.count in
    let within : rank < length (inboxes ++ i ∷ []) = omega arith in
    let none = c.in_ok-with_capacity.ensures.items in
    let taken : incoming.parcels.items ≡ taken_by incoming.taker = none ∙ sym made.fresh.0 in
    let coming : IsIncomingOf g.M.Named.source g.M.Named.target g.M.Named.has_terms i incoming = record {
      within = let place = made.place in let below = c.requires.within in omega arith;
      taker = made.taker;
      taken = taken;
      came = HaveCome-none g.M.Named.source g.M.Named.target g.M.Named.has_terms i.dst i.ranks incoming.parcels.items none;
      room = let place = made.place in let cap = c.in_ok-with_capacity.ensures.exact in omega arith;
    } in
    let unused : IsUnused g.M.Named.source g.M.Named.target g.M.Named.has_terms ranks (inboxes ++ i ∷ []) post = record {
      within = within;
      incoming = at_last inboxes i rank (λ i. IsIncomingOf g.M.Named.source g.M.Named.target g.M.Named.has_terms i incoming) count coming;
      sources = record { arrivals = made.taker.arrivals; taken = taken };
      unsent = c.in_ok-with_capacity-2.ensures.items;
      tokens = c.in_ok-with_capacity-3.ensures.items;
      received = none;
      settled = made.fresh.1;
      room = let cap = c.in_ok-with_capacity-3.ensures.exact in omega arith;
    } in
    let handed : IsColumnOf ranks (inboxes ++ i ∷ []) column = record {
      within = within;
      putters = at_last inboxes i rank (λ i. All (IsPutterOf i) column.putters.items) count made.putters;
      sources = made.sources;
    } in
    let opened = opens_next g.M.Named.source g.M.Named.target g.M.Named.has_terms ranks inboxes c.args.self.now.posts.items c.args.self.now.columns.items rank i post column before made.place.0 made.place.1 refl refl unused handed in
    record {
      after = subst (λ (z : List (Inbox M) × List (Post M) × List (Column M)). IsOpenTo g.M.Named.source g.M.Named.target g.M.Named.has_terms (rank + 1) ranks z.0 z.1 z.2)
          (λ k. (sym c.in_ok-push.ensures.items k, sym c.in_ok-push-2.ensures.items k, sym c.in_ok-push-3.ensures.items k)) opened;
    }
