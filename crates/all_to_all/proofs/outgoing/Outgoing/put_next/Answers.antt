use Rattle.std.proofs.Common.{◌≡◌, ◌<◌, ◌∷◌, [], map, length, refl, ap, sym, ◌∙◌, arith, Some}
use Rattle.std.proofs.lemmas.List.Elements.{All-pop, All-push, All-same}
use Rattle.std.proofs.lemmas.Option.{slice_get_read}
use Rattle.let_inbox.specs.Tokens.{IsSpentOf}
use Rattle.all_to_all.specs.Outgoing.{IsPutterFrom, IsTokenFrom}
use Rattle.all_to_all.proofs.Sending.{next_target, at_rank}
use Rattle.all_to_all.proofs.outgoing.Outgoing.put_next.Goals as goal

pub put-spent-requires-clause-target : goal.put-spent-requires-clause-target
put-spent-requires-clause-target g c =
    let s = c.in-Some.field-0 in
    let inboxes = c.args.inboxes.now in
    let i = c.index-inboxes-target.result in
    let within = (All-pop (λ s. s.target < length inboxes) _ _ (Some s) c.in-Some.ensures.items c.requires.of_inboxes.within).1 in
    let here = c.requires.of_inboxes.inboxes_are.place s.target i (slice_get_read inboxes (length inboxes) s.target i refl within c.index-inboxes-target.is) in
    let next = next_target c.args.self.now.unsent.items c.pop.new.self.items s c.in-Some.ensures.items in
    let asked = c.requires.target in
    let same : g.M.Named.target c.args.parcel ≡ s.target = cc in
    same ∙ sym here.0

pub returns-clause-of_inboxes : goal.returns-clause-of_inboxes
returns-clause-of_inboxes g c =
    let s = c.in-Some.field-0 in
    let was = c.requires.of_inboxes in
    let inboxes = c.args.inboxes.now in
    let rank = g.M.Named.source c.args.parcel in
    let left = c.in-Some.ensures.items in
    let pushed = c.push_reserved.ensures in
    let within = All-pop (λ s. s.target < length inboxes) _ _ (Some s) left was.within in
    let next = next_target c.args.self.now.unsent.items c.pop.new.self.items s left in
    let asked = c.requires.target in
    let same : g.M.Named.target c.args.parcel ≡ s.target = cc in
    record {
      inboxes_are = was.inboxes_are;
      within = within.0;
      putters = (All-pop (IsPutterFrom inboxes rank) _ _ (Some s) left was.putters).0;
      tokens = All-same (IsTokenFrom g.M.Named.source g.M.Named.target inboxes rank) _ _ pushed.items
          (All-push (IsTokenFrom g.M.Named.source g.M.Named.target inboxes rank) _ _ was.tokens record {
            spent = at_rank inboxes s.target (λ i. IsSpentOf g.M.Named.source i c.put-spent.result) c.index-inboxes-target.result within.1 c.index-inboxes-target.is c.put-spent.ensures.of_inbox;
            from_rank = c.put-spent.ensures.source;
            for_target = ap (map g.M.Named.target) c.put-spent.ensures.carried ∙ ap (λ t. t ∷ []) same;
          });
      room = let room = was.room in let popped = c.in-Some.ensures.len in let cap = pushed.capacity in let long = pushed.len in omega arith;
    }
