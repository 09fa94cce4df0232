use Rattle.std.proofs.Common.{ℕ, length, map, flat_map, refl, sym, ◌∙◌, subst}
use Rattle.std.specs.Prelude.{IsPermutation}
use Rattle.std.proofs.lemmas.List.Sorted.{IsPermutation-map}
use Rattle.std.proofs.lemmas.Option.{slice_get_read}
use Rattle.let_inbox.specs.Sources.{others}
use Rattle.let_inbox.specs.Tokens.{carried}
use Rattle.all_to_all.specs.Arrivals.{HaveCome}
use Rattle.all_to_all.specs.Incoming.{IsIncomingOf}
use Rattle.all_to_all.proofs.Sending.{at_rank, carried_sources}
use Rattle.all_to_all.proofs.post.Post.settle.Goals as goal

pub settle-requires-clause-tokens : goal.settle-requires-clause-tokens
settle-requires-clause-tokens g c =
    let i = c.index-inboxes-self.result in
    let inboxes = c.args.inboxes.now in
    let rank = c.args.self.now.rank in
    let there = slice_get_read inboxes (length inboxes) rank i refl c.requires.of_inboxes.within c.index-inboxes-self.is in
    let place = c.requires.of_inboxes.outgoing.inboxes_are.place rank i there in
    record {
      of_inbox = c.requires.tokens.of_inbox i there;
      sources = c.requires.tokens.sources ∙ (λ k. others (sym place.0 k) (sym place.1 k));
    }

pub returns-clause-of_inboxes : goal.returns-clause-of_inboxes
returns-clause-of_inboxes g c =
    let was = c.requires.of_inboxes in
    let now = c.settle.ensures.of_inbox in
    record {
      within = was.within;
      incoming = at_rank c.args.inboxes.now c.args.self.now.rank (λ i. IsIncomingOf g.M.Named.source g.M.Named.target g.M.Named.has_terms i c.settle.new.self) c.index-inboxes-self.result was.within c.index-inboxes-self.is now;
      outgoing = was.outgoing;
      sources = record { arrivals = now.taker.arrivals; taken = now.taken };
    }

pub returns-clause-sources : goal.returns-clause-sources
returns-clause-sources g c =
    let i = c.index-inboxes-self.result in
    let inboxes = c.args.inboxes.now in
    let rank = c.args.self.now.rank in
    let there = slice_get_read inboxes (length inboxes) rank i refl c.requires.of_inboxes.within c.index-inboxes-self.is in
    let tokens = c.args.tokens.items in
    let names = carried_sources g.M.Named.source i tokens (c.requires.tokens.of_inbox i there) in
    subst (λ ss. IsPermutation ss (map g.M.Named.source c.settle.new.self.parcels.items)) (names ∙ c.requires.tokens.sources)
    (IsPermutation-map g.M.Named.source (flat_map carried tokens) c.settle.new.self.parcels.items c.settle.ensures.all)

pub returns-clause-came : goal.returns-clause-came
returns-clause-came g c =
    let i = c.index-inboxes-self.result in
    let inboxes = c.args.inboxes.now in
    let rank = c.args.self.now.rank in
    let there = slice_get_read inboxes (length inboxes) rank i refl c.requires.of_inboxes.within c.index-inboxes-self.is in
    let place = c.requires.of_inboxes.outgoing.inboxes_are.place rank i there in
    subst (λ (z : ℕ × ℕ). HaveCome g.M.Named.source g.M.Named.target g.M.Named.has_terms z.0 z.1 c.settle.new.self.parcels.items) (λ k. (place.0 k, place.1 k)) c.settle.ensures.of_inbox.came
