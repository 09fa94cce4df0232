use Rattle.std.proofs.Common.{◌≡◌, ℕ, ◌<◌, ◌++◌, ◌∷◌, [], map, refl, ap, sym, ◌∙◌, subst, subst₂, arith, length-append}
use Rattle.std.specs.Prelude.{IsPermutation}
use Rattle.std.proofs.lemmas.List.Sorted.{IsPermutation-sym}
use Rattle.let_inbox.specs.Sources.{IsSource, times}
use Rattle.let_inbox.specs.Tokens.{taken_by, settled_by, IsSettled}
use Rattle.all_to_all.proofs.Coming.{Extends-more, HaveCome-more, HaveCome-few}
use Rattle.all_to_all.proofs.incoming.Incoming.take_all.Goals as goal

pub push_reserved-requires : goal.push_reserved-requires
push_reserved-requires g c =
    let i = c.args.inbox.now in
    let parcels = c.loop-parcel.self.parcels in
    let m = c.in-Some.parcel in
    let was = c.loop-parcel.invariant.of_inbox in
    let now = c.in-Some.ensures in
    let new = subst (λ ms. times (g.M.Named.source m) (map g.M.Named.source ms) ≡ 0) (sym was.taken) now.source_new in
    let come = HaveCome-more g.M.Named.source g.M.Named.target g.M.Named.has_terms i.dst i.ranks parcels.items (parcels.items ++ m ∷ []) m refl now.target now.terms now.source new was.came in
    let few = HaveCome-few g.M.Named.source g.M.Named.target g.M.Named.has_terms i.dst i.ranks (parcels.items ++ m ∷ []) was.within come in
    let long = length-append parcels.items (m ∷ []) in
    let room = was.room in
    let ok = parcels.ok in
    omega arith

pub loop-parcel-preserved : goal.loop-parcel-preserved
loop-parcel-preserved g c =
    let i = c.args.inbox.now in
    let parcels = c.loop-parcel.self.parcels in
    let m = c.in-Some.parcel in
    let inv = c.loop-parcel.invariant in
    let was = inv.of_inbox in
    let now = c.in-Some.ensures in
    let pushed = c.push_reserved.ensures in
    let new = subst (λ ms. times (g.M.Named.source m) (map g.M.Named.source ms) ≡ 0) (sym was.taken) now.source_new in
    record {
      of_inbox = record {
        within = was.within;
        taker = now.of_inbox;
        taken = pushed.items ∙ ap (λ ms. ms ++ m ∷ []) was.taken ∙ sym now.taken;
        came = HaveCome-more g.M.Named.source g.M.Named.target g.M.Named.has_terms i.dst i.ranks parcels.items _ m pushed.items now.target now.terms now.source new was.came;
        room = let room = was.room in let same = pushed.capacity in omega arith;
      };
      settled = now.settled ∙ inv.settled;
      more = Extends-more _ parcels.items _ m inv.more pushed.items;
    }

pub returns-clause-nothing : goal.returns-clause-nothing
returns-clause-nothing g c = record {
  taker = c.loop-parcel.self.taker;
  taken = sym c.loop-parcel.invariant.of_inbox.taken;
  found = c.in_default.ensures.nothing;
}

pub returns-clause-all : goal.returns-clause-all
returns-clause-all g c = λ settled.
    let inv = c.loop-parcel.invariant in
    let here = inv.of_inbox.taker.place in
    let there = c.requires.taker.place in
    let all : IsSettled g.M.Named.source c.loop-parcel.self.taker = λ s is.
    subst (λ put. 0 < times s (map g.M.Named.source put)) (sym inv.settled)
    (settled s (subst (λ (z : ℕ × ℕ). IsSource z.0 z.1 s) (λ k. ((here.0 ∙ sym there.0) k, (here.1 ∙ sym there.1) k)) is)) in
    let found = c.in_default.ensures.nothing.settled all in
    subst₂ IsPermutation inv.settled (sym inv.of_inbox.taken) (IsPermutation-sym (taken_by c.loop-parcel.self.taker) (settled_by c.loop-parcel.self.taker) found)
