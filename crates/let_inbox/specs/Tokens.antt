-- What clauses see of an inbox, its putters, its taker and its spent tokens.
use Rattle.std.specs.Prelude.{◌≡◌, ℕ, ◌-◌, ◌<◌, ◌≤◌, List, [], ◌∷◌, map, vec_capacity}
use Rattle.crossbeam_queue.specs.Passes.{view, IsPassOf}
use Rattle.let_inbox.specs.declared.inbox.Inbox.{Inbox}
use Rattle.let_inbox.specs.declared.tokens.Putter.{Putter}
use Rattle.let_inbox.specs.declared.tokens.Spent.{Spent}
use Rattle.let_inbox.specs.declared.tokens.Taker.{Taker}
use Rattle.let_inbox.specs.Sources.{IsSource, times}
use Rattle.let_inbox.specs.Rule.{putter_view, spent_view, IsTaking, AllSettled}

module _ {M : Type 0} where
  -- the rank whose inbox it is, and the number of all ranks
  abbrev pub rank_of : Inbox M → ℕ
  rank_of i = i.dst

  abbrev pub ranks_of : Inbox M → ℕ
  ranks_of i = i.ranks

  -- the source that puts
  abbrev pub source_of : Putter M → ℕ
  source_of p = p.source

  -- the parcel that was put, as a list of one
  abbrev pub carried : Spent M → List M
  carried s = (view s.pass).put

  abbrev pub spent_source : Spent M → ℕ
  spent_source s = s.source

  -- the parcels taken, in order, and those of the Spents settled
  abbrev pub taken_by : Taker M → List M
  taken_by t = (view t.pass).taken

  abbrev pub settled_by : Taker M → List M
  settled_by t = (view t.pass).put

  pub record IsPutterOf (i : Inbox M) (p : Putter M) : Type 0 where
    pub pass : IsPassOf i.queue p.pass
    pub unspent : view p.pass ≡ putter_view i.dst i.ranks p.source

  module _ (source : M → ℕ) where
    pub record IsSpentOf (i : Inbox M) (s : Spent M) : Type 0 where
      pub pass : IsPassOf i.queue s.pass
      pub spent : view s.pass ≡ spent_view i.dst i.ranks (carried s)
      pub names : map source (carried s) ≡ s.source ∷ []

    -- the taker keeps the sources of what it took
    abbrev pub KeepsArrivals : Taker M → Type 0
    KeepsArrivals t = t.arrivals.items ≡ map source (taken_by t)

    pub record IsTakerOf (i : Inbox M) (t : Taker M) : Type 0 where
      pub pass : IsPassOf i.queue t.pass
      pub takes : IsTaking (view t.pass)
      pub place : ((view t.pass).rank ≡ i.dst) × ((view t.pass).ranks ≡ i.ranks)
      pub arrivals : KeepsArrivals t
      pub room : i.ranks - 1 ≤ vec_capacity t.arrivals

    -- the tokens of all sources were settled
    abbrev pub IsSettled : Taker M → Type 0
    IsSettled t = AllSettled source (view t.pass)

    -- every source was taken
    abbrev pub HasTakenAll : Inbox M → Taker M → Type 0
    HasTakenAll i t = (s : ℕ) → IsSource i.dst i.ranks s → 0 < times s (map source (taken_by t))
