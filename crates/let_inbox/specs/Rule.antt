-- What holds of an inbox at every moment, over the parcels that it holds and what its passes know, and what each step
-- does.
use Rattle.std.specs.Prelude.{◌≡◌, ◌⊎◌, ℕ, ◌-◌, ◌<◌, ◌≤◌, true, false, List, [], ◌∷◌, ◌++◌, length, map, cond, sum_by, flat_map, All, Contains, IsPermutation}
use mathlib.Core.Option.{some}
use lib.ListN.{get_elem?}
use Rattle.let_inbox.specs.declared.rule.PassView.{PassView}
use Rattle.let_inbox.specs.Sources.{IsSource, HasEachSource, times}

module _ {M : Type 0} where
  -- the one pass of a queue that is no inbox yet
  abbrev pub opening_view : PassView M
  opening_view = record {
    opens = true;
    knows = false;
    takes = false;
    rank = 0;
    ranks = 0;
    unspent = [];
    put = [];
    taken = [];
  }

  -- a pass that is of no use any more
  abbrev pub blank_view : PassView M
  blank_view = record opening_view { opens = false }

  -- the taker's, in which these sources stand that aren't split off yet
  abbrev pub fresh_view : ℕ → ℕ → List ℕ → PassView M
  fresh_view rank ranks unspent = record {
    opens = false;
    knows = true;
    takes = true;
    rank = rank;
    ranks = ranks;
    unspent = unspent;
    put = [];
    taken = [];
  }

  -- a Putter's, with its source
  abbrev pub putter_view : ℕ → ℕ → ℕ → PassView M
  putter_view rank ranks s = record (fresh_view rank ranks (s ∷ [])) { takes = false }

  -- a Spent's, with the parcel that was put
  abbrev pub spent_view : ℕ → ℕ → List M → PassView M
  spent_view rank ranks put = record (fresh_view rank ranks []) { takes = false; put = put }

  -- a Spent's pass hands its parcel to the taker's
  abbrev pub joined_view : PassView M → PassView M → PassView M
  joined_view v other = record v { put = other.put ++ v.put }

  -- it is the taker's
  abbrev pub IsTaking : PassView M → Type 0
  IsTaking v = (v.opens ≡ false) × (v.knows ≡ true) × (v.takes ≡ true)

  -- of all passes together: the parcels put, and those taken
  abbrev pub put_by_all : List (PassView M) → List M
  put_by_all views = flat_map (λ v. v.put) views

  abbrev pub taken_by_all : List (PassView M) → List M
  taken_by_all views = flat_map (λ v. v.taken) views

  -- 1 for the taker's pass, and else 0
  abbrev pub takers_in : PassView M → ℕ
  takers_in v = cond v.takes 1 0

  abbrev pub EachView : (PassView M → Type 0) → List (PassView M) → Type 0
  EachView F views = (id : ℕ) (v : PassView M) → get_elem? views id ≡ some v → F v

  -- a pass that knows the inbox's place knows it rightly, and the taker's alone has taken something
  pub record FitsInbox (rank ranks : ℕ) (v : PassView M) : Type 0 where
    pub opened : v.opens ≡ false
    pub knows : v.knows ≡ true → (v.rank ≡ rank) × (v.ranks ≡ ranks)
    pub takes : v.takes ≡ false → v.taken ≡ []

  module _ (source : M → ℕ) where
    -- the sources that stand in a pass: those that may still put, and those of the parcels put
    abbrev pub standing : PassView M → List ℕ
    standing v = v.unspent ++ map source v.put

    -- the parcel of every source was put, by the pass's own list
    abbrev pub AllSettled : PassView M → Type 0
    AllSettled v = (s : ℕ) → IsSource v.rank v.ranks s → 0 < times s (map source v.put)

  module _ (source target : M → ℕ) (has_terms : M → Type 0) where
    abbrev pub FitsRank : ℕ → M → Type 0
    FitsRank rank m = (target m ≡ rank) × has_terms m

    -- Each source stands in one pass. The parcels held and those taken are those that were put, each for this rank and
    -- with the inbox's terms. One pass takes.
    pub record KeepsRule (rank ranks : ℕ) (items : List M) (views : List (PassView M)) : Type 0 where
      pub sources : HasEachSource rank ranks (flat_map (standing source) views)
      pub count : length (flat_map (standing source) views) ≡ ranks - 1
      pub parcels : IsPermutation (items ++ taken_by_all views) (put_by_all views)
      pub fits : All (FitsRank rank) (put_by_all views)
      pub taker : sum_by takers_in views ≡ 1
      pub passes : EachView (FitsInbox rank ranks) views

    -- before it is an inbox, the queue has one pass and holds nothing
    abbrev pub Kept : List M → List (PassView M) → Type 0
    Kept items views = ((items ≡ []) × (views ≡ opening_view ∷ []))
        ⊎ ((rank : ℕ) × (ranks : ℕ) × KeepsRule rank ranks items views)

    -- what a pop that gives the parcel x tells
    pub record Took (v : PassView M) (x : M) (after : PassView M) : Type 0 where
      pub taken : after ≡ record v { taken = v.taken ++ x ∷ [] }
      pub source_known : IsSource v.rank v.ranks (source x)
      pub source_new : times (source x) (map source v.taken) ≡ 0
      pub fits : FitsRank v.rank x
      pub few : length after.taken ≤ v.ranks - 1
      pub settled : AllSettled source v → All (Contains v.put) after.taken

    -- what a pop that gives nothing tells: at a moment the queue holds these parcels, and the rule holds
    pub record Found (v : PassView M) (items : List M) : Type 0 where
      pub views : List (PassView M)
      pub rule : Kept items views
      pub id : ℕ
      pub mine : get_elem? views id ≡ some v
      pub settled : AllSettled source v → IsPermutation (items ++ v.taken) v.put
