-- How ranks lie in the hands of workers: rank k · W + w at place k of hand w, which is number (k · W + w) mod W.
use Rattle.std.specs.Prelude.{◌≡◌, ℕ, ◌+◌, ◌*◌, ◌<◌, ◌^◌, List, Vec, length, slice_index_or}
use Rattle.std.specs.Global.{Global}
use denote.Ref.{MutBor}
use denote.Param.Members.{Shared}
use Rattle.std.specs.Fork.{AcceptsAt, ChangesAt}

module _ {X : Type 0} (workers : ℕ) where
  -- the hands have places for the ranks below a count, and no others
  pub record HavePlacesFor (count : ℕ) (hands : List (Vec X Global)) : Type 0 where
    pub one_each : length hands ≡ workers
    pub each : (w k : ℕ) (h : Vec X Global) → w < workers → k * workers + w < count → k < length (slice_index_or hands w h).items
    pub no_other : (w k : ℕ) (h : Vec X Global) → w < workers → k < length (slice_index_or hands w h).items → k * workers + w < count

  -- what each rank has lies at its place
  pub record AreDealt (xs : List X) (hands : List (Vec X Global)) : Type 0 where
    pub places : HavePlacesFor (length xs) hands
    pub each : (w k : ℕ) (h : Vec X Global) (x : X) → w < workers → k * workers + w < length xs →
        slice_index_or (slice_index_or hands w h).items k x ≡ slice_index_or xs (k * workers + w) x

module _ {F X : Type 0} (g : Shared F (ℕ × (MutBor X × Unit {0})) (Unit {0} × (MutBor X × Unit {0}))) (f : F) (workers worker : ℕ) where
  -- f may be called at each rank of a hand
  pub record AcceptsHand (hand : List X) : Type 0 where
    pub ranks : (k : ℕ) → k < length hand → k * workers + worker < 2 ^ 64
    pub each : (k : ℕ) (x : X) → k < length hand → AcceptsAt g f (k * workers + worker) (slice_index_or hand k x)

  -- each rank of a hand is what a call of f left of it
  pub record ChangesHand (old new : List X) : Type 0 where
    pub len : length new ≡ length old
    pub each : (k : ℕ) (x : X) → k < length old → ChangesAt g f (k * workers + worker) (slice_index_or old k x) (slice_index_or new k x)
