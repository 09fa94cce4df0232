-- The pieces that runs of items make.
use Rattle.std.proofs.Common.{◌≡◌, ℕ, ◌+◌, ◌/◌, ◌-◌, ◌^◌, ◌<◌, ◌≤◌, List, [], ◌∷◌, ◌++◌, length, get_or, map, take, refl, sym, ◌∙◌, ap, subst, arith}
use Rattle.std.specs.Prelude.{IfSome}
use Rattle.std.specs.List.{All, AllZip}
use Rattle.std.proofs.lemmas.List.{get_or-map, take_more, take_all}
use Rattle.pf_geom.specs.Position.{Position}
use Rattle.pf_geom.specs.Bounds.{Bounds}
use Rattle.pf_geom.specs.Key.{morton_key}
use Rattle.pf_geom.specs.Octant.{IsOctant}
use Rattle.pf_geom.specs.CellLaws.{PositionsHaveCells}
use Rattle.pf_model.specs.declared.entry.Entry.{Entry}
use Rattle.pf_model.specs.Particle.{Particle, IsParticle}
use Rattle.pf_model.specs.Particles.{AreBodies}
use Rattle.pf_model.specs.Criterion.{Criterion}
use Rattle.pf_model.specs.Division.{Division}
use Rattle.pf_model.specs.Totals.{Totals, IsTotals}
use Rattle.pf_model.specs.Domains.{particles_of}
use Rattle.pf_model.specs.Interaction.{list_of}
use Rattle.pf_model.specs.EssentialTree.{Essential}
use Rattle.pf_model.specs.Sufficiency.{moment_together}
use Rattle.cell_runs.specs.declared.cell_run.CellRun.{CellRun}
use Rattle.cell_runs.specs.CellRuns.{AreCellRuns}
use Rattle.group_lists.specs.Keyed.{IsKeyed, IsServed, item_position, item_key, items_at, IsPieceOfRun}
use Rattle.group_lists.specs.Runs.{HasEntriesOf}
use Rattle.group_lists.specs.PieceLaws.{ItemsMakePieces}
use Rattle.group_lists.proofs.ElementLemmas.{map-map}

-- the key of an item, shifted, is that of a cell
pub key_in_octant : PositionsHaveCells → (items : List Entry) (keys : List ℕ) (first k level : ℕ) → keys ≡ map item_key items → first < length items → k ≡ get_or keys first k → level ≤ 30 → IsOctant level (k / 8 ^ (30 - level))
key_in_octant cells [] keys first k level keyed within at deep = absurd (omega arith)
key_in_octant cells (x ∷ xs) keys first k level keyed within at deep =
    let item = get_or (x ∷ xs) first x in
    let is : k ≡ item_key item = at ∙ ap (λ (ks : List ℕ). get_or ks first k) keyed ∙ get_or-map item_key (x ∷ xs) first x k within in
    subst (λ (n : ℕ). IsOctant level (n / 8 ^ (30 - level))) (sym is) (cells (item_position item) level deep)

-- what a run has to keep for its moment
abbrev pub IsLimited : List Entry → CellRun → Type 0
IsLimited items r = IfSome r.level (λ level. (level ≤ 30) × IsTotals (moment_together (items_at r items)))

-- the runs that were found, and the pieces that they make
pub record AreMade (t : Criterion) (g : Division) (js : List Particle) (tree : Essential) (box : Bounds) (runs : List CellRun) : Type 0 where
  pub found : AreCellRuns t box (map item_position tree.items) runs
  pub limits : All (IsLimited tree.items) runs
  pub pieces : (pieces : List Entry) → AllZip (λ r e. IsPieceOfRun tree.items r r.level e) runs pieces → HasEntriesOf t box (particles_of g js tree.src) pieces × (length pieces ≤ length (list_of t box (particles_of g js tree.src)))

pub runs_are_made : ItemsMakePieces → (t : Criterion) (g : Division) (js : List Particle) (tree : Essential) (box : Bounds) (keys places : List ℕ) (sums : List Totals) (runs : List CellRun) → AreBodies js → All IsParticle js → IsServed g js tree.dst box → IsKeyed t g js tree keys places sums →
    ((ps : List Position) → keys ≡ map morton_key ps → AreCellRuns t box ps runs) → AreMade t g js tree box runs
runs_are_made law t g js tree box keys places sums runs bodies particles served keyed found =
    let are = found (map item_position tree.items) (keyed.keyed ∙ sym (map-map morton_key item_position tree.items)) in
    let made = law t g js tree box runs bodies particles served (record { here = refl; items = keyed.same_items }) are in
    record {
      found = are;
      limits = made.0;
      pieces = made.1;
    }

pub AllZip-push2 : {A B : Type 0} (R : A → B → Type 0) (xs : List A) (ys : List B) (x : A) (y : B) → AllZip R xs ys → R x y → AllZip R (xs ++ x ∷ []) (ys ++ y ∷ [])
AllZip-push2 R [] [] x y all h = (h, tt)
AllZip-push2 R [] (b ∷ bs) x y all h = absurd all
AllZip-push2 R (a ∷ others) [] x y all h = absurd all
AllZip-push2 R (a ∷ others) (b ∷ bs) x y all h = (all.0, AllZip-push2 R others bs x y all.1 h)

-- one piece more
pub zip_more : (items : List Entry) (runs : List CellRun) (k : ℕ) (r : CellRun) (pieces more : List Entry) (e : Entry) → k < length runs → AllZip (λ s f. IsPieceOfRun items s s.level f) (take k runs) pieces → IsPieceOfRun items (get_or runs k r) (get_or runs k r).level e → more ≡ pieces ++ e ∷ [] →
    AllZip (λ s f. IsPieceOfRun items s s.level f) (take (k + 1) runs) more
zip_more items runs k r pieces more e within all one pushed =
    let R : CellRun → Entry → Type 0 = λ s f. IsPieceOfRun items s s.level f in
    subst (λ (l : List CellRun). AllZip R l more) (sym (take_more runs k r within)) (subst (AllZip R (take k runs ++ get_or runs k r ∷ [])) (sym pushed) (AllZip-push2 R (take k runs) pieces (get_or runs k r) e all one))

pub zip_all : (items : List Entry) (runs : List CellRun) (k : ℕ) (pieces : List Entry) → length runs ≤ k → AllZip (λ s f. IsPieceOfRun items s s.level f) (take k runs) pieces → AllZip (λ s f. IsPieceOfRun items s s.level f) runs pieces
zip_all items runs k pieces done all = subst (λ (l : List CellRun). AllZip (λ s f. IsPieceOfRun items s s.level f) l pieces) (take_all k runs done) all
