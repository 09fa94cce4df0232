-- The level of a position.
use Rattle.std.proofs.Common.{◌≡◌, ℕ, ◌<◌, true, Option, Some, None, subst, arith}
use Rattle.std.proofs.lemmas.Bool.{leb-true, both_ways, false_from_ne_true}
use Rattle.pf_geom.specs.Position.{Position}
use Rattle.pf_geom.specs.Bounds.{Bounds}
use Rattle.pf_geom.specs.Octant.{Octant, cell_at}
use Rattle.pf_model.specs.Criterion.{Criterion, Passes}
use Rattle.pf_model.specs.Interaction.{passes, level_of}
use Rattle.model_laws.specs.ListLaws.{IsFirstPassing, NonePasses}
use Rattle.order_laws.specs.OrderLaws.{IsLeast}
use Rattle.order_laws.proofs.LeastLemmas.{IsLeast-least_below}
use Rattle.pf_model.proofs.LevelLemmas.{test-from_Passes, passes_at, level_from_least}

pub Passes-from_test : (box : Bounds) (c : Octant) (t : Criterion) → passes box c t ≡ true → Passes box c t
Passes-from_test box c t e = leb-true _ _ e

pub least_from_level : (t : Criterion) (box : Bounds) (p : Position) (o : Option ℕ) → level_of t box p ≡ o → IsLeast (passes_at t box p) 31 o
unfolding level_of
least_from_level t box p o e = subst (IsLeast (passes_at t box p) 31) e (IsLeast-least_below (passes_at t box p) 31)

pub none_from_level : (t : Criterion) (box : Bounds) (p : Position) → level_of t box p ≡ None → NonePasses t box p
none_from_level t box p e level within h =
    both_ways (passes_at t box p level) (least_from_level t box p None e level (omega arith)) (test-from_Passes box (cell_at p level) t h)

pub level_from_none : (t : Criterion) (box : Bounds) (p : Position) → NonePasses t box p → level_of t box p ≡ None
level_from_none t box p h =
    level_from_least t box p None (λ i below. false_from_ne_true (passes_at t box p i) (λ e. h i (omega arith) (Passes-from_test box (cell_at p i) t e)))

pub first_from_level : (t : Criterion) (box : Bounds) (p : Position) (level : ℕ) → level_of t box p ≡ Some level → IsFirstPassing t box p level
first_from_level t box p level e =
    let least = least_from_level t box p (Some level) e in
    let below : level < 31 = least.0 in
    record {
      within = omega arith;
      passes = Passes-from_test box (cell_at p level) t least.1;
      lowest = λ lower less h. both_ways (passes_at t box p lower) (least.2 lower less) (test-from_Passes box (cell_at p lower) t h);
    }

pub level_from_first : (t : Criterion) (box : Bounds) (p : Position) (level : ℕ) → IsFirstPassing t box p level → level_of t box p ≡ Some level
level_from_first t box p level h =
    level_from_least t box p (Some level)
    (let within = h.within in omega arith, test-from_Passes box (cell_at p level) t h.passes, λ i less. false_from_ne_true (passes_at t box p i) (λ e. h.lowest i less (Passes-from_test box (cell_at p i) t e)))
