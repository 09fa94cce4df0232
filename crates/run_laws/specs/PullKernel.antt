-- The kernel of a thin run: it gives each particle how far away others lie.
use Rattle.std.specs.Prelude.{◌≡◌, ◌≢◌, ℕ, ℤ, pos, ◌-ℤ◌, List, [], ◌∷◌, codes, Some, Ok}
use Rattle.pf_geom.specs.Position.{Position, IsPosition}
use Rattle.pf_model.specs.Particle.{Particle}
use Rattle.pf_model.specs.Totals.{Source}
use Rattle.kern_tree.specs.declared.expr.Expr.{Expr}
use Rattle.kern_tree.specs.declared.expr.Form.TheVariants as forms
use Rattle.kern_tree.specs.declared.expr.Op2.TheVariants.{Sub}
use Rattle.kern_tree.specs.declared.kernel.Combine.TheVariants.{Sum}
use Rattle.kern_tree.specs.declared.kernel.DeclKind.TheVariants.{Epi, Epj, Force}
use Rattle.kern_tree.specs.declared.kernel.Kernel.{Kernel}
use Rattle.kern_tree.specs.declared.kernel.Kind.TheVariants.{Vec3}
use Rattle.kern_tree.specs.declared.stmt.Act.TheVariants as acts
use Rattle.kern_tree.specs.declared.stmt.Stmt.{Stmt}
use Rattle.kern_meaning.specs.declared.value.Value.TheVariants as values
use Rattle.kern_meaning.specs.Pair.{pair_of}

-- it declares its two positions, `acc` and `pull`, with their words at any places of the text, and has the one
-- statement `pull += giver - taker;`
pub record IsPullKernel (k : Kernel) (taker giver pull : List ℕ) : Type 0 where
  pub at_taker : ℕ
  pub at_giver : ℕ
  pub at_acc : ℕ
  pub at_pull : ℕ
  pub decls : k.decls
      ≡ record { place = at_taker; name = taker; what = Epi Vec3 0 (codes "pos") }
      ∷ record { place = at_giver; name = giver; what = Epj Vec3 0 (codes "pos") }
      ∷ record { place = at_acc; name = codes "acc"; what = Force Vec3 16 Sum }
      ∷ record { place = at_pull; name = pull; what = Force Vec3 0 Sum } ∷ []
  pub stmt : Stmt
  pub value : Expr
  pub left : Expr
  pub right : Expr
  pub body : k.body ≡ stmt ∷ []
  pub gives : stmt.act ≡ acts.Give pull value
  pub difference : value.form ≡ forms.Two Sub left right
  pub of_giver : left.form ≡ forms.Name giver
  pub and_taker : right.form ≡ forms.Name taker

-- its three names differ, and none is `acc`
pub record DifferInName (taker giver pull : List ℕ) : Type 0 where
  pub positions : taker ≢ giver
  pub taker_and_pull : taker ≢ pull
  pub giver_and_pull : giver ≢ pull
  pub no_acc : codes "acc" ≢ pull

-- how far the one position lies from the other along each axis
abbrev pub away : Position → Position → List ℤ
away from to = (pos to.x -ℤ pos from.x) ∷ (pos to.y -ℤ pos from.y) ∷ (pos to.z -ℤ pos from.z) ∷ []

-- its pairs have no fault, and each gives how far the item lies from the particle
abbrev pub PullKernelsGiveDistances : Type 0
PullKernelsGiveDistances =
    (k : Kernel) (taker giver pull : List ℕ) (i : Particle) (j : Source) → IsPullKernel k taker giver pull →
    DifferInName taker giver pull → IsPosition i.at → IsPosition j.at →
    pair_of k i j ≡ Ok (Some (values.Vec3 (away i.at j.at) 0) ∷ [])
