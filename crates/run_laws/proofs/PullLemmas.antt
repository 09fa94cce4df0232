-- The pairs of the kernel of a thin run.
use Rattle.std.proofs.Common.{◌≡◌, ◌≢◌, ℕ, ◌<◌, ◌≤◌, ◌^◌, ℤ, pos, negsuc, ◌-ℤ◌, unsigned_abs, Bool, true, false, List, [], ◌∷◌, Option, Some, None, Ok, Err, refl, sym, ap, ◌∙◌, arith}
use Rattle.std.specs.Prelude.{codes, replicate, slice_set}
use Rattle.std.specs.Str.{bytes_eq}
use Rattle.std.proofs.lemmas.Slice.Eq.{bytes_eq-Decides}
use Rattle.std.proofs.lemmas.Bool.{cond-true}
use Rattle.std.proofs.lemmas.Bool.Decides.{nat_tests}
use Rattle.std.proofs.lemmas.Int.{ints}
use Rattle.pf_geom.specs.Position.{Position, IsPosition}
use Rattle.pf_model.specs.Particle.{Particle}
use Rattle.pf_model.specs.Totals.{Source}
use Rattle.pf_num.specs.Exact.{exact, is_i64}
use Rattle.pf_num.specs.declared.fault.NumFault.TheVariants.{Overflow}
use Rattle.kern_tree.specs.declared.expr.Expr.{Expr}
use Rattle.kern_tree.specs.declared.expr.Form.TheVariants as forms
use Rattle.kern_tree.specs.declared.expr.Form.TheFolds.{fold-roll-Form, fold-Expr, fold_out-Expr}
use Rattle.kern_tree.specs.declared.expr.Form.TheOpen.{Form-F, Expr-F}
use Rattle.kern_tree.specs.declared.expr.Form.TheOpen as layers
use Rattle.kern_tree.specs.declared.expr.Op2.TheVariants.{Sub}
use Rattle.kern_tree.specs.declared.kernel.Kernel.{Kernel}
use Rattle.kern_tree.specs.declared.kernel.Kind.TheVariants.{Vec3}
use Rattle.kern_tree.specs.declared.stmt.Act.TheVariants as acts
use Rattle.kern_tree.specs.declared.stmt.Act.TheFolds.{fold-roll-Act}
use Rattle.kern_tree.specs.declared.stmt.Act.TheOpen as act_layers
use Rattle.kern_tree.specs.declared.stmt.Stmt.{Stmt}
use Rattle.kern_types.specs.declared.expr_type.ExprType.{ExprType}
use Rattle.kern_types.specs.declared.expr_type.ExprType.TheVariants.{Scaled}
use Rattle.kern_types.specs.Names.{declaration}
use Rattle.kern_meaning.specs.declared.value.Value.{Value}
use Rattle.kern_meaning.specs.declared.value.Value.TheVariants as values
use Rattle.kern_meaning.specs.Expressions.{form_meaning, form_value, value_of, value_of_form}
use Rattle.kern_meaning.specs.Names.{Known, known_at_start, name_value}
use Rattle.kern_meaning.specs.Operators.{taken_by, two_form, vec_of, vec_by_two}
use Rattle.kern_meaning.specs.Stops.{OrStop, ◌>>=◌}
use Rattle.kern_meaning.specs.Pair.{OrPairStop, PairState, Statements, at_statement, act_statements, at_stmt, act_meaning, block_of, block_meaning, give, force_type, is_same_place, pair_of}
use Rattle.run_laws.specs.PullKernel.{IsPullKernel, DifferInName, away, PullKernelsGiveDistances}

-- ---- names

pub same_name : (name : List ℕ) → bytes_eq name name ≡ true
same_name name = (bytes_eq-Decides name name).1 refl

not_true : (b : Bool) → (b ≡ true → ⊥) → b ≡ false
not_true true h = absurd (h refl)
not_true false h = refl

pub other_name : (name other : List ℕ) → name ≢ other → bytes_eq name other ≡ false
other_name name other h = not_true (bytes_eq name other) (λ e. h ((bytes_eq-Decides name other).0 e))

-- ---- numbers

small_fits : (z : ℤ) → unsigned_abs z ≤ 2 ^ 30 → is_i64 z ≡ true
small_fits (pos n) h = grind (arith, nat_tests, h)
small_fits (negsuc n) h = grind (arith, nat_tests, h)

difference_fits : (a b : ℕ) → a < 2 ^ 30 → b < 2 ^ 30 → exact (pos a -ℤ pos b) ≡ Ok (pos a -ℤ pos b)
unfolding exact
difference_fits a b h k =
    let small : unsigned_abs (pos a -ℤ pos b) ≤ 2 ^ 30 = omega (arith, ints) in
    cond-true (is_i64 (pos a -ℤ pos b)) (Ok (pos a -ℤ pos b)) (Err Overflow) (small_fits (pos a -ℤ pos b) small)

abbrev placed_at : Position → List ℤ
placed_at p = pos p.x ∷ pos p.y ∷ pos p.z ∷ []

differences : (from to : Position) → IsPosition from → IsPosition to → vec_by_two 0 (λ x y. exact (x -ℤ y)) (placed_at to) (placed_at from) ≡ Ok (values.Vec3 (away from to) 0)
differences from to h k =
    let x = difference_fits to.x from.x k.x_fits h.x_fits in
    let y = difference_fits to.y from.y k.y_fits h.y_fits in
    let z = difference_fits to.z from.z k.z_fits h.z_fits in
    λ i. vec_of 0 (x i) (y i) (z i)

-- ---- expressions

module _ (known : Known) where
  name_is : (e : Expr) (name : List ℕ) (v : Value) → e.form ≡ forms.Name name → known name ≡ Some v → value_of known e ≡ Ok v
  name_is e name v is has =
      ap (form_value known) is ∙ ap (form_value known) (sym (forms.rolls-Name name))
      ∙ fold-roll-Form (OrStop Value) (OrStop Value) (form_meaning known) value_of_form (layers.Name name) ∙ ap name_value has

  by_fold : (e : Expr) → fold-Expr (OrStop Value) (OrStop Value) (form_meaning known) value_of_form e ≡ value_of known e
  by_fold e = fold_out-Expr (OrStop Value) (OrStop Value) (form_meaning known) value_of_form e

  difference_is : (e left right : Expr) (a b : List ℤ) → e.form ≡ forms.Two Sub left right → value_of known left ≡ Ok (values.Vec3 a 0) → value_of known right ≡ Ok (values.Vec3 b 0)
      → value_of known e ≡ vec_by_two 0 (λ x y. exact (x -ℤ y)) a b
  difference_is e left right a b is l r =
      ap (form_value known) is ∙ ap (form_value known) (sym (forms.rolls-Two Sub left right))
      ∙ fold-roll-Form (OrStop Value) (OrStop Value) (form_meaning known) value_of_form (layers.Two Sub left right)
      ∙ (λ i. two_form Sub ((by_fold left ∙ l) i) ((by_fold right ∙ r) i))

-- ---- the pair

module _ (k : Kernel) (taker giver pull : List ℕ) (i : Particle) (j : Source) (h : IsPullKernel k taker giver pull) (apart : DifferInName taker giver pull) where
  abbrev its_known : Known
  its_known = known_at_start k.decls i j

  taker_known : its_known taker ≡ Some (values.Vec3 (placed_at i.at) 0)
  taker_known = rw (h.decls, same_name taker) refl

  giver_known : its_known giver ≡ Some (values.Vec3 (placed_at j.at) 0)
  giver_known = rw (h.decls, other_name taker giver apart.positions, same_name giver) refl

  pull_force : force_type (declaration k.decls pull) ≡ Some (Scaled Vec3 0)
  pull_force = rw (h.decls, other_name taker pull apart.taker_and_pull, other_name giver pull apart.giver_and_pull, other_name (codes "acc") pull apart.no_acc, same_name pull) refl

  abbrev coincident : Bool
  coincident = is_same_place i.at j.at

  gives_is : act_meaning k.decls coincident h.stmt.act ≡ record { count = 1; slots = 1; run = give k.decls coincident pull h.value }
  gives_is =
      ap (act_meaning k.decls coincident) h.gives ∙ ap (act_meaning k.decls coincident) (sym (acts.rolls-Give pull h.value))
      ∙ fold-roll-Act Statements Statements (act_statements k.decls coincident) at_stmt (act_layers.Give pull h.value)

  value_is : IsPosition i.at → IsPosition j.at → value_of its_known h.value ≡ Ok (values.Vec3 (away i.at j.at) 0)
  value_is a b =
      difference_is its_known h.value h.left h.right (placed_at j.at) (placed_at i.at) h.difference
      (name_is its_known h.left giver (values.Vec3 (placed_at j.at) 0) h.of_giver giver_known) (name_is its_known h.right taker (values.Vec3 (placed_at i.at) 0) h.and_taker taker_known)
      ∙ differences i.at j.at a b

  -- a block as a pair runs it
  abbrev run_block : Statements → OrPairStop (List (Option Value))
  run_block body = body.run 1 0 (record { known = its_known; given = replicate body.slots None }) >>= (λ end. Ok end.given)

  -- what the one statement gives
  abbrev after_giving : Value → OrPairStop PairState
  after_giving given = Ok (record { known = its_known; given = slice_set (None ∷ []) 0 (Some given) })

  abbrev goes_on : PairState → OrPairStop PairState
  goes_on next = Ok next

  abbrev given_of : PairState → OrPairStop (List (Option Value))
  given_of end = Ok end.given

  abbrev given_by : Option ExprType → OrStop Value → OrPairStop (List (Option Value))
  given_by force value = ((at_statement coincident 1 (value >>= taken_by force) >>= after_giving) >>= goes_on) >>= given_of

  pub gives_distance : IsPosition i.at → IsPosition j.at → pair_of k i j ≡ Ok (Some (values.Vec3 (away i.at j.at) 0) ∷ [])
  gives_distance a b =
      ap (λ (body : List Stmt). run_block (block_meaning k.decls coincident body)) h.body
      ∙ ap (λ (m : Statements). run_block (block_of (m ∷ []))) gives_is
      ∙ (λ n. given_by (pull_force n) (value_is a b n))

pub pull_kernels_give_distances : PullKernelsGiveDistances
pull_kernels_give_distances k taker giver pull i j h apart a b = gives_distance k taker giver pull i j h apart a b
