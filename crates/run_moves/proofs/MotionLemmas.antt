-- How many numbers stand before those of acc.
use Rattle.std.proofs.Common.{◌≡◌, ℕ, ◌+◌, ◌<◌, ◌≤◌, ◌^◌, true, false, not, suc, List, [], ◌∷◌, length, get_or, drop, sum_by, take_while, refl, add-one, arith, length-append}
use Rattle.std.specs.Prelude.{flat_map}
use Rattle.std.proofs.Math.Seq.{drop-cons}
use Rattle.std.proofs.lemmas.List.Sums.{take_while-cons, sum_by-cons}
use Rattle.kern_tree.specs.declared.kernel.Decl.{Decl}
use Rattle.kern_tree.specs.declared.kernel.DeclKind.{DeclKind}
use Rattle.kern_tree.specs.declared.kernel.DeclKind.TheVariants as declared_as
use Rattle.kern_tree.specs.declared.kernel.Kernel.{Kernel}
use Rattle.kern_tree.specs.Limits.{KeepsLimits}
use Rattle.kern_tree.specs.Nodes.{stmt_nodes}
use Rattle.kern_types.specs.declared.force_var.ForceVar.{ForceVar}
use Rattle.kern_types.specs.Declarations.{forces_of, force_as}
use Rattle.run_model.specs.Force.{axes_of, is_acc}

-- the numbers of the variables before acc
abbrev pub before_acc : List ForceVar → ℕ
before_acc vs = sum_by (λ v. length (axes_of v.kind)) (take_while (λ v. not (is_acc v)) vs)

before_acc-acc : (v : ForceVar) (vs : List ForceVar) → is_acc v ≡ true → before_acc (v ∷ vs) ≡ 0
before_acc-acc v vs e = rw (take_while-cons (λ w. not (is_acc w)) v vs, e) refl

before_acc-other : (v : ForceVar) (vs : List ForceVar) → is_acc v ≡ false → before_acc (v ∷ vs) ≡ length (axes_of v.kind) + before_acc vs
before_acc-other v vs e =
    rw (take_while-cons (λ w. not (is_acc w)) v vs, e) (sum_by-cons (λ w. length (axes_of w.kind)) v (take_while (λ w. not (is_acc w)) vs))

pub at_acc : (vs : List ForceVar) (k : ℕ) (v : ForceVar) → k < length vs → v ≡ get_or vs k v → is_acc v ≡ true → before_acc (drop k vs) ≡ 0
at_acc vs k v within here e = rw (drop-cons vs k v within, ← here) (before_acc-acc v (drop (suc k) vs) e)

pub past_another : (vs : List ForceVar) (k : ℕ) (v : ForceVar) → k < length vs → v ≡ get_or vs k v → is_acc v ≡ false → before_acc (drop k vs) ≡ length (axes_of v.kind) + before_acc (drop (k + 1) vs)
past_another vs k v within here e = rw (add-one, drop-cons vs k v within, ← here) (before_acc-other v (drop (suc k) vs) e)
