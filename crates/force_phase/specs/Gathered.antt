-- What the pairs of a particle have given each FORCE variable.
use Rattle.std.specs.Prelude.{◌≡◌, ℕ, ℤ, Bool, true, false, List, [], ◌∷◌, Option, Some, None, length, map, fold}
use Rattle.std.specs.List.{filter_map, zip}
use Rattle.std.specs.Str.{bytes_eq}
use Rattle.kern_tree.specs.declared.kernel.Kernel.{Kernel}
use Rattle.kern_types.specs.declared.force_var.ForceVar.{ForceVar}
use Rattle.kern_types.specs.Declarations.{forces_of}
use Rattle.kern_meaning.specs.declared.value.Value.{Value}
use Rattle.kern_meaning.specs.Pair.{OrPairStop, given_to, targets_in}
use Rattle.kern_meaning.specs.Prepared.{Prepared, IsMadeFor}
use Rattle.kern_meaning.specs.Values.{components}
use Rattle.run_model.specs.Force.{contributions}
use Rattle.force_phase.specs.Tally.{Tallied, nothing, with_numbers}

-- a tally with these contributions
abbrev pub with_values : ForceVar → Tallied → List Value → Tallied
with_values v t values = fold (λ sum value. with_numbers v.combine sum (components value)) t values

-- a tally with what the `+=` of a pair gave the variable, where they have these targets
abbrev pub with_given : List (List ℕ) → List (Option Value) → ForceVar → Tallied → Tallied
with_given targets given v t = with_values v t (filter_map (given_to v.name) (zip targets given))

-- whether the `+=` of this target gives to the variable of this name
abbrev pub gives_to : Option (List ℕ) → List ℕ → Bool
gives_to None name = false
gives_to (Some target) name = bytes_eq target name

-- a tally with what one `+=` gave, if anything, where it gives to the variable
abbrev pub with_slot : ForceVar → Bool → Option (List ℤ) → Tallied → Tallied
with_slot v true (Some numbers) t = with_numbers v.combine t numbers
with_slot v true None t = t
with_slot v false numbers t = t

-- a tally with what these pairs gave the variable
abbrev pub with_pairs : Kernel → List (OrPairStop (List (Option Value))) → ForceVar → Tallied → Tallied
with_pairs kernel [] v t = t
with_pairs kernel (pair ∷ pairs) v t = with_pairs kernel pairs v (with_values v t (contributions kernel v pair))

-- each FORCE variable's tally made anew from the variable and the tally
abbrev pub each_with : {X Y : Type 0} → (X → Y → Y) → List X → List Y → List Y
each_with f [] ys = ys
each_with f (x ∷ xs) [] = []
each_with f (x ∷ xs) (y ∷ ys) = f x y ∷ each_with f xs ys

-- before the first pair
abbrev pub nothing_yet : List ForceVar → List Tallied
nothing_yet forces = map (λ v. nothing v.combine) forces

-- what is kept for the pairs of a kernel: the scratch, the target of each `+=`, and room for a tally of each variable
pub record IsReady (kernel : Kernel) (scratch : Prepared) (names : List (List ℕ)) (count : ℕ) : Type 0 where
  pub made : IsMadeFor kernel scratch
  pub targets : names ≡ targets_in kernel.body
  pub tallies : count ≡ length (forces_of kernel.decls)
