-- Force: what the entries of an interaction list give a particle, or the first fault.
use Rattle.std.specs.Prelude.{ℕ, ◌+◌, ◌-◌, ◌%◌, ◌^◌, ℤ, pos, neg_ℤ, Bool, true, not, List, [], ◌∷◌, Option, Some, None, Ok, Err, map, filter, flat_map, fold, length, sum_by, take, drop, take_while, codes, nat_eq, slice_index_or, if◌then◌else◌}
use Rattle.std.specs.Int.{int_min, int_max}
use Rattle.std.specs.List.{enumerate_from, list_all}
use Rattle.std.specs.Str.{bytes_eq}
use Rattle.pf_geom.specs.declared.edge.Edge.{Edge}
use Rattle.pf_geom.specs.declared.edge.Edge.TheVariants.{Open, Periodic}
use Rattle.pf_geom.specs.Position.{Position}
use Rattle.pf_num.specs.Exact.{is_i64}
use Rattle.pf_model.specs.declared.entry.Entry.{Entry}
use Rattle.pf_model.specs.declared.entry.Entry.TheVariants.{Cell, One}
use Rattle.pf_model.specs.Particle.{Particle}
use Rattle.pf_model.specs.Totals.{Source}
use Rattle.order_laws.specs.Order.{first_some}
use Rattle.pf_model.specs.Sums.{int_sum_by}
use Rattle.pf_model.specs.Interaction.{entry_source}
use Rattle.kern_tree.specs.declared.kernel.Combine.{Combine}
use Rattle.kern_tree.specs.declared.kernel.Combine.TheVariants.{Sum, Max, Min}
use Rattle.kern_tree.specs.declared.kernel.Kernel.{Kernel}
use Rattle.kern_tree.specs.declared.kernel.Kind.{Kind}
use Rattle.kern_tree.specs.declared.kernel.Kind.TheVariants.{Num, Vec3}
use Rattle.kern_types.specs.declared.force_var.ForceVar.{ForceVar}
use Rattle.kern_types.specs.Declarations.{forces_of}
use Rattle.kern_meaning.specs.declared.stop.PairStop.TheVariants as stops
use Rattle.kern_meaning.specs.declared.value.Value.{Value}
use Rattle.kern_meaning.specs.Values.{components}
use Rattle.kern_meaning.specs.Pair.{OrPairStop, pair_of, contributions_to}
use Rattle.run_model.specs.declared.fault.What.{What}
use Rattle.run_model.specs.declared.fault.What.TheVariants as what

-- the first value that the function gives of an element, if there is one
abbrev pub first_given : {X Y : Type 0} → (X → Option Y) → List X → Option Y
first_given f [] = None
first_given f (x ∷ xs) = first_some (f x) (first_given f xs)

-- ---- the pairs of a particle

-- the coordinate c as seen from x, which is put at 2^29: (c - x + 2^29) modulo 2^30
abbrev pub seen_from : ℕ → ℕ → ℕ
seen_from x c = (c + (2 ^ 30 - x) + 2 ^ 29) % 2 ^ 30

-- the particle as the kernel gets it: in a periodic box it stands in the middle
abbrev pub received : Edge → Particle → Particle
received Open i = i
received Periodic i = record i { at = record { x = 2 ^ 29; y = 2 ^ 29; z = 2 ^ 29 } }

-- and an item, by the position x of the particle
abbrev pub exerted : Edge → Position → Source → Source
exerted Open x item = item
exerted Periodic x item = record item {
  at = record { x = seen_from x.x item.at.x; y = seen_from x.y item.at.y; z = seen_from x.z item.at.z };
}

-- what the entry gives the particle by the kernel, or the first fault
abbrev pub pair_with : Edge → Kernel → Particle → Entry → OrPairStop (List (Option Value))
pair_with edge kernel i e = pair_of kernel (received edge i) (exerted edge i.at (entry_source e))

-- an entry that isn't the particle itself
abbrev pub is_other : Particle → Entry → Bool
is_other i (Cell c m) = true
is_other i (One p) = not (nat_eq p.id i.id)

-- the pairs of the particle with the entries of its list, in list order, its own entry left out
unfoldable pub pairs_of : Edge → Kernel → List Entry → Particle → List (OrPairStop (List (Option Value)))
pairs_of edge kernel entries i = map (pair_with edge kernel i) (filter (is_other i) entries)

-- ---- the forces

-- the exact sum, the greatest or the least: of nothing 0, -2^63 or 2^63 - 1
abbrev pub combined : Combine → List ℤ → ℤ
combined Sum numbers = int_sum_by (λ n. n) numbers
combined Max numbers = fold int_max (neg_ℤ (pos (2 ^ 63))) numbers
combined Min numbers = fold int_min (pos (2 ^ 63 - 1)) numbers

-- what a pair contributes to a FORCE variable
abbrev pub contributions : Kernel → ForceVar → OrPairStop (List (Option Value)) → List Value
contributions kernel v (Ok given) = contributions_to v.name kernel given
contributions kernel v (Err stop) = []

-- the components of a FORCE variable: one of a num, three of a vec
abbrev pub axes_of : Kind → List ℕ
axes_of Num = 0 ∷ []
axes_of Vec3 = 0 ∷ 1 ∷ 2 ∷ []

-- a FORCE variable over these pairs, component by component
abbrev pub force_over : Kernel → List (OrPairStop (List (Option Value))) → ForceVar → List ℤ
force_over kernel pairs v =
    let values = flat_map (contributions kernel v) pairs in
    map (λ axis. combined v.combine (map (λ value. slice_index_or (components value) axis (pos 0)) values))
    (axes_of v.kind)

-- Force: the numbers of all FORCE variables, in order of declaration
unfoldable pub force_row : Edge → Kernel → List Entry → Particle → List ℤ
force_row edge kernel entries i = flat_map (force_over kernel (pairs_of edge kernel entries i)) (forces_of kernel.decls)

-- ---- the first fault of a particle

abbrev pub pair_fault : OrPairStop (List (Option Value)) → Option What
pair_fault (Err (stops.Fault fault)) = Some (what.Pair fault.kind fault.statement)
pair_fault (Err stops.NoResult) = None
pair_fault (Ok given) = None

-- the FORCE variable of this number has a component that isn't an i64
abbrev pub sum_fault : Kernel → List (OrPairStop (List (Option Value))) → ℕ × ForceVar → Option What
sum_fault kernel pairs numbered =
    if list_all is_i64 (force_over kernel pairs numbered.1) then None else Some (what.Sum numbered.0)

-- the first pair that faults, by list place; where none does, the first FORCE variable whose sum isn't an i64
unfoldable pub force_fault : Edge → Kernel → List Entry → Particle → Option What
force_fault edge kernel entries i =
    let pairs = pairs_of edge kernel entries i in
    first_some (first_given pair_fault pairs)
    (first_given (sum_fault kernel pairs) (enumerate_from 1 (forces_of kernel.decls)))

-- ---- the acceleration

abbrev pub is_acc : ForceVar → Bool
is_acc v = bytes_eq v.name (codes "acc")

-- how many numbers of a row stand before those of acc
abbrev pub acc_place : Kernel → ℕ
acc_place kernel = sum_by (λ v. length (axes_of v.kind)) (take_while (λ v. not (is_acc v)) (forces_of kernel.decls))

-- the three numbers of acc in a row
unfoldable pub acceleration : Kernel → List ℤ → List ℤ
acceleration kernel row = take 3 (drop (acc_place kernel) row)
