use Rattle.std.proofs.Common.{◌≡◌, pos, drop, map}
use Rattle.std.specs.Prelude.{fold, slice_index_or}
use Rattle.std.specs.Int.{int_min}
use Rattle.kern_tree.specs.declared.kernel.Combine.TheVariants.{Min}
use Rattle.plain_run.specs.Forces.{numbers_along}
use Rattle.plain_run.proofs.forces.least_along.Given as goal

abbrev pub invariant-loop-value : goal.invariant-loop-value
invariant-loop-value l = fold int_min l.least (map (λ v. slice_index_or v l.axis (pos 0)) (drop l.value-index l.values)) ≡ numbers_along Min l.values l.axis
