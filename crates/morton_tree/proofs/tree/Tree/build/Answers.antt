use Rattle.std.proofs.Common.{length, ap, arith}
use Rattle.std.proofs.lemmas.List.Sorted.{length_permutation}
use Rattle.morton_tree.proofs.tree.Tree.build.Goals as goal

pub copy_from_slice-requires : goal.copy_from_slice-requires
copy_from_slice-requires g c =
    let same = length_permutation c.deref.result.now c.in_ok-keys.built.items c.in_ok-keys.ensures.same_bodies in
    let given = c.deref.ensures.len in
    let taken = ap length c.deref-3.ensures.value in
    omega arith
