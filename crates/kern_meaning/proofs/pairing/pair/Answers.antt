use Rattle.std.proofs.Common.{Err, ap, ◌∙◌, sym}
use Rattle.kern_tree.specs.declared.kernel.Kernel.{Kernel}
use Rattle.kern_meaning.specs.Pair.{pair_of}
use Rattle.kern_meaning.proofs.Runs.{never_without}
use Rattle.kern_meaning.proofs.pairing.pair.Goals as goal

pub unreachable-requires : goal.unreachable-requires
unreachable-requires c =
    never_without c.args.t.now c.args.i.now c.args.j.now (c.typed_kernels_have_one_pair.ensures c.args.t.now c.args.i.now c.args.j.now c.kernel-k.ensures.parsed c.kernel-k.ensures.typed)
    (ap (λ (k : Kernel). pair_of k c.args.i.now c.args.j.now) (sym c.kernel-k.ensures.value) ∙ c.in-Err.ensures ∙ ap Err c.in-NoResult.is)
