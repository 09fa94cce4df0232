-- The kernel of the benchmark: gravity, with a softened distance.
use Rattle.std.specs.Prelude.{ℕ, List, ◌++◌, codes}
use Rattle.kern_token.specs.declared.token.Token.{Token}
use Rattle.kern_token.specs.Reading.{Spells}
use Rattle.kern_tree.specs.declared.kernel.Kernel.{Kernel}
use Rattle.kern_tree.specs.FirstFault.{IsKernelOf}
use Rattle.kern_types.specs.WellTyped.{WellTyped}

abbrev pub bench_kernel_text : List ℕ
bench_kernel_text =
    codes "EPI vec S0 xi : pos;\n"
    ++ codes "EPJ vec S0 xj : pos;\n"
    ++ codes "EPJ num S0 mj : mass;\n"
    ++ codes "FORCE vec S16 acc sum;\n"
    ++ codes "PARAM S16 g = 72057594037927936;\n"
    ++ codes "PARAM S0 e = 1099511627776;\n"
    ++ codes "d = xj - xi;\n"
    ++ codes "r2 = d * d + e;\n"
    ++ codes "r = isqrt(r2);\n"
    ++ codes "acc += muldiv(muldiv(g, mj, r), d, r2);\n"

-- what the text spells: the tree of its tokens, well typed
abbrev pub IsBenchKernel : Kernel → Type 0
IsBenchKernel kernel =
    (tokens : List Token) × Spells bench_kernel_text tokens × IsKernelOf tokens kernel × WellTyped kernel
