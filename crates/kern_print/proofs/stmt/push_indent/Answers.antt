use Rattle.std.proofs.Common.{◌≡◌, ℕ, ◌+◌, ◌*◌, ◌++◌, codes, replicate, ap, ◌∙◌, append_assoc, arith}
use Rattle.std.proofs.lemmas.List.{replicate-append-replicate}
use Rattle.kern_print.proofs.stmt.push_indent.Goals as goal

two_more : (n : ℕ) → replicate (2 * n) 32 ++ codes "  " ≡ replicate (2 * (n + 1)) 32
two_more n = replicate-append-replicate (2 * n) 2 32 ∙ ap (λ k. replicate k 32) (let e : 2 * n + 2 ≡ 2 * (n + 1) = omega arith in e)

pub loop-preserved : goal.loop-preserved
loop-preserved c =
    c.in_ok-push_text.ensures ∙ ap (λ x. x ++ codes "  ") c.loop.invariant ∙ append_assoc c.args.out.now.items (replicate (2 * c.loop.counter) 32) (codes "  ")
    ∙ ap (λ x. c.args.out.now.items ++ x) (two_more c.loop.counter)
