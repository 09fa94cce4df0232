-- The lines of an `if`, which are pushed in turn.
use Rattle.std.proofs.Common.{◌≡◌, ℕ, ◌+◌, ◌*◌, ◌<◌, refl, sym, ap, ◌∙◌, List, [], ◌∷◌, ◌++◌, length, map, codes, replicate, append_assoc, arith}
use Rattle.std.specs.List.{flat_map}
use Rattle.kern_tree.specs.declared.expr.Expr.{Expr}
use Rattle.kern_tree.specs.declared.stmt.Act.{Act}
use Rattle.kern_tree.specs.declared.stmt.Act.TheVariants as acts
use Rattle.kern_tree.specs.declared.stmt.Stmt.{Stmt}
use Rattle.kern_tree.proofs.Layers.{if_layer}
use Rattle.kern_print.specs.Canonical.{act_lines, act_text, block_lines, else_lines, stmt_lines, stmt_text}
use Rattle.kern_print.specs.Expressions.{expr_text}

pub block_by_statements : (block : List Stmt) (depth : ℕ) → block_lines (map stmt_text block) depth ≡ flat_map (λ stmt. stmt_text stmt depth) block
block_by_statements [] depth = refl
block_by_statements (s ∷ block) depth = ap (λ x. stmt_text s depth ++ x) (block_by_statements block depth)

-- what is pushed in turn are the lines of an `if`
pub if_pushed : (condition : Expr) (block other : List Stmt) (act : Act) (depth : ℕ) (start one two three four five whole : List ℕ) → act ≡ acts.If condition block other
    → one ≡ start ++ replicate (2 * depth) 32 → two ≡ one ++ codes "if " ++ expr_text condition ++ codes " {\n"
    → three ≡ two ++ flat_map (λ stmt. stmt_text stmt (depth + 1)) block → four ≡ three ++ else_lines (map stmt_text other) depth
    → five ≡ four ++ replicate (2 * depth) 32 → whole ≡ five ++ codes "}\n" → whole ≡ start ++ act_text act depth
if_pushed condition block other act depth start one two three four five whole is e f g h i j =
    let spaces : List ℕ = replicate (2 * depth) 32 in
    let inner : List ℕ = flat_map (λ stmt. stmt_text stmt (depth + 1)) block in
    let rest : List ℕ = else_lines (map stmt_text other) depth in
    let pushed : whole ≡ start ++ (replicate (2 * depth) 32 ++ (codes "if " ++ expr_text condition ++ codes " {") ++ codes "\n" ++ flat_map (λ stmt. stmt_text stmt (depth + 1)) block ++ else_lines (map stmt_text other) depth ++ (replicate (2 * depth) 32 ++ codes "}" ++ codes "\n")) =
    j ∙ ap (λ x. x ++ codes "}\n") (i ∙ ap (λ x. x ++ replicate (2 * depth) 32) (h ∙ ap (λ x. x ++ else_lines (map stmt_text other) depth) (g ∙ ap (λ x. x ++ flat_map (λ stmt. stmt_text stmt (depth + 1)) block) (f ∙ ap (λ x. x ++ codes "if " ++ expr_text condition ++ codes " {\n") e)))) ∙ simp append_assoc in
    let shown : act_text act depth ≡ replicate (2 * depth) 32 ++ (codes "if " ++ expr_text condition ++ codes " {") ++ codes "\n" ++ block_lines (map stmt_text block) (depth + 1) ++ else_lines (map stmt_text other) depth ++ (replicate (2 * depth) 32 ++ codes "}" ++ codes "\n") =
    ap (λ x. act_text x depth) is ∙ ap (λ f. f depth) (if_layer act_lines stmt_lines condition block other) in
    pushed ∙ ap (λ x. start ++ x) (sym (shown ∙ ap (λ x. replicate (2 * depth) 32 ++ (codes "if " ++ expr_text condition ++ codes " {") ++ codes "\n" ++ x ++ else_lines (map stmt_text other) depth ++ (replicate (2 * depth) 32 ++ codes "}" ++ codes "\n")) (block_by_statements block (depth + 1))))

-- an else block that isn't empty has its lines after `} else {`
pub else_shown : (other : List Stmt) (depth : ℕ) → 0 < length other
    → else_lines (map stmt_text other) depth ≡ replicate (2 * depth) 32 ++ codes "} else {" ++ codes "\n" ++ flat_map (λ stmt. stmt_text stmt (depth + 1)) other
else_shown [] depth some = absurd (omega arith)
else_shown (s ∷ other) depth some = ap (λ x. replicate (2 * depth) 32 ++ codes "} else {" ++ codes "\n" ++ x) (block_by_statements (s ∷ other) (depth + 1))

pub else_pushed : (other : List Stmt) (depth : ℕ) (start one two whole : List ℕ) → 0 < length other
    → one ≡ start ++ replicate (2 * depth) 32 → two ≡ one ++ codes "} else {\n"
    → whole ≡ two ++ flat_map (λ stmt. stmt_text stmt (depth + 1)) other → whole ≡ start ++ else_lines (map stmt_text other) depth
else_pushed other depth start one two whole some e f g =
    let pushed : whole ≡ start ++ (replicate (2 * depth) 32 ++ codes "} else {" ++ codes "\n" ++ flat_map (λ stmt. stmt_text stmt (depth + 1)) other) =
    g ∙ ap (λ x. x ++ flat_map (λ stmt. stmt_text stmt (depth + 1)) other) (f ∙ ap (λ x. x ++ codes "} else {\n") e) ∙ simp append_assoc in
    pushed ∙ ap (λ x. start ++ x) (sym (else_shown other depth some))
