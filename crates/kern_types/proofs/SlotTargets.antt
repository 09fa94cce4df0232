-- The targets of statements, by their forms.
use Rattle.std.proofs.Common.{◌≡◌, ℕ, List, [], ◌∷◌, ◌++◌, map, flat_map, refl, sym, ap, ◌∙◌, append_assoc}
use Rattle.kern_tree.specs.declared.expr.Expr.{Expr}
use Rattle.kern_tree.specs.declared.stmt.Act.{Act}
use Rattle.kern_tree.specs.declared.stmt.Act.TheVariants as acts
use Rattle.kern_tree.specs.declared.stmt.Stmt.{Stmt}
use Rattle.kern_tree.proofs.Layers.{of_stmt, if_layer}
use Rattle.kern_types.specs.Statements.{act_targets, stmt_targets, targets_in, targets_in_act}

abbrev pub Names : Type 0
Names = List (List ℕ)

targets_of_all : (block : List Stmt) → flat_map (λ (names : Names). names) (map (of_stmt act_targets stmt_targets) block) ≡ targets_in block
targets_of_all [] = refl
targets_of_all (s ∷ block) = ap (λ names. targets_in_act s.act ++ names) (targets_of_all block)

pub if_targets : (condition : Expr) (body others : List Stmt) → targets_in_act (acts.If condition body others) ≡ targets_in body ++ targets_in others
if_targets condition body others = if_layer act_targets stmt_targets condition body others ∙ (λ i. targets_of_all body i ++ targets_of_all others i)

pub if_targets_read : (act : Act) (condition : Expr) (body others read read_other : List Stmt) → act ≡ acts.If condition body others → read ≡ body → read_other ≡ others → targets_in_act act ≡ targets_in read ++ targets_in read_other
if_targets_read act condition body others read read_other is same same_other = ap targets_in_act is ∙ if_targets condition body others ∙ sym (λ i. targets_in (same i) ++ targets_in (same_other i))

-- ---- names that are pushed

pub pushed : (old one two body others all : Names) → one ≡ old ++ body → all ≡ body ++ others → two ≡ one ++ others → two ≡ old ++ all
pushed old one two body others all e f g = g ∙ ap (λ x. x ++ others) e ∙ append_assoc old body others ∙ ap (λ y. old ++ y) (sym f)
