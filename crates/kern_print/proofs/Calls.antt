-- The text of a call with several operands, which is pushed in turn.
use Rattle.std.proofs.Common.{◌≡◌, ℕ, sym, ap, ◌∙◌, List, ◌++◌, codes, append_assoc}
use Rattle.std.specs.Fmt.{decimal}
use Rattle.kern_tree.specs.declared.expr.Expr.{Expr}
use Rattle.kern_tree.specs.declared.expr.Form.{Form}
use Rattle.kern_tree.specs.declared.expr.Form.TheVariants as forms
use Rattle.kern_tree.specs.declared.expr.Op3.{Op3}
use Rattle.kern_tree.proofs.Layers.{three_layer, to_layer}
use Rattle.kern_print.specs.Expressions.{Operand, in_brackets, operand_of, form_operand, operand_text, three_text}

-- what is pushed in turn is the text of a call with three operands
pub three_pushed : (op : Op3) (a b c : Expr) (form : Form) (head start one two three whole : List ℕ) → form ≡ forms.Three op a b c
    → ((x y z : Operand) → three_text op x y z ≡ head ++ x 1 ++ codes ", " ++ y 1 ++ codes ", " ++ z 1 ++ codes ")")
    → one ≡ start ++ head ++ operand_text a 1 → two ≡ one ++ codes ", " ++ operand_text b 1 → three ≡ two ++ codes ", " ++ operand_text c 1
    → whole ≡ three ++ codes ")" → whole ≡ start ++ form_operand form 1
three_pushed op a b c form head start one two three whole is text e f g h =
    let pushed : whole ≡ start ++ (head ++ operand_text a 1 ++ codes ", " ++ operand_text b 1 ++ codes ", " ++ operand_text c 1 ++ codes ")") =
    h ∙ ap (λ x. x ++ codes ")") (g ∙ ap (λ x. x ++ codes ", " ++ operand_text c 1) (f ∙ ap (λ x. x ++ codes ", " ++ operand_text b 1) e)) ∙ simp append_assoc in
    let shown : form_operand form 1 ≡ head ++ operand_text a 1 ++ codes ", " ++ operand_text b 1 ++ codes ", " ++ operand_text c 1 ++ codes ")" =
    ap (λ x. form_operand x 1) is ∙ ap (λ f. f 1) (three_layer in_brackets operand_of op a b c) ∙ text (operand_text a) (operand_text b) (operand_text c) in
    pushed ∙ ap (λ x. start ++ x) (sym shown)

pub to_pushed : (scale : ℕ) (a : Expr) (form : Form) (start one two three whole : List ℕ) (number : ℕ) → form ≡ forms.To scale a → number ≡ scale
    → one ≡ start ++ codes "to(" → two ≡ one ++ decimal number → three ≡ two ++ codes ", " ++ operand_text a 1
    → whole ≡ three ++ codes ")" → whole ≡ start ++ form_operand form 1
to_pushed scale a form start one two three whole number is same e f g h =
    let pushed : whole ≡ start ++ (codes "to(" ++ decimal number ++ codes ", " ++ operand_text a 1 ++ codes ")") =
    h ∙ ap (λ x. x ++ codes ")") (g ∙ ap (λ x. x ++ codes ", " ++ operand_text a 1) (f ∙ ap (λ x. x ++ decimal number) e)) ∙ simp append_assoc in
    let shown : form_operand form 1 ≡ codes "to(" ++ decimal scale ++ codes ", " ++ operand_text a 1 ++ codes ")" =
    ap (λ x. form_operand x 1) is ∙ ap (λ f. f 1) (to_layer in_brackets operand_of scale a) in
    pushed ∙ ap (λ n. start ++ (codes "to(" ++ decimal n ++ codes ", " ++ operand_text a 1 ++ codes ")")) same ∙ ap (λ x. start ++ x) (sym shown)
