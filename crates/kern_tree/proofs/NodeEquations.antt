-- The nodes of a tree that is made of trees.
use Rattle.std.proofs.Common.{◌≡◌, ℕ, List, [], ◌∷◌, ◌++◌, flat_map, map, sym, refl, ap, ◌∙◌}
use Rattle.kern_tree.specs.declared.expr.Expr.{Expr, fold-roll-Expr}
use Rattle.kern_tree.specs.declared.expr.Form.{Form, fold-Form, fold-roll-Form}
use Rattle.kern_tree.specs.declared.expr.Form.TheVariants as forms
use Rattle.kern_tree.specs.declared.expr.Form.TheOpen.{Form-F}
use Rattle.kern_tree.specs.declared.expr.Op1.{Op1}
use Rattle.kern_tree.specs.declared.expr.Op2.{Op2}
use Rattle.kern_tree.specs.declared.expr.Op3.{Op3}
use Rattle.kern_tree.specs.declared.stmt.Act.{Act, fold-Act, fold-roll-Act}
use Rattle.kern_tree.specs.declared.stmt.Act.TheVariants as acts
use Rattle.kern_tree.specs.declared.stmt.Act.TheOpen.{Act-F}
use Rattle.kern_tree.specs.declared.stmt.Stmt.{Stmt, fold-roll-Stmt}
use Rattle.pf_geom.specs.declared.axis.Axis.{Axis}
use Rattle.kern_tree.specs.Grammar.{node, stmt_node}
use Rattle.kern_tree.specs.Nodes.{two_nodes, form_nodes, expr_step, expr_nodes, act_nodes, stmt_step, stmt_nodes}

-- the nodes of a form at a place
abbrev of_form : Form → ℕ → List ℕ
of_form = fold-Form (ℕ → List ℕ) (List ℕ) form_nodes expr_step

at_node : (place : ℕ) (form : Form) → expr_nodes (node place form) ≡ of_form form place
at_node place form = fold-roll-Expr (ℕ → List ℕ) (List ℕ) form_nodes expr_step (record { place = place; form = form })

pub nodes-number : (place value bits : ℕ) → expr_nodes (node place (forms.Number value bits)) ≡ place ∷ []
nodes-number place value bits = at_node place (forms.Number value bits) ∙ ap (λ f. of_form f place) (sym (forms.rolls-Number value bits)) ∙ ap (λ f. f place) (fold-roll-Form (ℕ → List ℕ) (List ℕ) form_nodes expr_step (Form-F.Number value bits))

pub nodes-name : (place : ℕ) (name : List ℕ) → expr_nodes (node place (forms.Name name)) ≡ place ∷ []
nodes-name place name = at_node place (forms.Name name) ∙ ap (λ f. of_form f place) (sym (forms.rolls-Name name)) ∙ ap (λ f. f place) (fold-roll-Form (ℕ → List ℕ) (List ℕ) form_nodes expr_step (Form-F.Name name))

pub nodes-part : (place : ℕ) (whole : Expr) (along : Axis) → expr_nodes (node place (forms.Part whole along)) ≡ expr_nodes whole ++ place ∷ []
nodes-part place whole along = at_node place (forms.Part whole along) ∙ ap (λ f. of_form f place) (sym (forms.rolls-Part whole along)) ∙ ap (λ f. f place) (fold-roll-Form (ℕ → List ℕ) (List ℕ) form_nodes expr_step (Form-F.Part whole along))

pub nodes-one : (place : ℕ) (op : Op1) (a : Expr) → expr_nodes (node place (forms.One op a)) ≡ place ∷ expr_nodes a
nodes-one place op a = at_node place (forms.One op a) ∙ ap (λ f. of_form f place) (sym (forms.rolls-One op a)) ∙ ap (λ f. f place) (fold-roll-Form (ℕ → List ℕ) (List ℕ) form_nodes expr_step (Form-F.One op a))

pub nodes-two : (place : ℕ) (op : Op2) (a b : Expr) → expr_nodes (node place (forms.Two op a b)) ≡ two_nodes op place (expr_nodes a) (expr_nodes b)
nodes-two place op a b = at_node place (forms.Two op a b) ∙ ap (λ f. of_form f place) (sym (forms.rolls-Two op a b)) ∙ ap (λ f. f place) (fold-roll-Form (ℕ → List ℕ) (List ℕ) form_nodes expr_step (Form-F.Two op a b))

pub nodes-three : (place : ℕ) (op : Op3) (a b c : Expr) → expr_nodes (node place (forms.Three op a b c)) ≡ place ∷ (expr_nodes a ++ expr_nodes b ++ expr_nodes c)
nodes-three place op a b c = at_node place (forms.Three op a b c) ∙ ap (λ f. of_form f place) (sym (forms.rolls-Three op a b c)) ∙ ap (λ f. f place) (fold-roll-Form (ℕ → List ℕ) (List ℕ) form_nodes expr_step (Form-F.Three op a b c))

pub nodes-to : (place bits : ℕ) (a : Expr) → expr_nodes (node place (forms.To bits a)) ≡ place ∷ expr_nodes a
nodes-to place bits a = at_node place (forms.To bits a) ∙ ap (λ f. of_form f place) (sym (forms.rolls-To bits a)) ∙ ap (λ f. f place) (fold-roll-Form (ℕ → List ℕ) (List ℕ) form_nodes expr_step (Form-F.To bits a))

-- ---- statements

of_act : Act → List ℕ
of_act = fold-Act (List ℕ) (List ℕ) act_nodes stmt_step

at_stmt : (place : ℕ) (act : Act) → stmt_nodes (stmt_node place act) ≡ place ∷ of_act act
unfolding of_act
at_stmt place act = fold-roll-Stmt (List ℕ) (List ℕ) act_nodes stmt_step (record { place = place; act = act })

pub nodes-set : (place : ℕ) (target : List ℕ) (value : Expr) → stmt_nodes (stmt_node place (acts.Set target value)) ≡ place ∷ expr_nodes value
unfolding of_act
nodes-set place target value = at_stmt place (acts.Set target value) ∙ ap (λ a. place ∷ of_act a) (sym (acts.rolls-Set target value)) ∙ ap (λ ns. place ∷ ns) (fold-roll-Act (List ℕ) (List ℕ) act_nodes stmt_step (Act-F.Set target value))

pub nodes-give : (place : ℕ) (target : List ℕ) (value : Expr) → stmt_nodes (stmt_node place (acts.Give target value)) ≡ place ∷ expr_nodes value
unfolding of_act
nodes-give place target value = at_stmt place (acts.Give target value) ∙ ap (λ a. place ∷ of_act a) (sym (acts.rolls-Give target value)) ∙ ap (λ ns. place ∷ ns) (fold-roll-Act (List ℕ) (List ℕ) act_nodes stmt_step (Act-F.Give target value))

flat_map-map : (f : Stmt → List ℕ) (ss : List Stmt) → flat_map (λ ns. ns) (map f ss) ≡ flat_map f ss
flat_map-map f [] = refl
flat_map-map f (s ∷ ss) = ap (λ ns. f s ++ ns) (flat_map-map f ss)

pub act_nodes-if : (condition : Expr) (body others : List Stmt) → fold-Act (List ℕ) (List ℕ) act_nodes stmt_step (acts.If condition body others) ≡ expr_nodes condition ++ flat_map stmt_nodes body ++ flat_map stmt_nodes others
act_nodes-if condition body others =
    ap (fold-Act (List ℕ) (List ℕ) act_nodes stmt_step) (sym (acts.rolls-If condition body others))
    ∙ fold-roll-Act (List ℕ) (List ℕ) act_nodes stmt_step (Act-F.If condition body others)
    ∙ ap (λ ns. expr_nodes condition ++ ns ++ flat_map (λ ms. ms) (map stmt_nodes others)) (flat_map-map stmt_nodes body)
    ∙ ap (λ ns. expr_nodes condition ++ flat_map stmt_nodes body ++ ns) (flat_map-map stmt_nodes others)

pub nodes-if : (place : ℕ) (condition : Expr) (body others : List Stmt) → stmt_nodes (stmt_node place (acts.If condition body others)) ≡ place ∷ (expr_nodes condition ++ flat_map stmt_nodes body ++ flat_map stmt_nodes others)
unfolding of_act
nodes-if place condition body others = at_stmt place (acts.If condition body others) ∙ ap (λ ns. place ∷ ns) (act_nodes-if condition body others)
