-- Folds over expressions and statements, by the parts of each form.
use Rattle.std.proofs.Common.{◌≡◌, ℕ, List, [], ◌∷◌, map, sym, ap, ◌∙◌, refl}
use Rattle.kern_tree.specs.declared.expr.Expr.{Expr}
use Rattle.kern_tree.specs.declared.expr.Form.{Form}
use Rattle.kern_tree.specs.declared.expr.Form.TheVariants as forms
use Rattle.kern_tree.specs.declared.expr.Form.TheFolds.{fold-Form, fold-roll-Form, fold-Expr, fold_out-Expr}
use Rattle.kern_tree.specs.declared.expr.Form.TheOpen.{Form-F, Expr-F}
use Rattle.kern_tree.specs.declared.expr.Form.TheOpen as layers
use Rattle.kern_tree.specs.declared.expr.Op1.{Op1}
use Rattle.kern_tree.specs.declared.expr.Op2.{Op2}
use Rattle.kern_tree.specs.declared.expr.Op3.{Op3}
use Rattle.kern_tree.specs.declared.stmt.Act.{Act}
use Rattle.kern_tree.specs.declared.stmt.Act.TheVariants as acts
use Rattle.kern_tree.specs.declared.stmt.Act.TheFolds.{fold-Act, fold-roll-Act, fold-Stmt, fold_out-Stmt}
use Rattle.kern_tree.specs.declared.stmt.Act.TheOpen.{Act-F, Stmt-F}
use Rattle.kern_tree.specs.declared.stmt.Act.TheOpen as act_layers
use Rattle.kern_tree.specs.declared.stmt.Stmt.{Stmt}
use Rattle.pf_geom.specs.declared.axis.Axis.{Axis}

-- ---- expressions

module _ {X A : Type 0} (step : Form-F X A → X) (whole : Expr-F X A → A) where
  abbrev pub of_form : Form → X
  of_form = fold-Form X A step whole

  abbrev pub of_expr : Expr → A
  of_expr e = whole (record { place = e.place; form = of_form e.form })

  by_fold : (e : Expr) → fold-Expr X A step whole e ≡ of_expr e
  by_fold e = fold_out-Expr X A step whole e

  pub number_layer : (mantissa scale : ℕ) → of_form (forms.Number mantissa scale) ≡ step (layers.Number mantissa scale)
  number_layer m s = ap of_form (sym (forms.rolls-Number m s)) ∙ fold-roll-Form X A step whole (layers.Number m s)

  pub name_layer : (name : List ℕ) → of_form (forms.Name name) ≡ step (layers.Name name)
  name_layer n = ap of_form (sym (forms.rolls-Name n)) ∙ fold-roll-Form X A step whole (layers.Name n)

  pub part_layer : (a : Expr) (axis : Axis) → of_form (forms.Part a axis) ≡ step (layers.Part (of_expr a) axis)
  part_layer a axis =
      ap of_form (sym (forms.rolls-Part a axis)) ∙ fold-roll-Form X A step whole (layers.Part a axis)
      ∙ ap (λ x. step (layers.Part x axis)) (by_fold a)

  pub one_layer : (op : Op1) (a : Expr) → of_form (forms.One op a) ≡ step (layers.One op (of_expr a))
  one_layer op a =
      ap of_form (sym (forms.rolls-One op a)) ∙ fold-roll-Form X A step whole (layers.One op a)
      ∙ ap (λ x. step (layers.One op x)) (by_fold a)

  pub two_layer : (op : Op2) (a b : Expr) → of_form (forms.Two op a b) ≡ step (layers.Two op (of_expr a) (of_expr b))
  two_layer op a b =
      ap of_form (sym (forms.rolls-Two op a b)) ∙ fold-roll-Form X A step whole (layers.Two op a b)
      ∙ ap (λ x. step (layers.Two op x (fold-Expr X A step whole b))) (by_fold a)
      ∙ ap (λ y. step (layers.Two op (of_expr a) y)) (by_fold b)

  pub three_layer : (op : Op3) (a b c : Expr) → of_form (forms.Three op a b c) ≡ step (layers.Three op (of_expr a) (of_expr b) (of_expr c))
  three_layer op a b c =
      ap of_form (sym (forms.rolls-Three op a b c)) ∙ fold-roll-Form X A step whole (layers.Three op a b c)
      ∙ ap (λ x. step (layers.Three op x (fold-Expr X A step whole b) (fold-Expr X A step whole c))) (by_fold a)
      ∙ ap (λ y. step (layers.Three op (of_expr a) y (fold-Expr X A step whole c))) (by_fold b)
      ∙ ap (λ z. step (layers.Three op (of_expr a) (of_expr b) z)) (by_fold c)

  pub to_layer : (scale : ℕ) (a : Expr) → of_form (forms.To scale a) ≡ step (layers.To scale (of_expr a))
  to_layer scale a =
      ap of_form (sym (forms.rolls-To scale a)) ∙ fold-roll-Form X A step whole (layers.To scale a)
      ∙ ap (λ x. step (layers.To scale x)) (by_fold a)

-- ---- statements

module _ {X A : Type 0} (step : Act-F X A → X) (whole : Stmt-F X A → A) where
  abbrev pub of_act : Act → X
  of_act = fold-Act X A step whole

  abbrev pub of_stmt : Stmt → A
  of_stmt s = whole (record { place = s.place; act = of_act s.act })

  all_by_fold : (block : List Stmt) → map (fold-Stmt X A step whole) block ≡ map of_stmt block
  all_by_fold [] = refl
  all_by_fold (s ∷ block) = ap (λ x. x ∷ map (fold-Stmt X A step whole) block) (fold_out-Stmt X A step whole s) ∙ ap (λ x. of_stmt s ∷ x) (all_by_fold block)

  pub set_layer : (name : List ℕ) (value : Expr) → of_act (acts.Set name value) ≡ step (act_layers.Set name value)
  set_layer n e = ap of_act (sym (acts.rolls-Set n e)) ∙ fold-roll-Act X A step whole (act_layers.Set n e)

  pub give_layer : (name : List ℕ) (value : Expr) → of_act (acts.Give name value) ≡ step (act_layers.Give name value)
  give_layer n e = ap of_act (sym (acts.rolls-Give n e)) ∙ fold-roll-Act X A step whole (act_layers.Give n e)

  pub if_layer : (condition : Expr) (body others : List Stmt) → of_act (acts.If condition body others) ≡ step (act_layers.If condition (map of_stmt body) (map of_stmt others))
  if_layer c body others =
      ap of_act (sym (acts.rolls-If c body others)) ∙ fold-roll-Act X A step whole (act_layers.If c body others)
      ∙ ap (λ x. step (act_layers.If c x (map (fold-Stmt X A step whole) others))) (all_by_fold body)
      ∙ ap (λ x. step (act_layers.If c (map of_stmt body) x)) (all_by_fold others)
