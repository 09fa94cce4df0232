-- Trees that differ in places alone.
use Rattle.std.proofs.Common.{◌≡◌, ℕ, suc, ◌+◌, sym, ap, ◌∙◌, List, [], ◌∷◌, ◌++◌, length, length-append, arith}
use Rattle.kern_tree.specs.declared.expr.Expr.{Expr, fold-roll-Expr}
use Rattle.kern_tree.specs.declared.expr.Form.{Form, fold-Form, fold-roll-Form, roll-Form}
use Rattle.kern_tree.specs.declared.expr.Form.TheVariants as forms
use Rattle.kern_tree.specs.declared.expr.Form.TheOpen as layers
use Rattle.kern_tree.specs.declared.expr.Op1.{Op1}
use Rattle.kern_tree.specs.declared.expr.Op2.{Op2}
use Rattle.kern_tree.specs.declared.expr.Op2.TheVariants as ops2
use Rattle.kern_tree.specs.declared.expr.Op3.{Op3}
use Rattle.pf_geom.specs.declared.axis.Axis.{Axis}
use Rattle.kern_tree.specs.Grammar.{node}
use Rattle.kern_tree.specs.Nodes.{two_nodes, expr_nodes}
use Rattle.kern_tree.specs.Unrolled.{TreesByForm}
use Rattle.kern_print.specs.Places.{expr_at_zero, expr_without_places}

-- a form by the fold that takes the places away
abbrev bare_form : Form → Form
bare_form = fold-Form Form Expr roll-Form expr_at_zero

at_zero : (place : ℕ) (form : Form) → expr_without_places (node place form) ≡ node 0 (bare_form form)
at_zero place form = fold-roll-Expr Form Expr roll-Form expr_at_zero (record { place = place; form = form })

-- the same but for places, with as many nodes
pub record Alike (a b : Expr) : Type 0 where
  pub same : expr_without_places a ≡ expr_without_places b
  pub nodes : length (expr_nodes a) ≡ length (expr_nodes b)

two_count : (op : Op2) (place : ℕ) (xs ys : List ℕ) → length (two_nodes op place xs ys) ≡ suc (length xs + length ys)
two_count ops2.Add place xs ys = length-append xs (place ∷ ys) ∙ (let e : length xs + suc (length ys) ≡ suc (length xs + length ys) = omega arith in e)
two_count ops2.Sub place xs ys = length-append xs (place ∷ ys) ∙ (let e : length xs + suc (length ys) ≡ suc (length xs + length ys) = omega arith in e)
two_count ops2.Mul place xs ys = length-append xs (place ∷ ys) ∙ (let e : length xs + suc (length ys) ≡ suc (length xs + length ys) = omega arith in e)
two_count ops2.Div place xs ys = length-append xs (place ∷ ys) ∙ (let e : length xs + suc (length ys) ≡ suc (length xs + length ys) = omega arith in e)
two_count ops2.Lt place xs ys = length-append xs (place ∷ ys) ∙ (let e : length xs + suc (length ys) ≡ suc (length xs + length ys) = omega arith in e)
two_count ops2.Le place xs ys = length-append xs (place ∷ ys) ∙ (let e : length xs + suc (length ys) ≡ suc (length xs + length ys) = omega arith in e)
two_count ops2.Gt place xs ys = length-append xs (place ∷ ys) ∙ (let e : length xs + suc (length ys) ≡ suc (length xs + length ys) = omega arith in e)
two_count ops2.Ge place xs ys = length-append xs (place ∷ ys) ∙ (let e : length xs + suc (length ys) ≡ suc (length xs + length ys) = omega arith in e)
two_count ops2.Eq place xs ys = length-append xs (place ∷ ys) ∙ (let e : length xs + suc (length ys) ≡ suc (length xs + length ys) = omega arith in e)
two_count ops2.Ne place xs ys = length-append xs (place ∷ ys) ∙ (let e : length xs + suc (length ys) ≡ suc (length xs + length ys) = omega arith in e)
two_count ops2.And place xs ys = length-append xs (place ∷ ys) ∙ (let e : length xs + suc (length ys) ≡ suc (length xs + length ys) = omega arith in e)
two_count ops2.Or place xs ys = length-append xs (place ∷ ys) ∙ (let e : length xs + suc (length ys) ≡ suc (length xs + length ys) = omega arith in e)
two_count ops2.Least place xs ys = ap suc (length-append xs ys)
two_count ops2.Most place xs ys = ap suc (length-append xs ys)

without_number : (place : ℕ) (mantissa : ℕ) (bits : ℕ) → expr_without_places (node place (forms.Number mantissa bits)) ≡ node 0 (forms.Number mantissa bits)
without_number place mantissa bits =
    at_zero place (forms.Number mantissa bits) ∙ ap (λ f. node 0 (bare_form f)) (sym (forms.rolls-Number mantissa bits))
    ∙ ap (node 0) (fold-roll-Form Form Expr roll-Form expr_at_zero (layers.Number mantissa bits) ∙ forms.rolls-Number mantissa bits)

count_number : TreesByForm → (place : ℕ) (mantissa : ℕ) (bits : ℕ) → length (expr_nodes (node place (forms.Number mantissa bits))) ≡ 1
count_number tree place mantissa bits =
    ap (λ x. length x) (tree.nodes.number place mantissa bits)

pub alike_number : TreesByForm → (place place' : ℕ) (mantissa : ℕ) (bits : ℕ) → Alike (node place (forms.Number mantissa bits)) (node place' (forms.Number mantissa bits))
alike_number tree place place' mantissa bits = record {
  same = without_number place mantissa bits ∙ sym (without_number place' mantissa bits);
  nodes = count_number tree place mantissa bits ∙ sym (count_number tree place' mantissa bits);
}

without_name : (place : ℕ) (called : List ℕ) → expr_without_places (node place (forms.Name called)) ≡ node 0 (forms.Name called)
without_name place called =
    at_zero place (forms.Name called) ∙ ap (λ f. node 0 (bare_form f)) (sym (forms.rolls-Name called))
    ∙ ap (node 0) (fold-roll-Form Form Expr roll-Form expr_at_zero (layers.Name called) ∙ forms.rolls-Name called)

count_name : TreesByForm → (place : ℕ) (called : List ℕ) → length (expr_nodes (node place (forms.Name called))) ≡ 1
count_name tree place called =
    ap (λ x. length x) (tree.nodes.name place called)

pub alike_name : TreesByForm → (place place' : ℕ) (called : List ℕ) → Alike (node place (forms.Name called)) (node place' (forms.Name called))
alike_name tree place place' called = record {
  same = without_name place called ∙ sym (without_name place' called);
  nodes = count_name tree place called ∙ sym (count_name tree place' called);
}

without_part : (place : ℕ) (a : Expr) (axis : Axis) → expr_without_places (node place (forms.Part a axis)) ≡ node 0 (forms.Part (expr_without_places a) axis)
without_part place a axis =
    at_zero place (forms.Part a axis) ∙ ap (λ f. node 0 (bare_form f)) (sym (forms.rolls-Part a axis))
    ∙ ap (node 0) (fold-roll-Form Form Expr roll-Form expr_at_zero (layers.Part a axis) ∙ forms.rolls-Part (expr_without_places a) axis)

count_part : TreesByForm → (place : ℕ) (a : Expr) (axis : Axis) → length (expr_nodes (node place (forms.Part a axis))) ≡ suc (length (expr_nodes a))
count_part tree place a axis =
    ap (λ x. length x) (tree.nodes.part place a axis)
    ∙ length-append (expr_nodes a) (place ∷ []) ∙ (let e : length (expr_nodes a) + 1 ≡ suc (length (expr_nodes a)) = omega arith in e)

pub alike_part : TreesByForm → (place place' : ℕ) (axis : Axis) {a a' : Expr} → Alike a a' → Alike (node place (forms.Part a axis)) (node place' (forms.Part a' axis))
alike_part tree place place' axis {a = a} {a' = a'} ha = record {
  same = without_part place a axis ∙ ap (λ x. node 0 (forms.Part x axis)) ha.same ∙ sym (without_part place' a' axis);
  nodes = omega (arith, count_part tree place a axis, count_part tree place' a' axis, ha.nodes);
}

without_one : (place : ℕ) (op : Op1) (a : Expr) → expr_without_places (node place (forms.One op a)) ≡ node 0 (forms.One op (expr_without_places a))
without_one place op a =
    at_zero place (forms.One op a) ∙ ap (λ f. node 0 (bare_form f)) (sym (forms.rolls-One op a))
    ∙ ap (node 0) (fold-roll-Form Form Expr roll-Form expr_at_zero (layers.One op a) ∙ forms.rolls-One op (expr_without_places a))

count_one : TreesByForm → (place : ℕ) (op : Op1) (a : Expr) → length (expr_nodes (node place (forms.One op a))) ≡ suc (length (expr_nodes a))
count_one tree place op a =
    ap (λ x. length x) (tree.nodes.one place op a)

pub alike_one : TreesByForm → (place place' : ℕ) (op : Op1) {a a' : Expr} → Alike a a' → Alike (node place (forms.One op a)) (node place' (forms.One op a'))
alike_one tree place place' op {a = a} {a' = a'} ha = record {
  same = without_one place op a ∙ ap (λ x. node 0 (forms.One op x)) ha.same ∙ sym (without_one place' op a');
  nodes = omega (arith, count_one tree place op a, count_one tree place' op a', ha.nodes);
}

without_two : (place : ℕ) (op : Op2) (a : Expr) (b : Expr) → expr_without_places (node place (forms.Two op a b)) ≡ node 0 (forms.Two op (expr_without_places a) (expr_without_places b))
without_two place op a b =
    at_zero place (forms.Two op a b) ∙ ap (λ f. node 0 (bare_form f)) (sym (forms.rolls-Two op a b))
    ∙ ap (node 0) (fold-roll-Form Form Expr roll-Form expr_at_zero (layers.Two op a b) ∙ forms.rolls-Two op (expr_without_places a) (expr_without_places b))

count_two : TreesByForm → (place : ℕ) (op : Op2) (a : Expr) (b : Expr) → length (expr_nodes (node place (forms.Two op a b))) ≡ suc (length (expr_nodes a) + length (expr_nodes b))
count_two tree place op a b =
    ap (λ x. length x) (tree.nodes.two place op a b)
    ∙ two_count op place (expr_nodes a) (expr_nodes b)

pub alike_two : TreesByForm → (place place' : ℕ) (op : Op2) {a a' b b' : Expr} → Alike a a' → Alike b b' → Alike (node place (forms.Two op a b)) (node place' (forms.Two op a' b'))
alike_two tree place place' op {a = a} {a' = a'} {b = b} {b' = b'} ha hb = record {
  same = without_two place op a b ∙ ap (λ x. node 0 (forms.Two op x (expr_without_places b))) ha.same ∙ ap (λ x. node 0 (forms.Two op (expr_without_places a') x)) hb.same ∙ sym (without_two place' op a' b');
  nodes = omega (arith, count_two tree place op a b, count_two tree place' op a' b', ha.nodes, hb.nodes);
}

without_three : (place : ℕ) (op : Op3) (a : Expr) (b : Expr) (c : Expr) → expr_without_places (node place (forms.Three op a b c)) ≡ node 0 (forms.Three op (expr_without_places a) (expr_without_places b) (expr_without_places c))
without_three place op a b c =
    at_zero place (forms.Three op a b c) ∙ ap (λ f. node 0 (bare_form f)) (sym (forms.rolls-Three op a b c))
    ∙ ap (node 0) (fold-roll-Form Form Expr roll-Form expr_at_zero (layers.Three op a b c) ∙ forms.rolls-Three op (expr_without_places a) (expr_without_places b) (expr_without_places c))

count_three : TreesByForm → (place : ℕ) (op : Op3) (a : Expr) (b : Expr) (c : Expr) → length (expr_nodes (node place (forms.Three op a b c))) ≡ suc (length (expr_nodes a) + length (expr_nodes b) + length (expr_nodes c))
count_three tree place op a b c =
    ap (λ x. length x) (tree.nodes.three place op a b c)
    ∙ ap suc (length-append (expr_nodes a ++ expr_nodes b) (expr_nodes c) ∙ ap (λ n. n + length (expr_nodes c)) (length-append (expr_nodes a) (expr_nodes b)))

pub alike_three : TreesByForm → (place place' : ℕ) (op : Op3) {a a' b b' c c' : Expr} → Alike a a' → Alike b b' → Alike c c' → Alike (node place (forms.Three op a b c)) (node place' (forms.Three op a' b' c'))
alike_three tree place place' op {a = a} {a' = a'} {b = b} {b' = b'} {c = c} {c' = c'} ha hb hc = record {
  same = without_three place op a b c ∙ ap (λ x. node 0 (forms.Three op x (expr_without_places b) (expr_without_places c))) ha.same ∙ ap (λ x. node 0 (forms.Three op (expr_without_places a') x (expr_without_places c))) hb.same ∙ ap (λ x. node 0 (forms.Three op (expr_without_places a') (expr_without_places b') x)) hc.same ∙ sym (without_three place' op a' b' c');
  nodes = omega (arith, count_three tree place op a b c, count_three tree place' op a' b' c', ha.nodes, hb.nodes, hc.nodes);
}

without_to : (place : ℕ) (bits : ℕ) (a : Expr) → expr_without_places (node place (forms.To bits a)) ≡ node 0 (forms.To bits (expr_without_places a))
without_to place bits a =
    at_zero place (forms.To bits a) ∙ ap (λ f. node 0 (bare_form f)) (sym (forms.rolls-To bits a))
    ∙ ap (node 0) (fold-roll-Form Form Expr roll-Form expr_at_zero (layers.To bits a) ∙ forms.rolls-To bits (expr_without_places a))

count_to : TreesByForm → (place : ℕ) (bits : ℕ) (a : Expr) → length (expr_nodes (node place (forms.To bits a))) ≡ suc (length (expr_nodes a))
count_to tree place bits a =
    ap (λ x. length x) (tree.nodes.to place bits a)

pub alike_to : TreesByForm → (place place' : ℕ) (bits : ℕ) {a a' : Expr} → Alike a a' → Alike (node place (forms.To bits a)) (node place' (forms.To bits a'))
alike_to tree place place' bits {a = a} {a' = a'} ha = record {
  same = without_to place bits a ∙ ap (λ x. node 0 (forms.To bits x)) ha.same ∙ sym (without_to place' bits a');
  nodes = omega (arith, count_to tree place bits a, count_to tree place' bits a', ha.nodes);
}
