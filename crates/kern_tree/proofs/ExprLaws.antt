-- The rules of expressions keep the laws of rules.
use Rattle.std.proofs.Common.{◌≡◌, ℕ, zero, suc, List, [], ◌∷◌, ◌++◌, true, false, IsTrue, flat_map, fold, codes, sym, refl, ap, ◌∙◌, subst, inl, inr, append_assoc, append-nil, arith}
use Rattle.std.specs.List.{AllByRecursion}
use Rattle.kern_token.specs.declared.token.Symbol.{Symbol}
use Rattle.kern_token.specs.declared.token.Symbol.TheVariants as symbols
use Rattle.kern_token.specs.declared.token.Token.{Token}
use Rattle.kern_token.specs.declared.token.TokenKind.TheVariants as kinds
use Rattle.kern_token.specs.declared.token.Word.{Word}
use Rattle.kern_token.specs.declared.token.Word.TheVariants as words
use Rattle.kern_tree.specs.declared.expr.Expr.{Expr}
use Rattle.kern_tree.specs.declared.expr.Form.{Form}
use Rattle.kern_tree.specs.declared.expr.Form.TheVariants as forms
use Rattle.kern_tree.specs.declared.expr.Op1.TheVariants as op1s
use Rattle.kern_tree.specs.declared.expr.Op2.{Op2}
use Rattle.kern_tree.specs.declared.expr.Op2.TheVariants as op2s
use Rattle.kern_tree.specs.declared.expr.Op3.TheVariants as op3s
use Rattle.pf_geom.specs.declared.axis.Axis.{Axis}
use Rattle.pf_geom.specs.declared.axis.Axis.TheVariants as axes
use Rattle.kern_tree.specs.Rules.{Rule, At, ◌>>=◌, ◌or◌, pure, many, never}
use Rattle.kern_tree.specs.Grammar.{node, axis_letter, axis, operator, two, joined_from_left, to_scale, literal, variable, component, part, bracketed, call1, call2, call3, to_call, call, prim, post, unary, prod, sum, relation, rel, both, expr_over, expr_within, expr}
use Rattle.kern_tree.specs.Nodes.{two_nodes, expr_nodes}
use Rattle.kern_tree.proofs.Classes.{word_class, symbol_class}
use Rattle.kern_tree.proofs.DeclLaws.{none, at_here, solid, same_name, good_symbol, node_symbol, node_word, node_name, good_number, node_number, good_scale}
use Rattle.kern_tree.proofs.NodeEquations.{nodes-number, nodes-name, nodes-part, nodes-one, nodes-two, nodes-three, nodes-to}
use Rattle.kern_tree.proofs.Shapes.{Shape, Good, Sound, same, same_front, pure_shape, good_pure, then_shape, then_fits, good_then, good_when, good_or, many_shape, many_fits, good_many, good_any, never_good, good_never, sound_never, token_shape, good_wider}

-- ---- an axis

axis_differs : (a b : List ℕ) (x y : ℕ) (xs ys : List ℕ) → a ≡ x ∷ xs → b ≡ y ∷ ys → (x ≡ y → ⊥) → a ≡ b → ⊥
axis_differs a b x y xs ys e f differ g = differ (same_front x y xs ys (sym e ∙ g ∙ f)).0

same_axis : (v w : Axis) → axis_letter v ≡ axis_letter w → v ≡ w
same_axis axes.X axes.X e = refl
same_axis axes.X axes.Y e = absurd (axis_differs (codes "x") (codes "y") 120 121 [] [] refl refl (λ f. omega arith) e)
same_axis axes.X axes.Z e = absurd (axis_differs (codes "x") (codes "z") 120 122 [] [] refl refl (λ f. omega arith) e)
same_axis axes.Y axes.X e = absurd (axis_differs (codes "y") (codes "x") 121 120 [] [] refl refl (λ f. omega arith) e)
same_axis axes.Y axes.Y e = refl
same_axis axes.Y axes.Z e = absurd (axis_differs (codes "y") (codes "z") 121 122 [] [] refl refl (λ f. omega arith) e)
same_axis axes.Z axes.X e = absurd (axis_differs (codes "z") (codes "x") 122 120 [] [] refl refl (λ f. omega arith) e)
same_axis axes.Z axes.Y e = absurd (axis_differs (codes "z") (codes "y") 122 121 [] [] refl refl (λ f. omega arith) e)
same_axis axes.Z axes.Z e = refl

sound_axis : Sound axis (token_shape 0) none []
sound_axis tokens along rest h =
    let t : Token = record { kind = kinds.Name (axis_letter along); place = h.0; end = h.1.0 } in
    record {
      read = t ∷ [];
      split = h.1.1;
      again = λ other. (h.0, (h.1.0, refl));
      begins = inl (inl refl);
      added = [];
      nodes_are = refl;
      placed = tt;
    }

pub good_axis : Good axis axis (token_shape 0) none []
good_axis = record {
  sound_one = sound_axis;
  sound_two = sound_axis;
  alike = λ tokens v w rest other h k.
      (let fronts = same_front _ _ rest other (sym h.1.1 ∙ k.1.1) in
      same (same_axis v w (same_name (axis_letter v) (axis_letter w) (ap (λ (t : Token). t.kind) fronts.0))) fronts.1);
}

-- ---- operators and what they join

pub good_operator : {A : Type 0} (spelled : Symbol) (op : A) → Good (operator spelled op) (operator spelled op) (solid (symbol_class spelled ∷ [])) at_here []
good_operator spelled op = good_then (node_symbol spelled) (λ place. good_pure (record { place = place; held = op }) at_here (place ∷ []) refl) refl

-- the operator stands between its operands
abbrev pub IsInfix : Op2 → Type 0
IsInfix op = (place : ℕ) (left right : List ℕ) → two_nodes op place left right ≡ left ++ place ∷ right

abbrev pub ReadsInfix : Rule (At Op2) → Type 0
ReadsInfix operators = (tokens : List Token) (op : At Op2) (rest : List Token) → operators tokens op rest → IsInfix op.held

pub infix_operator : (spelled : Symbol) (op : Op2) → IsInfix op → ReadsInfix (operator spelled op)
infix_operator spelled op i tokens found rest h = subst (λ (o : At Op2). IsInfix o.held) (sym h.3.0) i

pub infix_or : {one two : Rule (At Op2)} → ReadsInfix one → ReadsInfix two → ReadsInfix (one or two)
infix_or f g tokens op rest (inl h) = f tokens op rest h
infix_or f g tokens op rest (inr h) = g tokens op rest h

abbrev pub operand_nodes : At Op2 × Expr → List ℕ
operand_nodes more = (more.0).place ∷ expr_nodes more.1

pub nodes_joined : (first : Expr) (more : List (At Op2 × Expr)) → AllByRecursion (λ m. IsInfix (m.0).held) more → expr_nodes (fold two first more) ≡ expr_nodes first ++ flat_map operand_nodes more
nodes_joined first [] h = sym (append-nil (expr_nodes first))
nodes_joined first (m ∷ more) h =
    nodes_joined (two first m) more h.1
    ∙ ap (λ ns. ns ++ flat_map operand_nodes more) (nodes-two (m.0).place (m.0).held first m.1 ∙ h.0 (m.0).place (expr_nodes first) (expr_nodes m.1))
    ∙ append_assoc (expr_nodes first) (operand_nodes m) (flat_map operand_nodes more)

abbrev pub operation_shape : Shape → Shape → Shape
operation_shape s t = then_shape s (then_shape t pure_shape)

abbrev pub joined_shape : Shape → Shape → Shape
joined_shape s t = then_shape t (then_shape (many_shape (operation_shape s t)) pure_shape)

-- an operator and its right operand
abbrev pub operation : Rule (At Op2) → Rule Expr → Rule (At Op2 × Expr)
operation operators operand = operators >>= (λ op. operand >>= (λ right. pure (op, right)))

infix_operations : (operators : Rule (At Op2)) (operand : Rule Expr) → ReadsInfix operators → (tokens : List Token) (more : List (At Op2 × Expr)) (rest : List Token) → many (operation operators operand) tokens more rest → AllByRecursion (λ m. IsInfix (m.0).held) more
infix_operations operators operand i tokens [] rest h = tt
infix_operations operators operand i tokens (m ∷ more) rest h = (subst (λ (o : At Op2 × Expr). IsInfix (o.0).held) (sym h.1.3.3.0) (i tokens h.1.0 h.1.1 h.1.2), infix_operations operators operand i h.0 more rest h.2)

module _ {operators : Rule (At Op2)} {operand operand' : Rule Expr} {s t : Shape} (infix_only : ReadsInfix operators) (f : Good operators operators s at_here []) (g : Good operand operand' t expr_nodes []) (fits_right : IsTrue (then_fits t pure_shape)) (fits_operation : IsTrue (then_fits s (then_shape t pure_shape))) (fits_many : IsTrue (many_fits (operation_shape s t))) where
  pub good_operation : Good (operation operators operand) (operation operators operand') (operation_shape s t) operand_nodes []
  good_operation =
      good_then f (λ op.
      good_then g (λ right.
      good_pure (op, right) operand_nodes (op.place ∷ expr_nodes right) refl) fits_right) fits_operation

  module _ (fits_tail : IsTrue (then_fits (many_shape (operation_shape s t)) pure_shape)) (fits : IsTrue (then_fits t (then_shape (many_shape (operation_shape s t)) pure_shape))) where
    pub good_joined : Good (joined_from_left operators operand) (joined_from_left operators operand') (joined_shape s t) expr_nodes []
    good_joined =
        good_then g (λ first.
        good_when (λ more. AllByRecursion (λ m. IsInfix (m.0).held) more) (infix_operations operators operand infix_only) (infix_operations operators operand' infix_only) (good_many good_operation fits_many) (λ more i.
        good_pure (fold two first more) expr_nodes (expr_nodes first ++ flat_map operand_nodes more) (nodes_joined first more i)) fits_tail) fits

-- ---- parts of primaries

pub good_literal : Good literal literal (record { nullable = false; first = 2 ∷ []; cont = 1 ∷ [] }) expr_nodes []
good_literal =
    good_then node_number (λ digits.
    good_then (good_or (good_then good_scale (λ written.
    good_pure written.held none [] refl) refl) (good_pure 0 none [] refl) refl) (λ bits.
    good_pure (node digits.place (forms.Number digits.held bits)) expr_nodes (digits.place ∷ []) (nodes-number digits.place digits.held bits)) refl) refl

pub good_variable : Good variable variable (solid (0 ∷ [])) expr_nodes []
good_variable =
    good_then node_name (λ called.
    good_pure (node called.place (forms.Name called.held)) expr_nodes (called.place ∷ []) (nodes-name called.place called.held)) refl

pub good_component : Good component component (solid (29 ∷ [])) at_here []
good_component =
    good_then (node_symbol symbols.Dot) (λ place.
    good_then good_axis (λ along.
    good_pure (record { place = place; held = along }) at_here (place ∷ []) refl) refl) refl

pub nodes_parts : (whole : Expr) (parts : List (At Axis)) → expr_nodes (fold part whole parts) ≡ expr_nodes whole ++ flat_map at_here parts
nodes_parts whole [] = sym (append-nil (expr_nodes whole))
nodes_parts whole (p ∷ parts) =
    nodes_parts (part whole p) parts
    ∙ ap (λ ns. ns ++ flat_map at_here parts) (nodes-part p.place whole p.held)
    ∙ append_assoc (expr_nodes whole) (p.place ∷ []) (flat_map at_here parts)

-- ---- the rules over what may stand in brackets

abbrev pub expr_first : List ℕ
expr_first = 2 ∷ 0 ∷ 22 ∷ 16 ∷ 17 ∷ 14 ∷ 11 ∷ 10 ∷ 15 ∷ 8 ∷ 19 ∷ 40 ∷ []

abbrev pub level : List ℕ → Shape
level cont = record { nullable = false; first = expr_first; cont = cont }

-- what goes on with each level: a scale, `.`, and the operators of the level and those above it
abbrev pub unary_cont : List ℕ
unary_cont = 1 ∷ 29 ∷ []

abbrev pub prod_cont : List ℕ
prod_cont = 20 ∷ 21 ∷ unary_cont

abbrev pub sum_cont : List ℕ
sum_cont = 18 ∷ 19 ∷ prod_cont

abbrev pub rel_cont : List ℕ
rel_cont = 32 ∷ 33 ∷ 34 ∷ 35 ∷ 36 ∷ 37 ∷ sum_cont

abbrev pub both_cont : List ℕ
both_cont = 38 ∷ rel_cont

abbrev pub expr_cont : List ℕ
expr_cont = 39 ∷ both_cont

abbrev pub expr_shape : Shape
expr_shape = level expr_cont

flat1 : (a : List ℕ) → a ≡ a ++ []
flat1 a = sym (append-nil a)

flat2 : (a b : List ℕ) → a ++ b ≡ ((a ++ []) ++ b) ++ []
flat2 a b = simp append-nil

flat3 : (a b c : List ℕ) → a ++ b ++ c ≡ ((((a ++ []) ++ b) ++ []) ++ c) ++ []
flat3 a b c = simp (append-nil, append_assoc)

module _ {inside inside' : Rule Expr} (within : Good inside inside' expr_shape expr_nodes []) where
  pub good_bracketed : Good (bracketed inside) (bracketed inside') (solid (22 ∷ [])) expr_nodes []
  good_bracketed =
      good_then (good_symbol symbols.OpenRound) (λ p.
      good_then within (λ e.
      good_then (good_symbol symbols.CloseRound) (λ q.
      good_pure e expr_nodes (expr_nodes e ++ []) (flat1 (expr_nodes e))) refl) refl) refl

  pub good_call1 : (spelled : Word) (form : Expr → Form) → ((place : ℕ) (a : Expr) → expr_nodes (node place (form a)) ≡ place ∷ expr_nodes a) → Good (call1 inside spelled form) (call1 inside' spelled form) (solid (word_class spelled ∷ [])) expr_nodes []
  good_call1 spelled form nodes =
      good_then (node_word spelled) (λ place.
      good_then (good_symbol symbols.OpenRound) (λ p.
      good_then within (λ a.
      good_then (good_symbol symbols.CloseRound) (λ q.
      good_pure (node place (form a)) expr_nodes (place ∷ (expr_nodes a ++ [])) (nodes place a ∙ ap (λ ns. place ∷ ns) (flat1 (expr_nodes a)))) refl) refl) refl) refl

  pub good_call2 : (spelled : Word) (form : Expr → Expr → Form) → ((place : ℕ) (a b : Expr) → expr_nodes (node place (form a b)) ≡ place ∷ (expr_nodes a ++ expr_nodes b)) → Good (call2 inside spelled form) (call2 inside' spelled form) (solid (word_class spelled ∷ [])) expr_nodes []
  good_call2 spelled form nodes =
      good_then (node_word spelled) (λ place.
      good_then (good_symbol symbols.OpenRound) (λ p.
      good_then within (λ a.
      good_then (good_symbol symbols.Comma) (λ q.
      good_then within (λ b.
      good_then (good_symbol symbols.CloseRound) (λ r.
      good_pure (node place (form a b)) expr_nodes (place ∷ (((expr_nodes a ++ []) ++ expr_nodes b) ++ [])) (nodes place a b ∙ ap (λ ns. place ∷ ns) (flat2 (expr_nodes a) (expr_nodes b)))) refl) refl) refl) refl) refl) refl

  pub good_call3 : (spelled : Word) (form : Expr → Expr → Expr → Form) → ((place : ℕ) (a b c : Expr) → expr_nodes (node place (form a b c)) ≡ place ∷ (expr_nodes a ++ expr_nodes b ++ expr_nodes c)) → Good (call3 inside spelled form) (call3 inside' spelled form) (solid (word_class spelled ∷ [])) expr_nodes []
  good_call3 spelled form nodes =
      good_then (node_word spelled) (λ place.
      good_then (good_symbol symbols.OpenRound) (λ p.
      good_then within (λ a.
      good_then (good_symbol symbols.Comma) (λ q.
      good_then within (λ b.
      good_then (good_symbol symbols.Comma) (λ r.
      good_then within (λ c.
      good_then (good_symbol symbols.CloseRound) (λ s.
      good_pure (node place (form a b c)) expr_nodes (place ∷ (((((expr_nodes a ++ []) ++ expr_nodes b) ++ []) ++ expr_nodes c) ++ [])) (nodes place a b c ∙ ap (λ ns. place ∷ ns) (flat3 (expr_nodes a) (expr_nodes b) (expr_nodes c)))) refl) refl) refl) refl) refl) refl) refl) refl

  pub good_to_call : Good (to_call inside) (to_call inside') (solid (14 ∷ [])) expr_nodes []
  good_to_call =
      good_then (node_word words.To) (λ place.
      good_then (good_symbol symbols.OpenRound) (λ p.
      good_then good_number (λ bits.
      good_then (good_symbol symbols.Comma) (λ q.
      good_then within (λ a.
      good_then (good_symbol symbols.CloseRound) (λ r.
      good_pure (node place (forms.To (to_scale bits.held) a)) expr_nodes (place ∷ (expr_nodes a ++ [])) (nodes-to place (to_scale bits.held) a ∙ ap (λ ns. place ∷ ns) (flat1 (expr_nodes a)))) refl) refl) refl) refl) refl) refl

  pub good_call : Good (call inside) (call inside') (solid (16 ∷ 17 ∷ 14 ∷ 11 ∷ 10 ∷ 15 ∷ 8 ∷ [])) expr_nodes []
  good_call =
      good_or (good_or (good_or (good_or (good_or (good_or (good_call1 words.Isqrt (forms.One op1s.Isqrt) (λ p a. nodes-one p op1s.Isqrt a)) (good_call1 words.Abs (forms.One op1s.Abs) (λ p a. nodes-one p op1s.Abs a)) refl) good_to_call refl) (good_call2 words.Min (forms.Two op2s.Least) (λ p a b. nodes-two p op2s.Least a b)) refl) (good_call2 words.Max (forms.Two op2s.Most) (λ p a b. nodes-two p op2s.Most a b)) refl) (good_call3 words.Muldiv (forms.Three op3s.Muldiv) (λ p a b c. nodes-three p op3s.Muldiv a b c)) refl) (good_call3 words.Vec (forms.Three op3s.Build) (λ p a b c. nodes-three p op3s.Build a b c)) refl

  pub good_prim : Good (prim inside) (prim inside') (record { nullable = false; first = 2 ∷ 0 ∷ 22 ∷ 16 ∷ 17 ∷ 14 ∷ 11 ∷ 10 ∷ 15 ∷ 8 ∷ []; cont = 1 ∷ [] }) expr_nodes []
  good_prim = good_or (good_or (good_or good_literal good_variable refl) good_bracketed refl) good_call refl

  pub good_post : Good (post inside) (post inside') (record { nullable = false; first = 2 ∷ 0 ∷ 22 ∷ 16 ∷ 17 ∷ 14 ∷ 11 ∷ 10 ∷ 15 ∷ 8 ∷ []; cont = unary_cont }) expr_nodes []
  good_post =
      good_then good_prim (λ whole.
      good_then (good_many good_component refl) (λ parts.
      good_pure (fold part whole parts) expr_nodes (expr_nodes whole ++ flat_map at_here parts) (nodes_parts whole parts)) refl) refl

  pub good_unary : Good (unary inside) (unary inside') (level unary_cont) expr_nodes []
  good_unary =
      good_wider unary_cont (good_or good_post (good_then (good_or (good_operator symbols.Minus op1s.Neg) (good_operator symbols.Not op1s.Not) refl) (λ op.
      good_then good_post (λ operand.
      good_pure (node op.place (forms.One op.held operand)) expr_nodes (op.place ∷ expr_nodes operand) (nodes-one op.place op.held operand)) refl) refl) refl) refl

  pub good_prod : Good (prod inside) (prod inside') (level prod_cont) expr_nodes []
  good_prod = good_wider prod_cont (good_joined (infix_or (infix_operator symbols.Star op2s.Mul (λ p l r. refl)) (infix_operator symbols.Slash op2s.Div (λ p l r. refl))) (good_or (good_operator symbols.Star op2s.Mul) (good_operator symbols.Slash op2s.Div) refl) good_unary refl refl refl refl refl) refl

  pub good_sum : Good (sum inside) (sum inside') (level sum_cont) expr_nodes []
  good_sum = good_wider sum_cont (good_joined (infix_or (infix_operator symbols.Plus op2s.Add (λ p l r. refl)) (infix_operator symbols.Minus op2s.Sub (λ p l r. refl))) (good_or (good_operator symbols.Plus op2s.Add) (good_operator symbols.Minus op2s.Sub) refl) good_prod refl refl refl refl refl) refl

-- ---- relations and above

-- the rule of relations, which takes nothing from what stands in brackets
abbrev pub relations : Rule (At Op2)
relations = relation never

pub infix_relation : ReadsInfix relations
infix_relation = infix_or (infix_or (infix_or (infix_or (infix_or (infix_operator symbols.Lt op2s.Lt (λ p l r. refl)) (infix_operator symbols.Le op2s.Le (λ p l r. refl))) (infix_operator symbols.Gt op2s.Gt (λ p l r. refl))) (infix_operator symbols.Ge op2s.Ge (λ p l r. refl))) (infix_operator symbols.Eq op2s.Eq (λ p l r. refl))) (infix_operator symbols.Ne op2s.Ne (λ p l r. refl))

pub good_relation : Good relations relations (solid (32 ∷ 33 ∷ 34 ∷ 35 ∷ 36 ∷ 37 ∷ [])) at_here []
good_relation = good_or (good_or (good_or (good_or (good_or (good_operator symbols.Lt op2s.Lt) (good_operator symbols.Le op2s.Le) refl) (good_operator symbols.Gt op2s.Gt) refl) (good_operator symbols.Ge op2s.Ge) refl) (good_operator symbols.Eq op2s.Eq) refl) (good_operator symbols.Ne op2s.Ne) refl

nodes_two_infix : (left : Expr) (op : At Op2) (right : Expr) → IsInfix op.held → expr_nodes (two left (op, right)) ≡ (expr_nodes left ++ op.place ∷ []) ++ expr_nodes right
nodes_two_infix left op right i = nodes-two op.place op.held left right ∙ i op.place (expr_nodes left) (expr_nodes right) ∙ sym (append_assoc (expr_nodes left) (op.place ∷ []) (expr_nodes right))

module _ {inside inside' : Rule Expr} (within : Good inside inside' expr_shape expr_nodes []) where
  -- what follows the left operand of a relation
  pub good_related : (left : Expr) → Good (pure left or (relations >>= (λ op. sum inside >>= (λ right. pure (two left (op, right)))))) (pure left or (relations >>= (λ op. sum inside' >>= (λ right. pure (two left (op, right)))))) (record { nullable = true; first = 32 ∷ 33 ∷ 34 ∷ 35 ∷ 36 ∷ 37 ∷ []; cont = rel_cont }) expr_nodes (expr_nodes left)
  good_related left =
      good_wider rel_cont (good_or (good_pure left expr_nodes (expr_nodes left) refl) (good_when (λ op. IsInfix op.held) infix_relation infix_relation good_relation (λ op i.
      good_then (good_sum within) (λ right.
      good_pure (two left (op, right)) expr_nodes ((expr_nodes left ++ op.place ∷ []) ++ expr_nodes right) (nodes_two_infix left op right i)) refl) refl) refl) refl

  pub good_rel : Good (rel inside) (rel inside') (level rel_cont) expr_nodes []
  good_rel = good_wider rel_cont (good_then (good_sum within) (λ left. good_related left) refl) refl

  pub good_both : Good (both inside) (both inside') (level both_cont) expr_nodes []
  good_both = good_wider both_cont (good_joined (infix_operator symbols.And op2s.And (λ p l r. refl)) (good_operator symbols.And op2s.And) good_rel refl refl refl refl refl) refl

  pub good_expr_over : Good (expr_over inside) (expr_over inside') expr_shape expr_nodes []
  good_expr_over = good_wider expr_cont (good_joined (infix_operator symbols.Or op2s.Or (λ p l r. refl)) (good_operator symbols.Or op2s.Or) good_both refl refl refl refl refl) refl

good_never_itself : Good never never expr_shape expr_nodes []
good_never_itself = never_good never expr_shape expr_nodes [] (sound_never expr_shape expr_nodes [])

-- of one depth
good_depth : (n : ℕ) → Good (expr_within n) (expr_within n) expr_shape expr_nodes []
good_depth zero = good_expr_over good_never_itself
good_depth (suc n) = good_expr_over (good_depth n)

-- of two depths
pub good_within : (m n : ℕ) → Good (expr_within m) (expr_within n) expr_shape expr_nodes []
good_within zero zero = good_depth zero
good_within zero (suc n) = good_expr_over (never_good (expr_within n) expr_shape expr_nodes [] (good_depth n).sound_one)
good_within (suc m) zero = good_expr_over (good_never (expr_within m) expr_shape expr_nodes [] (good_depth m).sound_one)
good_within (suc m) (suc n) = good_expr_over (good_within m n)

pub good_expr : Good expr expr expr_shape expr_nodes []
good_expr = good_any expr_within expr_within expr_shape expr_nodes [] good_within
