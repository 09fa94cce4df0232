-- An expression of some depth is one over expressions of some depth, and so are statements.
use Rattle.std.proofs.Common.{ℕ, zero, suc, ◌+◌, ◌≤◌, List, [], ◌∷◌, inl, inr, arith}
use Rattle.kern_token.specs.declared.token.Symbol.TheVariants as symbols
use Rattle.kern_token.specs.declared.token.Token.{Token}
use Rattle.kern_token.specs.declared.token.Word.{Word}
use Rattle.kern_token.specs.declared.token.Word.TheVariants as words
use Rattle.kern_tree.specs.declared.expr.Expr.{Expr}
use Rattle.kern_tree.specs.declared.expr.Form.{Form}
use Rattle.kern_tree.specs.declared.expr.Form.TheVariants as forms
use Rattle.kern_tree.specs.declared.expr.Op1.TheVariants as op1s
use Rattle.kern_tree.specs.declared.expr.Op2.{Op2}
use Rattle.kern_tree.specs.declared.expr.Op2.TheVariants as op2s
use Rattle.kern_tree.specs.declared.expr.Op3.TheVariants as op3s
use Rattle.kern_tree.specs.declared.stmt.Stmt.{Stmt}
use Rattle.kern_tree.specs.Grammar.{operator, two, joined_from_left, literal, variable, bracketed, call1, call2, call3, to_call, call, prim, post, unary, prod, sum, relation, rel, both, expr_over, expr_within, expr, assignment, block, stmt_over, stmt_within, stmt}
use Rattle.kern_tree.specs.Rules.{Rule, At, ◌>>=◌, ◌>>◌, ◌or◌, pure, many, symbol, word, number}

-- what the rule reads, all of the rules read from one of them on
abbrev pub Bounded : {A : Type 0} → Rule A → (ℕ → Rule A) → Type 0
Bounded {A} rule rules = (tokens : List Token) (value : A) (rest : List Token) → rule tokens value rest → (n : ℕ) × ((m : ℕ) → n ≤ m → rules m tokens value rest)

-- what the one rule reads, the other does
abbrev pub Within : {A : Type 0} → Rule A → Rule A → Type 0
Within {A} one two = (tokens : List Token) (value : A) (rest : List Token) → one tokens value rest → two tokens value rest

pub bounded_same : {A : Type 0} (rule : Rule A) → Bounded rule (λ n. rule)
bounded_same rule tokens value rest h = (0, λ m l. h)

pub bounded_within : {A : Type 0} {one two : Rule A} → Within one two → Bounded one (λ n. two)
bounded_within f tokens value rest h = (0, λ m l. f tokens value rest h)

within_bounded : {A : Type 0} {one two : Rule A} → Bounded one (λ n. two) → Within one two
within_bounded f tokens value rest h = let found = f tokens value rest h in found.1 found.0 (let same : found.0 ≤ found.0 = omega arith in same)

pub bounded_then : {A B : Type 0} {first : Rule A} {firsts : ℕ → Rule A} {next : A → Rule B} {nexts : ℕ → A → Rule B} → Bounded first firsts → ((a : A) → Bounded (next a) (λ n. nexts n a)) → Bounded (first >>= next) (λ n. firsts n >>= nexts n)
bounded_then f g tokens value rest h =
    let one = f tokens h.0 h.1 h.2 in
    let two = g h.0 h.1 value rest h.3 in
    (one.0 + two.0, λ m l. (h.0, h.1, one.1 m (omega (arith, l)), two.1 m (omega (arith, l))))

pub bounded_or : {A : Type 0} {left right : Rule A} {lefts rights : ℕ → Rule A} → Bounded left lefts → Bounded right rights → Bounded (left or right) (λ n. lefts n or rights n)
bounded_or f g tokens value rest (inl h) = let found = f tokens value rest h in (found.0, λ m l. inl (found.1 m l))
bounded_or f g tokens value rest (inr h) = let found = g tokens value rest h in (found.0, λ m l. inr (found.1 m l))

pub bounded_many : {A : Type 0} {rule : Rule A} {rules : ℕ → Rule A} → Bounded rule rules → Bounded (many rule) (λ n. many (rules n))
bounded_many f tokens [] rest h = (0, λ m l. h)
bounded_many f tokens (value ∷ values) rest h =
    let one = f tokens value h.0 h.1 in
    let more = bounded_many f h.0 values rest h.2 in
    (one.0 + more.0, λ m l. (h.0, one.1 m (omega (arith, l)), more.1 m (omega (arith, l))))

bounded_joined : (operators : Rule (At Op2)) {operand : Rule Expr} {operands : ℕ → Rule Expr} → Bounded operand operands → Bounded (joined_from_left operators operand) (λ n. joined_from_left operators (operands n))
bounded_joined operators b =
    bounded_then b (λ first.
    bounded_then (bounded_many (bounded_then (bounded_same operators) (λ op.
    bounded_then b (λ right.
    bounded_same (pure (op, right)))))) (λ more.
    bounded_same (pure _)))

module _ {inside : Rule Expr} {insides : ℕ → Rule Expr} (b : Bounded inside insides) where
  bounded_bracketed : Bounded (bracketed inside) (λ n. bracketed (insides n))
  bounded_bracketed =
      bounded_then (bounded_same (symbol symbols.OpenRound)) (λ p.
      bounded_then b (λ e.
      bounded_same (symbol symbols.CloseRound >> pure e)))

  bounded_call1 : (spelled : Word) (form : Expr → Form) → Bounded (call1 inside spelled form) (λ n. call1 (insides n) spelled form)
  bounded_call1 spelled form =
      bounded_then (bounded_same (word spelled)) (λ place.
      bounded_then (bounded_same (symbol symbols.OpenRound)) (λ p.
      bounded_then b (λ e.
      bounded_same _)))

  bounded_call2 : (spelled : Word) (form : Expr → Expr → Form) → Bounded (call2 inside spelled form) (λ n. call2 (insides n) spelled form)
  bounded_call2 spelled form =
      bounded_then (bounded_same (word spelled)) (λ place.
      bounded_then (bounded_same (symbol symbols.OpenRound)) (λ p.
      bounded_then b (λ e.
      bounded_then (bounded_same (symbol symbols.Comma)) (λ q.
      bounded_then b (λ f.
      bounded_same _)))))

  bounded_call3 : (spelled : Word) (form : Expr → Expr → Expr → Form) → Bounded (call3 inside spelled form) (λ n. call3 (insides n) spelled form)
  bounded_call3 spelled form =
      bounded_then (bounded_same (word spelled)) (λ place.
      bounded_then (bounded_same (symbol symbols.OpenRound)) (λ p.
      bounded_then b (λ e.
      bounded_then (bounded_same (symbol symbols.Comma)) (λ q.
      bounded_then b (λ f.
      bounded_then (bounded_same (symbol symbols.Comma)) (λ r.
      bounded_then b (λ g.
      bounded_same _)))))))

  bounded_to_call : Bounded (to_call inside) (λ n. to_call (insides n))
  bounded_to_call =
      bounded_then (bounded_same (word words.To)) (λ place.
      bounded_then (bounded_same (symbol symbols.OpenRound)) (λ p.
      bounded_then (bounded_same number) (λ bits.
      bounded_then (bounded_same (symbol symbols.Comma)) (λ q.
      bounded_then b (λ a.
      bounded_same _)))))

  bounded_call : Bounded (call inside) (λ n. call (insides n))
  bounded_call = bounded_or (bounded_or (bounded_or (bounded_or (bounded_or (bounded_or (bounded_call1 words.Isqrt (forms.One op1s.Isqrt)) (bounded_call1 words.Abs (forms.One op1s.Abs))) bounded_to_call) (bounded_call2 words.Min (forms.Two op2s.Least))) (bounded_call2 words.Max (forms.Two op2s.Most))) (bounded_call3 words.Muldiv (forms.Three op3s.Muldiv))) (bounded_call3 words.Vec (forms.Three op3s.Build))

  bounded_prim : Bounded (prim inside) (λ n. prim (insides n))
  bounded_prim = bounded_or (bounded_or (bounded_or (bounded_same literal) (bounded_same variable)) bounded_bracketed) bounded_call

  bounded_post : Bounded (post inside) (λ n. post (insides n))
  bounded_post = bounded_then bounded_prim (λ whole. bounded_same _)

  bounded_unary : Bounded (unary inside) (λ n. unary (insides n))
  bounded_unary =
      bounded_or bounded_post (bounded_then (bounded_same (operator symbols.Minus op1s.Neg or operator symbols.Not op1s.Not)) (λ op.
      bounded_then bounded_post (λ operand.
      bounded_same _)))

  bounded_prod : Bounded (prod inside) (λ n. prod (insides n))
  bounded_prod = bounded_joined _ bounded_unary

  bounded_sum : Bounded (sum inside) (λ n. sum (insides n))
  bounded_sum = bounded_joined _ bounded_prod

  bounded_rel : Bounded (rel inside) (λ n. rel (insides n))
  bounded_rel =
      bounded_then bounded_sum (λ left.
      bounded_or (bounded_same (pure left)) (bounded_then (bounded_same (relation inside)) (λ op.
      bounded_then bounded_sum (λ right.
      bounded_same (pure (two left (op, right)))))))

  bounded_both : Bounded (both inside) (λ n. both (insides n))
  bounded_both = bounded_joined _ bounded_rel

  pub bounded_expr_over : Bounded (expr_over inside) (λ n. expr_over (insides n))
  bounded_expr_over = bounded_joined _ bounded_both

pub expr_over-within : {inside inside' : Rule Expr} → Within inside inside' → Within (expr_over inside) (expr_over inside')
expr_over-within w = within_bounded (bounded_expr_over (bounded_within w))

-- a deeper bound reads no less
pub expr_deeper : (m n : ℕ) → m ≤ n → Within (expr_within m) (expr_within n)
expr_deeper zero zero l = λ tokens value rest h. h
expr_deeper zero (suc n) l = expr_over-within (λ tokens value rest h. absurd h)
expr_deeper (suc m) zero l = absurd (let no : ⊥ = omega (arith, l) in no)
expr_deeper (suc m) (suc n) l = expr_over-within (expr_deeper m n (omega (arith, l)))

bounded_expr : Bounded expr expr_within
bounded_expr tokens value rest h = (h.0, λ m l. expr_deeper h.0 m l tokens value rest h.1)

pub expr_from_over : Within (expr_over expr) expr
expr_from_over tokens value rest h =
    let found = bounded_expr_over bounded_expr tokens value rest h in
    (suc found.0, found.1 found.0 (let same : found.0 ≤ found.0 = omega arith in same))

depth_to_over : (n : ℕ) → Within (expr_within n) (expr_over expr)
depth_to_over zero = expr_over-within (λ tokens value rest h. absurd h)
depth_to_over (suc n) = expr_over-within (λ tokens value rest h. (n, h))

pub expr_to_over : Within expr (expr_over expr)
expr_to_over tokens value rest h = depth_to_over h.0 tokens value rest h.1

-- ---- statements

module _ {inside : Rule Stmt} {insides : ℕ → Rule Stmt} (b : Bounded inside insides) where
  bounded_block : Bounded (block inside) (λ n. block (insides n))
  bounded_block = bounded_then (bounded_same (symbol symbols.OpenCurly)) (λ p. bounded_then (bounded_many b) (λ body. bounded_same _))

  pub bounded_stmt_over : Bounded (stmt_over inside) (λ n. stmt_over (insides n))
  bounded_stmt_over =
      bounded_or (bounded_same assignment) (bounded_then (bounded_same (word words.If)) (λ place.
      bounded_then (bounded_same expr) (λ condition.
      bounded_then bounded_block (λ body.
      bounded_then (bounded_or (bounded_then (bounded_same (word words.Else)) (λ p.
      bounded_block)) (bounded_same (pure []))) (λ others.
      bounded_same _)))))

pub stmt_over-within : {inside inside' : Rule Stmt} → Within inside inside' → Within (stmt_over inside) (stmt_over inside')
stmt_over-within w = within_bounded (bounded_stmt_over (bounded_within w))

pub stmt_deeper : (m n : ℕ) → m ≤ n → Within (stmt_within m) (stmt_within n)
stmt_deeper zero zero l = λ tokens value rest h. h
stmt_deeper zero (suc n) l = stmt_over-within (λ tokens value rest h. absurd h)
stmt_deeper (suc m) zero l = absurd (let no : ⊥ = omega (arith, l) in no)
stmt_deeper (suc m) (suc n) l = stmt_over-within (stmt_deeper m n (omega (arith, l)))

bounded_stmt : Bounded stmt stmt_within
bounded_stmt tokens value rest h = (h.0, λ m l. stmt_deeper h.0 m l tokens value rest h.1)

pub stmt_from_over : Within (stmt_over stmt) stmt
stmt_from_over tokens value rest h =
    let found = bounded_stmt_over bounded_stmt tokens value rest h in
    (suc found.0, found.1 found.0 (let same : found.0 ≤ found.0 = omega arith in same))

stmt_depth_to_over : (n : ℕ) → Within (stmt_within n) (stmt_over stmt)
stmt_depth_to_over zero = stmt_over-within (λ tokens value rest h. absurd h)
stmt_depth_to_over (suc n) = stmt_over-within (λ tokens value rest h. (n, h))

pub stmt_to_over : Within stmt (stmt_over stmt)
stmt_to_over tokens value rest h = stmt_depth_to_over h.0 tokens value rest h.1
