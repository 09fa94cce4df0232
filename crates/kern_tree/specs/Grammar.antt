-- The grammar of the kernel language. Each rule is a line of the grammar, and says what tree its
-- tokens make. Brackets make no part of the tree.
use Rattle.std.specs.Prelude.{ℕ, zero, suc, ◌^◌, ℤ, pos, neg_ℤ, List, [], cond, nat_lt, codes, fold}
use Rattle.kern_token.specs.declared.token.Symbol.{Symbol}
use Rattle.kern_token.specs.declared.token.Symbol.TheVariants as symbols
use Rattle.kern_token.specs.declared.token.Token.{Token}
use Rattle.kern_token.specs.declared.token.TokenKind.TheVariants as kinds
use Rattle.kern_token.specs.declared.token.Word.{Word}
use Rattle.kern_token.specs.declared.token.Word.TheVariants as words
use Rattle.kern_tree.specs.declared.expr.Expr.{Expr, roll-Expr}
use Rattle.kern_tree.specs.declared.expr.Form.{Form}
use Rattle.kern_tree.specs.declared.expr.Form.TheVariants as forms
use Rattle.kern_tree.specs.declared.expr.Op1.TheVariants as op1s
use Rattle.kern_tree.specs.declared.expr.Op2.{Op2}
use Rattle.kern_tree.specs.declared.expr.Op2.TheVariants as op2s
use Rattle.kern_tree.specs.declared.expr.Op3.TheVariants as op3s
use Rattle.kern_tree.specs.declared.kernel.Combine.{Combine}
use Rattle.kern_tree.specs.declared.kernel.Combine.TheVariants as combines
use Rattle.kern_tree.specs.declared.kernel.Decl.{Decl}
use Rattle.kern_tree.specs.declared.kernel.DeclKind.{DeclKind}
use Rattle.kern_tree.specs.declared.kernel.DeclKind.TheVariants as declared_as
use Rattle.kern_tree.specs.declared.kernel.Kernel.{Kernel}
use Rattle.kern_tree.specs.declared.kernel.Kind.{Kind}
use Rattle.kern_tree.specs.declared.kernel.Kind.TheVariants as kinds_of
use Rattle.kern_tree.specs.declared.stmt.Act.{Act}
use Rattle.kern_tree.specs.declared.stmt.Act.TheVariants as acts
use Rattle.kern_tree.specs.declared.stmt.Stmt.{Stmt, roll-Stmt}
use Rattle.pf_geom.specs.declared.axis.Axis.{Axis}
use Rattle.pf_geom.specs.declared.axis.Axis.TheVariants as axes
use Rattle.kern_tree.specs.Rules.{Rule, At, ◌>>=◌, ◌>>◌, ◌or◌, pure, many, any, never, token, symbol, word, name}
use Rattle.kern_tree.specs.Rules.{number, scale}

-- ---- declarations

abbrev pub kind : Rule Kind
kind = (word words.Num >> pure kinds_of.Num) or (word words.Vec >> pure kinds_of.Vec3)

abbrev pub combine : Rule Combine
combine =
    (word words.Sum >> pure combines.Sum) or (word words.Max >> pure combines.Max)
    or (word words.Min >> pure combines.Min)

abbrev pub decl_node : ℕ → List ℕ → DeclKind → Decl
decl_node place called what = record { place = place; name = called; what = what }

-- EPI kind scale NAME : NAME ;
abbrev pub field_of : Word → (Kind → ℕ → List ℕ → DeclKind) → Rule Decl
field_of spelled what = do
  place ← word spelled
  of_kind ← kind
  bits ← scale
  called ← name
  symbol symbols.Colon
  field ← name
  symbol symbols.Semicolon
  pure (decl_node place called.held (what of_kind bits.held field.held))

-- FORCE kind scale NAME combine ;
abbrev pub force : Rule Decl
force = do
  place ← word words.Force
  of_kind ← kind
  bits ← scale
  called ← name
  combined ← combine
  symbol symbols.Semicolon
  pure (decl_node place called.held (declared_as.Force of_kind bits.held combined))

-- [ - ] NUMBER
abbrev pub signed : Rule ℤ
signed = (do
  digits ← number
  pure (pos digits.held)) or (do
    symbol symbols.Minus
    digits ← number
    pure (neg_ℤ (pos digits.held)))

-- PARAM scale NAME = [ - ] NUMBER ;
abbrev pub param : Rule Decl
param = do
  place ← word words.Param
  bits ← scale
  called ← name
  symbol symbols.Assign
  value ← signed
  symbol symbols.Semicolon
  pure (decl_node place called.held (declared_as.Param bits.held value))

abbrev pub decl : Rule Decl
decl = field_of words.Epi declared_as.Epi or field_of words.Epj declared_as.Epj or force or param

-- ---- expressions

abbrev pub node : ℕ → Form → Expr
node place form = roll-Expr (record { place = place; form = form })

abbrev pub axis_letter : Axis → List ℕ
axis_letter axes.X = codes "x"
axis_letter axes.Y = codes "y"
axis_letter axes.Z = codes "z"

abbrev pub axis : Rule Axis
axis tokens along rest = (place : ℕ) × token (kinds.Name (axis_letter along)) tokens place rest

-- an operator of these, with its place
abbrev pub operator : {A : Type 0} → Symbol → A → Rule (At A)
operator spelled op = do
  place ← symbol spelled
  pure (record { place = place; held = op })

abbrev pub two : Expr → At Op2 × Expr → Expr
two left more = node (more.0).place (forms.Two (more.0).held left more.1)

-- operand { operator operand }, grouped from the left
abbrev pub joined_from_left : Rule (At Op2) → Rule Expr → Rule Expr
joined_from_left operators operand = do
  first ← operand
  more ← many (do
    op ← operators
    right ← operand
    pure (op, right))
  pure (fold two first more)

-- A number as the scale of `to`. Those past a u32 are read as 63.
abbrev pub to_scale : ℕ → ℕ
to_scale n = cond (nat_lt n (2 ^ 32)) n 63

-- NUMBER [ scale ]
abbrev pub literal : Rule Expr
literal = do
  digits ← number
  bits ← (do
    written ← scale
    pure written.held) or pure 0
  pure (node digits.place (forms.Number digits.held bits))

abbrev pub variable : Rule Expr
variable = do
  called ← name
  pure (node called.place (forms.Name called.held))

abbrev pub component : Rule (At Axis)
component = do
  place ← symbol symbols.Dot
  along ← axis
  pure (record { place = place; held = along })

abbrev pub part : Expr → At Axis → Expr
part whole of = node of.place (forms.Part whole of.held)

-- The rules over what may stand in brackets.
module _ (inside : Rule Expr) where
  -- ( expr )
  abbrev pub bracketed : Rule Expr
  bracketed = do
    symbol symbols.OpenRound
    e ← inside
    symbol symbols.CloseRound
    pure e

  -- word ( expr )
  abbrev pub call1 : Word → (Expr → Form) → Rule Expr
  call1 spelled form = do
    place ← word spelled
    symbol symbols.OpenRound
    a ← inside
    symbol symbols.CloseRound
    pure (node place (form a))

  -- word ( expr , expr )
  abbrev pub call2 : Word → (Expr → Expr → Form) → Rule Expr
  call2 spelled form = do
    place ← word spelled
    symbol symbols.OpenRound
    a ← inside
    symbol symbols.Comma
    b ← inside
    symbol symbols.CloseRound
    pure (node place (form a b))

  -- word ( expr , expr , expr )
  abbrev pub call3 : Word → (Expr → Expr → Expr → Form) → Rule Expr
  call3 spelled form = do
    place ← word spelled
    symbol symbols.OpenRound
    a ← inside
    symbol symbols.Comma
    b ← inside
    symbol symbols.Comma
    c ← inside
    symbol symbols.CloseRound
    pure (node place (form a b c))

  -- to ( NUMBER , expr )
  abbrev pub to_call : Rule Expr
  to_call = do
    place ← word words.To
    symbol symbols.OpenRound
    bits ← number
    symbol symbols.Comma
    a ← inside
    symbol symbols.CloseRound
    pure (node place (forms.To (to_scale bits.held) a))

  abbrev pub call : Rule Expr
  call =
      call1 words.Isqrt (forms.One op1s.Isqrt) or call1 words.Abs (forms.One op1s.Abs) or to_call
      or call2 words.Min (forms.Two op2s.Least) or call2 words.Max (forms.Two op2s.Most)
      or call3 words.Muldiv (forms.Three op3s.Muldiv) or call3 words.Vec (forms.Three op3s.Build)

  abbrev pub prim : Rule Expr
  prim = literal or variable or bracketed or call

  -- prim { . axis }
  abbrev pub post : Rule Expr
  post = do
    whole ← prim
    parts ← many component
    pure (fold part whole parts)

  -- [ - | ! ] post
  abbrev pub unary : Rule Expr
  unary = post or (do
    op ← operator symbols.Minus op1s.Neg or operator symbols.Not op1s.Not
    operand ← post
    pure (node op.place (forms.One op.held operand)))

  abbrev pub prod : Rule Expr
  prod = joined_from_left (operator symbols.Star op2s.Mul or operator symbols.Slash op2s.Div) unary

  abbrev pub sum : Rule Expr
  sum = joined_from_left (operator symbols.Plus op2s.Add or operator symbols.Minus op2s.Sub) prod

  abbrev pub relation : Rule (At Op2)
  relation =
      operator symbols.Lt op2s.Lt or operator symbols.Le op2s.Le or operator symbols.Gt op2s.Gt
      or operator symbols.Ge op2s.Ge or operator symbols.Eq op2s.Eq or operator symbols.Ne op2s.Ne

  -- sum [ relation sum ]
  abbrev pub rel : Rule Expr
  rel = do
    left ← sum
    pure left or (do
      op ← relation
      right ← sum
      pure (two left (op, right)))

  abbrev pub both : Rule Expr
  both = joined_from_left (operator symbols.And op2s.And) rel

  abbrev pub expr_over : Rule Expr
  expr_over = joined_from_left (operator symbols.Or op2s.Or) both

-- expressions in which brackets stand at most so many deep
abbrev pub expr_within : ℕ → Rule Expr
expr_within zero = expr_over never
expr_within (suc n) = expr_over (expr_within n)

abbrev pub expr : Rule Expr
expr = any expr_within

-- ---- statements

abbrev pub stmt_node : ℕ → Act → Stmt
stmt_node place act = roll-Stmt (record { place = place; act = act })

-- NAME = expr ; and NAME += expr ;
abbrev pub assignment : Rule Stmt
assignment = do
  target ← name
  act ← (symbol symbols.Assign >> pure acts.Set) or (symbol symbols.Add >> pure acts.Give)
  value ← expr
  symbol symbols.Semicolon
  pure (stmt_node target.place (act target.held value))

-- The rules over what may stand in a block.
module _ (inside : Rule Stmt) where
  -- { statements }
  abbrev pub block : Rule (List Stmt)
  block = do
    symbol symbols.OpenCurly
    body ← many inside
    symbol symbols.CloseCurly
    pure body

  -- if expr block [ else block ]
  abbrev pub conditional : Rule Stmt
  conditional = do
    place ← word words.If
    condition ← expr
    body ← block
    others ← (word words.Else >> block) or pure []
    pure (stmt_node place (acts.If condition body others))

  abbrev pub stmt_over : Rule Stmt
  stmt_over = assignment or conditional

-- statements in which statements stand in at most so many blocks
abbrev pub stmt_within : ℕ → Rule Stmt
stmt_within zero = stmt_over never
stmt_within (suc n) = stmt_over (stmt_within n)

abbrev pub stmt : Rule Stmt
stmt = any stmt_within

-- ---- kernels

abbrev pub kernel : Rule Kernel
kernel = do
  decls ← many decl
  body ← many stmt
  pure (record { decls = decls; body = body })

-- the tokens, all of them, spell this kernel
abbrev pub SpellsKernel : List Token → Kernel → Type 0
SpellsKernel tokens spelled = kernel tokens spelled []
