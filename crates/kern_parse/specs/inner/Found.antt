-- What a part of the grammar was read as.
use Rattle.std.specs.Prelude.{◌≡◌, ℕ, zero, suc, ◌-◌, ◌≤◌, List, [], ◌∷◌, length, fold, Option, Some}
use Rattle.kern_token.specs.declared.token.Symbol.TheVariants as symbols
use Rattle.kern_token.specs.declared.token.Token.{Token}
use Rattle.kern_token.specs.declared.token.TokenKind.{TokenKind}
use Rattle.kern_token.specs.declared.token.TokenKind.TheVariants as kinds
use Rattle.kern_token.specs.declared.token.Word.{Word}
use Rattle.kern_tree.specs.declared.expr.Expr.{Expr}
use Rattle.kern_tree.specs.declared.expr.Form.TheVariants as forms
use Rattle.kern_tree.specs.declared.expr.Op2.{Op2}
use Rattle.kern_tree.specs.declared.expr.Op2.TheVariants as op2s
use Rattle.kern_tree.specs.declared.limits.TheConstants.{MOST_OPEN}
use Rattle.kern_tree.specs.FirstFault.{brackets_after}
use Rattle.kern_tree.specs.Grammar.{node, two, part, component, operator, to_scale, bracketed, prim, post, unary, prod}
use Rattle.kern_tree.specs.Grammar.{sum, rel, both, expr_over, expr_within}
use Rattle.kern_tree.specs.Rules.{Rule, At, ◌>>=◌, ◌>>◌, ◌or◌, pure, many, never, token, symbol, number, scale}
use Rattle.pf_geom.specs.declared.axis.Axis.{Axis}
use Rattle.kern_parse.specs.declared.operators.Call.{Call}
use Rattle.kern_parse.specs.declared.operators.Call.TheVariants as calls
use Rattle.kern_parse.specs.declared.operators.Level.{Level}
use Rattle.kern_parse.specs.declared.operators.Level.TheVariants as levels
use Rattle.kern_parse.specs.inner.Leading.{Leads}
use Rattle.kern_parse.specs.inner.Operators.{call_of}
use Rattle.kern_parse.specs.inner.Reading.{Reading}
use Rattle.kern_parse.specs.Required.{Part, operand, one_argument, two_arguments, three_arguments, rescale_arguments}

-- what stands in brackets, where so many more may be opened
abbrev pub inside : ℕ → Rule Expr
inside zero = never
inside (suc n) = expr_within n

abbrev pub level_rule : Level → Rule Expr → Rule Expr
level_rule levels.Or = expr_over
level_rule levels.And = both
level_rule levels.Sum = sum
level_rule levels.Product = prod

abbrev pub rule_of : Part → Rule Expr → Rule Expr
rule_of (Part.Chain level) within = level_rule level within
rule_of Part.Rel within = rel within
rule_of Part.Unary within = unary within
rule_of Part.Post within = post within
rule_of Part.Prim within = prim within
rule_of _ within = never

-- a token of this kind was read for the part, and nothing more
pub record ReadsToken (of : Part) (kind : TokenKind) (old new : Reading) : Type 0 where
  pub place : ℕ
  pub spelled : token kind old.rest place new.rest
  pub leads : Leads (of ∷ []) old [] new
  pub depth : new.depth ≡ brackets_after old.depth kind
  pub shallow : new.depth ≤ MOST_OPEN

-- what the rule spells was read for the parts, and nothing more
pub record ReadsRule {A : Type 0} (rule : Rule A) (parts : List Part) (old : Reading) (value : A) (new : Reading)
    : Type 0 where
  pub spelled : rule old.rest value new.rest
  pub leads : Leads parts old [] new
  pub depth : new.depth ≡ old.depth
  pub shorter : length new.rest ≤ length old.rest

-- the part of an expression was read, and nothing more
pub record ReadsExpr (of : Part) (old : Reading) (expr : Expr) (new : Reading) : Type 0 where
  pub reads : ReadsRule (rule_of of (inside (MOST_OPEN - old.depth))) (of ∷ []) old expr new

-- the operators of a level
abbrev pub operators : Level → Rule (At Op2)
operators levels.Or = operator symbols.Or op2s.Or
operators levels.And = operator symbols.And op2s.And
operators levels.Sum = operator symbols.Plus op2s.Add or operator symbols.Minus op2s.Sub
operators levels.Product = operator symbols.Star op2s.Mul or operator symbols.Slash op2s.Div

-- an operator of the level, and the operand after it
abbrev pub next_of : Level → Rule Expr → Rule (At Op2 × Expr)
next_of level within = do
  op ← operators level
  right ← rule_of (operand level) within
  pure (op, right)

-- operands of the level were read, and an operator and another may follow
pub record Joins (level : Level) (old : Reading) (left : Expr) (now : Reading) : Type 0 where
  pub first : Expr
  pub between : List Token
  pub more : List (At Op2 × Expr)
  pub first_is : rule_of (operand level) (inside (MOST_OPEN - old.depth)) old.rest first between
  pub more_are : many (next_of level (inside (MOST_OPEN - old.depth))) between more now.rest
  pub left_is : left ≡ fold two first more
  pub leads : Leads (Part.Chain level ∷ []) old (Part.More level ∷ []) now
  pub depth : now.depth ≡ old.depth
  pub shorter : length now.rest ≤ length old.rest

-- a primary expression and its components were read, and another may follow
pub record Picks (old : Reading) (expr : Expr) (now : Reading) : Type 0 where
  pub whole : Expr
  pub between : List Token
  pub parts : List (At Axis)
  pub whole_is : prim (inside (MOST_OPEN - old.depth)) old.rest whole between
  pub parts_are : many component between parts now.rest
  pub expr_is : expr ≡ fold part whole parts
  pub leads : Leads (Part.Post ∷ []) old (Part.MorePost ∷ []) now
  pub depth : now.depth ≡ old.depth
  pub shorter : length now.rest ≤ length old.rest

-- what stands after the word of a call
abbrev pub arguments : Call → List Part
arguments (calls.One op) = one_argument
arguments (calls.Two op) = two_arguments
arguments (calls.Three op) = three_arguments
arguments calls.To = rescale_arguments

-- the call whose word stands at this place, from its bracket on
abbrev pub after_word : Call → ℕ → Rule Expr → Rule Expr
after_word (calls.One op) place within = do
  symbol symbols.OpenRound
  a ← within
  symbol symbols.CloseRound
  pure (node place (forms.One op a))
after_word (calls.Two op) place within = do
  symbol symbols.OpenRound
  a ← within
  symbol symbols.Comma
  b ← within
  symbol symbols.CloseRound
  pure (node place (forms.Two op a b))
after_word (calls.Three op) place within = do
  symbol symbols.OpenRound
  a ← within
  symbol symbols.Comma
  b ← within
  symbol symbols.Comma
  c ← within
  symbol symbols.CloseRound
  pure (node place (forms.Three op a b c))
after_word calls.To place within = do
  symbol symbols.OpenRound
  bits ← number
  symbol symbols.Comma
  a ← within
  symbol symbols.CloseRound
  pure (node place (forms.To (to_scale bits.held) a))

-- the rest of a call was read, and nothing more
pub record ReadsCall (call : Call) (place : ℕ) (old : Reading) (expr : Expr) (new : Reading) : Type 0 where
  pub reads : ReadsRule (after_word call place (inside (MOST_OPEN - old.depth))) (arguments call) old expr new

-- an expression in brackets was read, and nothing more
pub record ReadsBracketed (old : Reading) (expr : Expr) (new : Reading) : Type 0 where
  pub reads : ReadsRule (bracketed (inside (MOST_OPEN - old.depth))) one_argument old expr new

-- the next token is a word of this call
pub record IsCalled (next : Option TokenKind) (call : Call) : Type 0 where
  pub word : Word
  pub next_is : next ≡ Some (kinds.Word word)
  pub call_is : call_of word ≡ Some call

-- the scale of a literal, where it has one
abbrev pub scale_if_any : Rule ℕ
scale_if_any = (do
  written ← scale
  pure written.held) or pure 0
