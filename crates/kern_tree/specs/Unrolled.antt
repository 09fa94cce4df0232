-- The grammar of expressions and statements without a bound on how deep brackets and blocks stand.
use Rattle.std.specs.Prelude.{List}
use Rattle.kern_token.specs.declared.token.Token.{Token}
use Rattle.kern_tree.specs.Grammar.{expr, expr_over, stmt, stmt_over}
use Rattle.kern_tree.specs.Nodes.{NodesByForm}
use Rattle.kern_tree.specs.Rules.{Rule}

-- the two rules read the same
pub record ReadAlike {A : Type 0} (one other : Rule A) : Type 0 where
  pub onward : (tokens : List Token) (value : A) (rest : List Token) → one tokens value rest → other tokens value rest
  pub back : (tokens : List Token) (value : A) (rest : List Token) → other tokens value rest → one tokens value rest

-- an expression is what the rules make of expressions
abbrev pub ExpressionsUnroll : Type 0
ExpressionsUnroll = ReadAlike expr (expr_over expr)

-- and so is a statement of statements
abbrev pub StatementsUnroll : Type 0
StatementsUnroll = ReadAlike stmt (stmt_over stmt)

-- how trees are read and counted, by what they are made of
pub record TreesByForm : Type 0 where
  pub nodes : NodesByForm
  pub expressions : ExpressionsUnroll
  pub statements : StatementsUnroll
