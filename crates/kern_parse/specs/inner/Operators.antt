-- Which operators and calls the tokens tell.
use Rattle.std.specs.Prelude.{Option, Some, None}
use Rattle.kern_token.specs.declared.token.Symbol.{Symbol}
use Rattle.kern_token.specs.declared.token.Symbol.TheVariants as symbols
use Rattle.kern_token.specs.declared.token.TokenKind.{TokenKind}
use Rattle.kern_token.specs.declared.token.TokenKind.TheVariants as kinds
use Rattle.kern_token.specs.declared.token.Word.{Word}
use Rattle.kern_token.specs.declared.token.Word.TheVariants as words
use Rattle.kern_tree.specs.declared.expr.Op1.{Op1}
use Rattle.kern_tree.specs.declared.expr.Op1.TheVariants as op1s
use Rattle.kern_tree.specs.declared.expr.Op2.{Op2}
use Rattle.kern_tree.specs.declared.expr.Op2.TheVariants as op2s
use Rattle.kern_tree.specs.declared.expr.Op3.TheVariants as op3s
use Rattle.kern_parse.specs.declared.operators.Call.{Call}
use Rattle.kern_parse.specs.declared.operators.Call.TheVariants as calls
use Rattle.kern_parse.specs.declared.operators.Level.{Level}
use Rattle.kern_parse.specs.declared.operators.Level.TheVariants as levels

abbrev pub binary_symbol : Level → Symbol → Option Op2
binary_symbol levels.Or symbols.Or = Some op2s.Or
binary_symbol levels.And symbols.And = Some op2s.And
binary_symbol levels.Sum symbols.Plus = Some op2s.Add
binary_symbol levels.Sum symbols.Minus = Some op2s.Sub
binary_symbol levels.Product symbols.Star = Some op2s.Mul
binary_symbol levels.Product symbols.Slash = Some op2s.Div
binary_symbol _ _ = None

abbrev pub binary_of : Level → Option TokenKind → Option Op2
binary_of level (Some (kinds.Symbol symbol)) = binary_symbol level symbol
binary_of level _ = None

abbrev pub relation_symbol : Symbol → Option Op2
relation_symbol symbols.Lt = Some op2s.Lt
relation_symbol symbols.Le = Some op2s.Le
relation_symbol symbols.Gt = Some op2s.Gt
relation_symbol symbols.Ge = Some op2s.Ge
relation_symbol symbols.Eq = Some op2s.Eq
relation_symbol symbols.Ne = Some op2s.Ne
relation_symbol _ = None

abbrev pub relation_of : Option TokenKind → Option Op2
relation_of (Some (kinds.Symbol symbol)) = relation_symbol symbol
relation_of _ = None

abbrev pub prefix_symbol : Symbol → Option Op1
prefix_symbol symbols.Minus = Some op1s.Neg
prefix_symbol symbols.Not = Some op1s.Not
prefix_symbol _ = None

abbrev pub prefix_of : Option TokenKind → Option Op1
prefix_of (Some (kinds.Symbol symbol)) = prefix_symbol symbol
prefix_of _ = None

abbrev pub call_of : Word → Option Call
call_of words.Isqrt = Some (calls.One op1s.Isqrt)
call_of words.Abs = Some (calls.One op1s.Abs)
call_of words.Min = Some (calls.Two op2s.Least)
call_of words.Max = Some (calls.Two op2s.Most)
call_of words.Muldiv = Some (calls.Three op3s.Muldiv)
call_of words.Vec = Some (calls.Three op3s.Build)
call_of words.To = Some calls.To
call_of _ = None
