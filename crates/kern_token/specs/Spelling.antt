-- How words and symbols are spelled.
use Rattle.std.specs.Prelude.{ℕ, List, codes}
use Rattle.kern_token.specs.declared.token.Word.{Word}
use Rattle.kern_token.specs.declared.token.Word.TheVariants as words
use Rattle.kern_token.specs.declared.token.Symbol.{Symbol}
use Rattle.kern_token.specs.declared.token.Symbol.TheVariants as symbols

abbrev pub word_text : Word → List ℕ
word_text words.Epi = codes "EPI"
word_text words.Epj = codes "EPJ"
word_text words.Force = codes "FORCE"
word_text words.Param = codes "PARAM"
word_text words.Num = codes "num"
word_text words.Vec = codes "vec"
word_text words.Sum = codes "sum"
word_text words.Max = codes "max"
word_text words.Min = codes "min"
word_text words.If = codes "if"
word_text words.Else = codes "else"
word_text words.To = codes "to"
word_text words.Muldiv = codes "muldiv"
word_text words.Isqrt = codes "isqrt"
word_text words.Abs = codes "abs"

abbrev pub symbol_text : Symbol → List ℕ
symbol_text symbols.Plus = codes "+"
symbol_text symbols.Minus = codes "-"
symbol_text symbols.Star = codes "*"
symbol_text symbols.Slash = codes "/"
symbol_text symbols.OpenRound = codes "("
symbol_text symbols.CloseRound = codes ")"
symbol_text symbols.OpenCurly = codes "{"
symbol_text symbols.CloseCurly = codes "}"
symbol_text symbols.Comma = codes ","
symbol_text symbols.Semicolon = codes ";"
symbol_text symbols.Colon = codes ":"
symbol_text symbols.Dot = codes "."
symbol_text symbols.Assign = codes "="
symbol_text symbols.Add = codes "+="
symbol_text symbols.Lt = codes "<"
symbol_text symbols.Le = codes "<="
symbol_text symbols.Gt = codes ">"
symbol_text symbols.Ge = codes ">="
symbol_text symbols.Eq = codes "=="
symbol_text symbols.Ne = codes "!="
symbol_text symbols.And = codes "&&"
symbol_text symbols.Or = codes "||"
symbol_text symbols.Not = codes "!"
