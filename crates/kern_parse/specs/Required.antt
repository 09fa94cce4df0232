-- What the grammar requires at a place of the text: parts, the first of which comes next. The next
-- token decides how the reading goes on.
use Rattle.std.specs.Prelude.{◌≡◌, ℕ, codes, List, [], ◌∷◌, ◌++◌, Bool, true, false, ◌&&◌, cond, Option, Some, None}
use Rattle.std.specs.Str.{bytes_eq}
use Rattle.pf_geom.specs.declared.axis.Axis.{Axis}
use Rattle.pf_geom.specs.declared.axis.Axis.TheVariants as axes
use Rattle.kern_token.specs.declared.token.Symbol.{Symbol}
use Rattle.kern_token.specs.declared.token.Symbol.TheVariants as symbols
use Rattle.kern_token.specs.declared.token.TokenKind.{TokenKind}
use Rattle.kern_token.specs.declared.token.TokenKind.TheVariants as kinds
use Rattle.kern_token.specs.declared.token.Word.{Word}
use Rattle.kern_token.specs.declared.token.Word.TheVariants as words
use Rattle.kern_parse.specs.declared.operators.Level.{Level}
use Rattle.kern_parse.specs.declared.operators.Level.TheVariants as levels

-- a part of the grammar; `More` and the like are what may follow what was read
pub data Part : Type 0 where
  Decls : Part
  Stmts : Part
  KindWord : Part
  CombineWord : Part
  Scale : Part
  Name : Part
  Signed : Part
  Number : Part
  Assign : Part
  Block : Part
  ElseBlock : Part
  Exactly : Symbol → Part
  Chain : Level → Part
  More : Level → Part
  Rel : Part
  MoreRel : Part
  Unary : Part
  Post : Part
  MorePost : Part
  Prim : Part
  ScaleIfAny : Part
  AxisName : Part

-- whether two symbols are one
abbrev pub same_symbol : Symbol → Symbol → Bool
same_symbol symbols.Plus symbols.Plus = true
same_symbol symbols.Minus symbols.Minus = true
same_symbol symbols.Star symbols.Star = true
same_symbol symbols.Slash symbols.Slash = true
same_symbol symbols.OpenRound symbols.OpenRound = true
same_symbol symbols.CloseRound symbols.CloseRound = true
same_symbol symbols.OpenCurly symbols.OpenCurly = true
same_symbol symbols.CloseCurly symbols.CloseCurly = true
same_symbol symbols.Comma symbols.Comma = true
same_symbol symbols.Semicolon symbols.Semicolon = true
same_symbol symbols.Colon symbols.Colon = true
same_symbol symbols.Dot symbols.Dot = true
same_symbol symbols.Assign symbols.Assign = true
same_symbol symbols.Add symbols.Add = true
same_symbol symbols.Lt symbols.Lt = true
same_symbol symbols.Le symbols.Le = true
same_symbol symbols.Gt symbols.Gt = true
same_symbol symbols.Ge symbols.Ge = true
same_symbol symbols.Eq symbols.Eq = true
same_symbol symbols.Ne symbols.Ne = true
same_symbol symbols.And symbols.And = true
same_symbol symbols.Or symbols.Or = true
same_symbol symbols.Not symbols.Not = true
same_symbol _ _ = false

-- what is required after a token, and whether the token is a node's
pub record Move : Type 0 where
  pub then : List Part
  pub is_node : Bool

abbrev pub node_move : List Part → Option Move
node_move parts = Some (record { then = parts; is_node = true })

abbrev pub plain_move : List Part → Option Move
plain_move parts = Some (record { then = parts; is_node = false })

abbrev pub and_then : Option Move → List Part → Option Move
and_then None parts = None
and_then (Some move) parts = Some (record { then = move.then ++ parts; is_node = move.is_node })

-- what stands after EPI and after EPJ
abbrev pub field_parts : List Part
field_parts =
    Part.KindWord ∷ Part.Scale ∷ Part.Name ∷ Part.Exactly symbols.Colon ∷ Part.Name
    ∷ Part.Exactly symbols.Semicolon ∷ Part.Decls ∷ []

abbrev pub decl_move : Word → Option Move
decl_move words.Epi = node_move field_parts
decl_move words.Epj = node_move field_parts
decl_move words.Force =
    node_move (Part.KindWord ∷ Part.Scale ∷ Part.Name ∷ Part.CombineWord
    ∷ Part.Exactly symbols.Semicolon ∷ Part.Decls ∷ [])
decl_move words.Param =
    node_move (Part.Scale ∷ Part.Name ∷ Part.Exactly symbols.Assign ∷ Part.Signed
    ∷ Part.Exactly symbols.Semicolon ∷ Part.Decls ∷ [])
decl_move _ = None

abbrev pub kind_move : Word → Option Move
kind_move words.Num = plain_move []
kind_move words.Vec = plain_move []
kind_move _ = None

abbrev pub combine_move : Word → Option Move
combine_move words.Sum = plain_move []
combine_move words.Max = plain_move []
combine_move words.Min = plain_move []
combine_move _ = None

-- what stands after the word of a call, by the number of its expressions
abbrev pub one_argument : List Part
one_argument = Part.Exactly symbols.OpenRound ∷ Part.Chain levels.Or ∷ Part.Exactly symbols.CloseRound ∷ []

abbrev pub two_arguments : List Part
two_arguments =
    Part.Exactly symbols.OpenRound ∷ Part.Chain levels.Or ∷ Part.Exactly symbols.Comma ∷ Part.Chain levels.Or
    ∷ Part.Exactly symbols.CloseRound ∷ []

abbrev pub three_arguments : List Part
three_arguments =
    Part.Exactly symbols.OpenRound ∷ Part.Chain levels.Or ∷ Part.Exactly symbols.Comma ∷ Part.Chain levels.Or
    ∷ Part.Exactly symbols.Comma ∷ Part.Chain levels.Or ∷ Part.Exactly symbols.CloseRound ∷ []

-- and after `to`
abbrev pub rescale_arguments : List Part
rescale_arguments =
    Part.Exactly symbols.OpenRound ∷ Part.Number ∷ Part.Exactly symbols.Comma ∷ Part.Chain levels.Or
    ∷ Part.Exactly symbols.CloseRound ∷ []

abbrev pub call_move : Word → Option Move
call_move words.Isqrt = node_move one_argument
call_move words.Abs = node_move one_argument
call_move words.To = node_move rescale_arguments
call_move words.Min = node_move two_arguments
call_move words.Max = node_move two_arguments
call_move words.Muldiv = node_move three_arguments
call_move words.Vec = node_move three_arguments
call_move _ = None

abbrev pub exactly_move : Bool → Option Move
exactly_move true = plain_move []
exactly_move false = None

abbrev pub prim_move : TokenKind → Option Move
prim_move (kinds.Number number) = node_move (Part.ScaleIfAny ∷ [])
prim_move (kinds.Name name) = node_move []
prim_move (kinds.Word word) = call_move word
prim_move (kinds.Symbol symbols.OpenRound) = plain_move (Part.Chain levels.Or ∷ Part.Exactly symbols.CloseRound ∷ [])
prim_move _ = None

abbrev pub post_move : TokenKind → Option Move
post_move kind = and_then (prim_move kind) (Part.MorePost ∷ [])

abbrev pub unary_move : TokenKind → Option Move
unary_move (kinds.Symbol symbols.Minus) = node_move (Part.Post ∷ [])
unary_move (kinds.Symbol symbols.Not) = node_move (Part.Post ∷ [])
unary_move kind = post_move kind

abbrev pub product_move : TokenKind → Option Move
product_move kind = and_then (unary_move kind) (Part.More levels.Product ∷ [])

abbrev pub sum_move : TokenKind → Option Move
sum_move kind = and_then (product_move kind) (Part.More levels.Sum ∷ [])

abbrev pub rel_move : TokenKind → Option Move
rel_move kind = and_then (sum_move kind) (Part.MoreRel ∷ [])

abbrev pub and_move : TokenKind → Option Move
and_move kind = and_then (rel_move kind) (Part.More levels.And ∷ [])

abbrev pub or_move : TokenKind → Option Move
or_move kind = and_then (and_move kind) (Part.More levels.Or ∷ [])

abbrev pub chain_move : Level → TokenKind → Option Move
chain_move levels.Or kind = or_move kind
chain_move levels.And kind = and_move kind
chain_move levels.Sum kind = sum_move kind
chain_move levels.Product kind = product_move kind

-- what the operators of a level join
abbrev pub operand : Level → Part
operand levels.Or = Part.Chain levels.And
operand levels.And = Part.Rel
operand levels.Sum = Part.Chain levels.Product
operand levels.Product = Part.Unary

-- after an operator of the level, another operand
abbrev pub next_operand : Level → Option Move
next_operand level = node_move (operand level ∷ Part.More level ∷ [])

abbrev pub more_move : Level → TokenKind → Option Move
more_move levels.Or (kinds.Symbol symbols.Or) = next_operand levels.Or
more_move levels.And (kinds.Symbol symbols.And) = next_operand levels.And
more_move levels.Sum (kinds.Symbol symbols.Plus) = next_operand levels.Sum
more_move levels.Sum (kinds.Symbol symbols.Minus) = next_operand levels.Sum
more_move levels.Product (kinds.Symbol symbols.Star) = next_operand levels.Product
more_move levels.Product (kinds.Symbol symbols.Slash) = next_operand levels.Product
more_move _ _ = None

abbrev pub relation_move : Symbol → Option Move
relation_move symbols.Lt = node_move (Part.Chain levels.Sum ∷ [])
relation_move symbols.Le = node_move (Part.Chain levels.Sum ∷ [])
relation_move symbols.Gt = node_move (Part.Chain levels.Sum ∷ [])
relation_move symbols.Ge = node_move (Part.Chain levels.Sum ∷ [])
relation_move symbols.Eq = node_move (Part.Chain levels.Sum ∷ [])
relation_move symbols.Ne = node_move (Part.Chain levels.Sum ∷ [])
relation_move _ = None

abbrev pub stmts_move : TokenKind → Option Move
stmts_move (kinds.Name name) =
    node_move (Part.Assign ∷ Part.Chain levels.Or ∷ Part.Exactly symbols.Semicolon ∷ Part.Stmts ∷ [])
stmts_move (kinds.Word words.If) = node_move (Part.Chain levels.Or ∷ Part.Block ∷ Part.ElseBlock ∷ Part.Stmts ∷ [])
stmts_move _ = None

-- the axis that a component's name tells
abbrev pub axis_at : List ℕ → Option Axis
axis_at name =
    cond (bytes_eq name (codes "x")) (Some axes.X)
    (cond (bytes_eq name (codes "y")) (Some axes.Y) (cond (bytes_eq name (codes "z")) (Some axes.Z) None))

abbrev pub axis_move : Option Axis → Option Move
axis_move (Some along) = plain_move []
axis_move None = None

-- what comes after a token of this kind, where it can begin the part
abbrev pub move : Part → TokenKind → Option Move
move Part.Decls (kinds.Word word) = decl_move word
move Part.Stmts kind = stmts_move kind
move Part.KindWord (kinds.Word word) = kind_move word
move Part.CombineWord (kinds.Word word) = combine_move word
move Part.Scale (kinds.Scale bits) = plain_move []
move Part.ScaleIfAny (kinds.Scale bits) = plain_move []
move Part.Name (kinds.Name name) = plain_move []
move Part.Number (kinds.Number number) = plain_move []
move Part.Signed (kinds.Number number) = plain_move []
move Part.Signed (kinds.Symbol symbols.Minus) = plain_move (Part.Number ∷ [])
move Part.Assign (kinds.Symbol symbols.Assign) = plain_move []
move Part.Assign (kinds.Symbol symbols.Add) = plain_move []
move Part.Block (kinds.Symbol symbols.OpenCurly) = plain_move (Part.Stmts ∷ Part.Exactly symbols.CloseCurly ∷ [])
move Part.ElseBlock (kinds.Word words.Else) = plain_move (Part.Block ∷ [])
move (Part.Exactly wanted) (kinds.Symbol symbol) = exactly_move (same_symbol wanted symbol)
move (Part.Chain level) kind = chain_move level kind
move (Part.More level) kind = more_move level kind
move Part.Rel kind = rel_move kind
move Part.MoreRel (kinds.Symbol symbol) = relation_move symbol
move Part.Unary kind = unary_move kind
move Part.Post kind = post_move kind
move Part.MorePost (kinds.Symbol symbols.Dot) = node_move (Part.AxisName ∷ Part.MorePost ∷ [])
move Part.Prim kind = prim_move kind
move Part.AxisName (kinds.Name name) = axis_move (axis_at name)
move _ _ = None

-- whether nothing need stand for the part
abbrev pub is_optional : Part → Bool
is_optional Part.Decls = true
is_optional Part.Stmts = true
is_optional Part.ElseBlock = true
is_optional (Part.More level) = true
is_optional Part.MoreRel = true
is_optional Part.MorePost = true
is_optional Part.ScaleIfAny = true
is_optional _ = false

-- the next token, if there is one, can't begin the part
abbrev pub Refuses : Part → Option TokenKind → Type 0
Refuses part None = Unit {0}
Refuses part (Some kind) = move part kind ≡ None

-- ---- several parts, the first of which comes next

-- what is required after a token of this kind, where it is one of those that may come next
abbrev pub chosen : Option Move → Bool → List Part → Option Move → Option Move
chosen (Some found) optional parts later = Some (record { then = found.then ++ parts; is_node = found.is_node })
chosen None true parts later = later
chosen None false parts later = None

unfoldable pub moves : List Part → TokenKind → Option Move
moves [] kind = None
moves (part ∷ parts) kind = chosen (move part kind) (is_optional part) parts (moves parts kind)

-- whether nothing need stand for any of them
unfoldable pub are_optional : List Part → Bool
are_optional [] = true
are_optional (part ∷ parts) = is_optional part && are_optional parts
