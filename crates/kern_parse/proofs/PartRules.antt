-- What the tokens spell that are read for a part, seen as the places of their nodes.
use Rattle.std.proofs.Common.{◌≡◌, ℕ, List, [], ◌∷◌, ◌++◌, true, false, IsTrue, flat_map, inl, inr, refl, sym, ap, ◌∙◌, subst, append_assoc}
use Rattle.kern_token.specs.declared.token.Symbol.TheVariants as symbols
use Rattle.kern_token.specs.declared.token.Token.{Token}
use Rattle.kern_token.specs.declared.token.Word.TheVariants as words
use Rattle.kern_tree.specs.declared.expr.Expr.{Expr}
use Rattle.kern_tree.specs.declared.expr.Op2.{Op2}
use Rattle.kern_tree.specs.declared.expr.Op2.TheVariants as op2s
use Rattle.kern_tree.specs.declared.kernel.Decl.{Decl}
use Rattle.kern_tree.specs.declared.stmt.Act.TheVariants as acts
use Rattle.kern_tree.specs.declared.stmt.Stmt.{Stmt}
use Rattle.pf_geom.specs.declared.axis.Axis.{Axis}
use Rattle.kern_tree.specs.Grammar.{kind, combine, decl, signed, axis, operator, component, joined_from_left, prim, post, unary, prod, sum, relation, rel, two, both, expr, block, stmt}
use Rattle.kern_tree.specs.Nodes.{expr_nodes, stmt_nodes}
use Rattle.kern_tree.specs.Rules.{Rule, At, ◌>>=◌, ◌>>◌, ◌or◌, pure, many, symbol, word, name, number, scale}
use Rattle.kern_parse.specs.declared.operators.Level.{Level}
use Rattle.kern_parse.specs.declared.operators.Level.TheVariants as levels
use Rattle.kern_parse.specs.Required.{Part, is_optional}

-- the places of the nodes of what the rule reads
abbrev pub seen : {A : Type 0} → Rule A → (A → List ℕ) → Rule (List ℕ)
seen {A = A} rule nodes tokens places rest = (value : A) × rule tokens value rest × (places ≡ nodes value)

abbrev pub no_node : {A : Type 0} → A → List ℕ
no_node value = []

abbrev pub decl_nodes : Decl → List ℕ
decl_nodes declared = declared.place ∷ []

-- of an operator and its right operand
abbrev pub more_nodes : At Op2 × Expr → List ℕ
more_nodes more = (more.0).place ∷ expr_nodes more.1

abbrev pub component_nodes : At Axis → List ℕ
component_nodes of = of.place ∷ []

abbrev pub operators : Level → Rule (At Op2)
operators levels.Or = operator symbols.Or op2s.Or
operators levels.And = operator symbols.And op2s.And
operators levels.Sum = operator symbols.Plus op2s.Add or operator symbols.Minus op2s.Sub
operators levels.Product = operator symbols.Star op2s.Mul or operator symbols.Slash op2s.Div

abbrev pub operand_rule : Level → Rule Expr
operand_rule levels.Or = both expr
operand_rule levels.And = rel expr
operand_rule levels.Sum = prod expr
operand_rule levels.Product = unary expr

-- { operator operand }
abbrev pub more_rule : Level → Rule (List (At Op2 × Expr))
more_rule level = many (do
  op ← operators level
  right ← operand_rule level
  pure (op, right))

-- [ relation sum ]
abbrev pub more_rel : Rule (List (At Op2 × Expr))
more_rel = pure [] or (do
  op ← relation expr
  right ← sum expr
  pure ((op, right) ∷ []))

-- what may follow the left sum of a relation
abbrev pub rel_rest : Expr → Rule Expr
rel_rest left = pure left or (do
  op ← relation expr
  right ← sum expr
  pure (two left (op, right)))

-- [ scale ]
abbrev pub scale_if_any : Rule ℕ
scale_if_any = (do
  written ← scale
  pure written.held) or pure 0

-- [ else block ]
abbrev pub else_block : Rule (List Stmt)
else_block = (word words.Else >> block stmt) or pure []

-- what is required after the arguments of a call, after the `(` or `,` before the last of them, and so on
abbrev pub closing : List Part
closing = Part.Exactly symbols.CloseRound ∷ []

abbrev pub last_argument : List Part
last_argument = Part.Chain levels.Or ∷ closing

abbrev pub two_arguments : List Part
two_arguments = Part.Chain levels.Or ∷ Part.Exactly symbols.Comma ∷ last_argument

abbrev pub three_arguments : List Part
three_arguments = Part.Chain levels.Or ∷ Part.Exactly symbols.Comma ∷ two_arguments

-- what is read for a part, where brackets and blocks stand at any depth
abbrev pub part_rule : Part → Rule (List ℕ)
part_rule Part.Decls = seen (many decl) (flat_map decl_nodes)
part_rule Part.Stmts = seen (many stmt) (flat_map stmt_nodes)
part_rule Part.KindWord = seen kind no_node
part_rule Part.CombineWord = seen combine no_node
part_rule Part.Scale = seen scale no_node
part_rule Part.Name = seen name no_node
part_rule Part.Signed = seen signed no_node
part_rule Part.Number = seen number no_node
part_rule Part.Assign = seen ((symbol symbols.Assign >> pure acts.Set) or (symbol symbols.Add >> pure acts.Give)) no_node
part_rule Part.Block = seen (block stmt) (flat_map stmt_nodes)
part_rule Part.ElseBlock = seen else_block (flat_map stmt_nodes)
part_rule (Part.Exactly wanted) = seen (symbol wanted) no_node
part_rule (Part.Chain level) = seen (joined_from_left (operators level) (operand_rule level)) expr_nodes
part_rule (Part.More level) = seen (more_rule level) (flat_map more_nodes)
part_rule Part.Rel = seen (rel expr) expr_nodes
part_rule Part.MoreRel = seen more_rel (flat_map more_nodes)
part_rule Part.Unary = seen (unary expr) expr_nodes
part_rule Part.Post = seen (post expr) expr_nodes
part_rule Part.MorePost = seen (many component) (flat_map component_nodes)
part_rule Part.Prim = seen (prim expr) expr_nodes
part_rule Part.ScaleIfAny = seen scale_if_any no_node
part_rule Part.AxisName = seen axis no_node

-- one part after another
abbrev pub parts_rule : List Part → Rule (List ℕ)
parts_rule [] tokens places rest = (places ≡ []) × (tokens ≡ rest)
parts_rule (part ∷ parts) tokens places rest = (first : List ℕ) × (between : List Token) × (more : List ℕ) × part_rule part tokens first between × parts_rule parts between more rest × (places ≡ first ++ more)

pub parts_append : (parts others : List Part) (tokens between rest : List Token) (first more : List ℕ) → parts_rule parts tokens first between → parts_rule others between more rest → parts_rule (parts ++ others) tokens (first ++ more) rest
parts_append [] others tokens between rest first more h k = subst (λ ts. parts_rule others ts (first ++ more) rest) (sym h.1) (subst (λ places. parts_rule others between (places ++ more) rest) (sym h.0) k)
parts_append (part ∷ parts) others tokens between rest first more h k = (h.0, h.1, h.2 ++ more, h.3, parts_append parts others h.1 between rest h.2 more h.4 k, ap (λ places. places ++ more) h.5 ∙ append_assoc h.0 h.2 more)

pub parts_split : (parts others : List Part) (tokens rest : List Token) (places : List ℕ) → parts_rule (parts ++ others) tokens places rest → (first : List ℕ) × (between : List Token) × (more : List ℕ) × parts_rule parts tokens first between × parts_rule others between more rest × (places ≡ first ++ more)
parts_split [] others tokens rest places h = ([], tokens, places, (refl, refl), h, refl)
parts_split (part ∷ parts) others tokens rest places h =
    let split = parts_split parts others h.1 rest h.2 h.4 in
    (h.0 ++ split.0, split.1, split.2, (h.0, h.1, split.0, h.3, split.3, refl), split.4, h.5 ∙ ap (λ ps. h.0 ++ ps) split.5 ∙ sym (append_assoc h.0 split.0 split.2))

-- nothing is read for an optional part
pub part_left_out : (part : Part) (tokens : List Token) → IsTrue (is_optional part) → part_rule part tokens [] tokens
part_left_out Part.Decls tokens optional = ([], refl, refl)
part_left_out Part.Stmts tokens optional = ([], refl, refl)
part_left_out Part.ElseBlock tokens optional = ([], inr (refl, refl), refl)
part_left_out (Part.More level) tokens optional = ([], refl, refl)
part_left_out Part.MoreRel tokens optional = ([], inl (refl, refl), refl)
part_left_out Part.MorePost tokens optional = ([], refl, refl)
part_left_out Part.ScaleIfAny tokens optional = (0, inr (refl, refl), refl)
part_left_out _ tokens optional = absurd (let never : false ≡ true = optional in cc)
