-- What an operator or a word of a call tells, of the table and of the grammar.
use Rattle.std.proofs.Common.{◌≡◌, ℕ, List, [], ◌∷◌, Option, Some, None, refl, sym, ap, ◌∙◌, subst, inl, inr}
use Rattle.kern_token.specs.declared.token.Symbol.{Symbol}
use Rattle.kern_token.specs.declared.token.Symbol.TheVariants as symbols
use Rattle.kern_token.specs.declared.token.Token.{Token}
use Rattle.kern_token.specs.declared.token.TokenKind.{TokenKind}
use Rattle.kern_token.specs.declared.token.TokenKind.TheVariants as kinds
use Rattle.kern_token.specs.declared.token.Word.{Word}
use Rattle.kern_token.specs.declared.token.Word.TheVariants as words
use Rattle.kern_tree.specs.declared.expr.Op1.{Op1}
use Rattle.kern_tree.specs.declared.expr.Op1.TheVariants as op1s
use Rattle.kern_tree.specs.declared.expr.Op2.{Op2}
use Rattle.kern_tree.specs.declared.expr.Op2.TheVariants as op2s
use Rattle.kern_tree.specs.FirstFault.{brackets_after}
use Rattle.kern_tree.specs.Grammar.{operator}
use Rattle.kern_tree.specs.Rules.{Rule, At, ◌or◌, token}
use Rattle.kern_parse.specs.declared.operators.Call.{Call}
use Rattle.kern_parse.specs.declared.operators.Level.{Level}
use Rattle.kern_parse.specs.declared.operators.Level.TheVariants as levels
use Rattle.kern_parse.specs.inner.Found.{operators, arguments}
use Rattle.kern_parse.specs.inner.Operators.{binary_of, relation_of, prefix_of, call_of}
use Rattle.kern_parse.specs.Required.{Part, Refuses, move, node_move, operand}

some_is : {A : Type 0} {x y : A} → Some x ≡ Some y → x ≡ y
some_is h = cc

-- the prefixes of the grammar
abbrev pub prefixes : Rule (At Op1)
prefixes = operator symbols.Minus op1s.Neg or operator symbols.Not op1s.Not

-- the relations of the grammar
abbrev pub relations : Rule (At Op2)
relations = operator symbols.Lt op2s.Lt or operator symbols.Le op2s.Le or operator symbols.Gt op2s.Gt or operator symbols.Ge op2s.Ge or operator symbols.Eq op2s.Eq or operator symbols.Ne op2s.Ne

-- the next token is an operator that goes on for the part with those parts, and is one of the rule
pub record Tells (part : Part) (thens : List Part) (rule : Rule (At Op2)) (next : Option TokenKind) (op : Op2) : Type 0 where
  pub symbol : Symbol
  pub next_is : next ≡ Some (kinds.Symbol symbol)
  pub moves : move part (kinds.Symbol symbol) ≡ node_move thens
  pub no_bracket : (depth : ℕ) → brackets_after depth (kinds.Symbol symbol) ≡ depth
  pub spelled : (tokens : List Token) (place : ℕ) (rest : List Token) → token (kinds.Symbol symbol) tokens place rest → rule tokens (record { place = place; held = op }) rest

pub record TellsPrefix (next : Option TokenKind) (op : Op1) : Type 0 where
  pub symbol : Symbol
  pub next_is : next ≡ Some (kinds.Symbol symbol)
  pub moves : move Part.Unary (kinds.Symbol symbol) ≡ node_move (Part.Post ∷ [])
  pub no_bracket : (depth : ℕ) → brackets_after depth (kinds.Symbol symbol) ≡ depth
  pub spelled : (tokens : List Token) (place : ℕ) (rest : List Token) → token (kinds.Symbol symbol) tokens place rest → prefixes tokens (record { place = place; held = op }) rest

pub binary_tells : (level : Level) (next : Option TokenKind) (op : Op2) → binary_of level next ≡ Some op → Tells (Part.More level) (operand level ∷ Part.More level ∷ []) (operators level) next op
binary_tells levels.Or (Some (kinds.Symbol symbols.Or)) op is = subst (λ o. Tells (Part.More levels.Or) (operand levels.Or ∷ Part.More levels.Or ∷ []) (operators levels.Or) (Some (kinds.Symbol symbols.Or)) o) (some_is is) (record { symbol = symbols.Or; next_is = refl; moves = refl; no_bracket = λ depth. refl; spelled = λ tokens place rest found. (place, rest, found, (refl, refl)) })
binary_tells levels.And (Some (kinds.Symbol symbols.And)) op is = subst (λ o. Tells (Part.More levels.And) (operand levels.And ∷ Part.More levels.And ∷ []) (operators levels.And) (Some (kinds.Symbol symbols.And)) o) (some_is is) (record { symbol = symbols.And; next_is = refl; moves = refl; no_bracket = λ depth. refl; spelled = λ tokens place rest found. (place, rest, found, (refl, refl)) })
binary_tells levels.Sum (Some (kinds.Symbol symbols.Plus)) op is = subst (λ o. Tells (Part.More levels.Sum) (operand levels.Sum ∷ Part.More levels.Sum ∷ []) (operators levels.Sum) (Some (kinds.Symbol symbols.Plus)) o) (some_is is) (record { symbol = symbols.Plus; next_is = refl; moves = refl; no_bracket = λ depth. refl; spelled = λ tokens place rest found. inl (place, rest, found, (refl, refl)) })
binary_tells levels.Sum (Some (kinds.Symbol symbols.Minus)) op is = subst (λ o. Tells (Part.More levels.Sum) (operand levels.Sum ∷ Part.More levels.Sum ∷ []) (operators levels.Sum) (Some (kinds.Symbol symbols.Minus)) o) (some_is is) (record { symbol = symbols.Minus; next_is = refl; moves = refl; no_bracket = λ depth. refl; spelled = λ tokens place rest found. inr (place, rest, found, (refl, refl)) })
binary_tells levels.Product (Some (kinds.Symbol symbols.Star)) op is = subst (λ o. Tells (Part.More levels.Product) (operand levels.Product ∷ Part.More levels.Product ∷ []) (operators levels.Product) (Some (kinds.Symbol symbols.Star)) o) (some_is is) (record { symbol = symbols.Star; next_is = refl; moves = refl; no_bracket = λ depth. refl; spelled = λ tokens place rest found. inl (place, rest, found, (refl, refl)) })
binary_tells levels.Product (Some (kinds.Symbol symbols.Slash)) op is = subst (λ o. Tells (Part.More levels.Product) (operand levels.Product ∷ Part.More levels.Product ∷ []) (operators levels.Product) (Some (kinds.Symbol symbols.Slash)) o) (some_is is) (record { symbol = symbols.Slash; next_is = refl; moves = refl; no_bracket = λ depth. refl; spelled = λ tokens place rest found. inr (place, rest, found, (refl, refl)) })
binary_tells _ _ op is = cc

pub no_binary : (level : Level) (next : Option TokenKind) → binary_of level next ≡ None → Refuses (Part.More level) next
no_binary level None none = tt
no_binary levels.Or (Some (kinds.Symbol symbols.Or)) none = cc
no_binary levels.And (Some (kinds.Symbol symbols.And)) none = cc
no_binary levels.Sum (Some (kinds.Symbol symbols.Plus)) none = cc
no_binary levels.Sum (Some (kinds.Symbol symbols.Minus)) none = cc
no_binary levels.Product (Some (kinds.Symbol symbols.Star)) none = cc
no_binary levels.Product (Some (kinds.Symbol symbols.Slash)) none = cc
no_binary _ (Some _) none = refl

pub relation_tells : (next : Option TokenKind) (op : Op2) → relation_of next ≡ Some op → Tells Part.MoreRel (Part.Chain levels.Sum ∷ []) relations next op
relation_tells (Some (kinds.Symbol symbols.Lt)) op is = subst (λ o. Tells Part.MoreRel (Part.Chain levels.Sum ∷ []) relations (Some (kinds.Symbol symbols.Lt)) o) (some_is is) (record { symbol = symbols.Lt; next_is = refl; moves = refl; no_bracket = λ depth. refl; spelled = λ tokens place rest found. inl (inl (inl (inl (inl ((place, rest, found, (refl, refl))))))) })
relation_tells (Some (kinds.Symbol symbols.Le)) op is = subst (λ o. Tells Part.MoreRel (Part.Chain levels.Sum ∷ []) relations (Some (kinds.Symbol symbols.Le)) o) (some_is is) (record { symbol = symbols.Le; next_is = refl; moves = refl; no_bracket = λ depth. refl; spelled = λ tokens place rest found. inl (inl (inl (inl (inr (place, rest, found, (refl, refl)))))) })
relation_tells (Some (kinds.Symbol symbols.Gt)) op is = subst (λ o. Tells Part.MoreRel (Part.Chain levels.Sum ∷ []) relations (Some (kinds.Symbol symbols.Gt)) o) (some_is is) (record { symbol = symbols.Gt; next_is = refl; moves = refl; no_bracket = λ depth. refl; spelled = λ tokens place rest found. inl (inl (inl (inr (place, rest, found, (refl, refl))))) })
relation_tells (Some (kinds.Symbol symbols.Ge)) op is = subst (λ o. Tells Part.MoreRel (Part.Chain levels.Sum ∷ []) relations (Some (kinds.Symbol symbols.Ge)) o) (some_is is) (record { symbol = symbols.Ge; next_is = refl; moves = refl; no_bracket = λ depth. refl; spelled = λ tokens place rest found. inl (inl (inr (place, rest, found, (refl, refl)))) })
relation_tells (Some (kinds.Symbol symbols.Eq)) op is = subst (λ o. Tells Part.MoreRel (Part.Chain levels.Sum ∷ []) relations (Some (kinds.Symbol symbols.Eq)) o) (some_is is) (record { symbol = symbols.Eq; next_is = refl; moves = refl; no_bracket = λ depth. refl; spelled = λ tokens place rest found. inl (inr (place, rest, found, (refl, refl))) })
relation_tells (Some (kinds.Symbol symbols.Ne)) op is = subst (λ o. Tells Part.MoreRel (Part.Chain levels.Sum ∷ []) relations (Some (kinds.Symbol symbols.Ne)) o) (some_is is) (record { symbol = symbols.Ne; next_is = refl; moves = refl; no_bracket = λ depth. refl; spelled = λ tokens place rest found. inr (place, rest, found, (refl, refl)) })
relation_tells _ op is = cc

pub no_relation : (next : Option TokenKind) → relation_of next ≡ None → Refuses Part.MoreRel next
no_relation None none = tt
no_relation (Some (kinds.Symbol symbols.Lt)) none = cc
no_relation (Some (kinds.Symbol symbols.Le)) none = cc
no_relation (Some (kinds.Symbol symbols.Gt)) none = cc
no_relation (Some (kinds.Symbol symbols.Ge)) none = cc
no_relation (Some (kinds.Symbol symbols.Eq)) none = cc
no_relation (Some (kinds.Symbol symbols.Ne)) none = cc
no_relation (Some _) none = refl

pub prefix_tells : (next : Option TokenKind) (op : Op1) → prefix_of next ≡ Some op → TellsPrefix next op
prefix_tells (Some (kinds.Symbol symbols.Minus)) op is = subst (λ o. TellsPrefix (Some (kinds.Symbol symbols.Minus)) o) (some_is is) (record { symbol = symbols.Minus; next_is = refl; moves = refl; no_bracket = λ depth. refl; spelled = λ tokens place rest found. inl (place, rest, found, (refl, refl)) })
prefix_tells (Some (kinds.Symbol symbols.Not)) op is = subst (λ o. TellsPrefix (Some (kinds.Symbol symbols.Not)) o) (some_is is) (record { symbol = symbols.Not; next_is = refl; moves = refl; no_bracket = λ depth. refl; spelled = λ tokens place rest found. inr (place, rest, found, (refl, refl)) })
prefix_tells _ op is = cc

unary_is_post : (kind : TokenKind) → prefix_of (Some kind) ≡ None → move Part.Unary kind ≡ move Part.Post kind
unary_is_post (kinds.Symbol symbols.Minus) none = cc
unary_is_post (kinds.Symbol symbols.Not) none = cc
unary_is_post _ none = refl

-- without a prefix
pub no_prefix : (next : Option TokenKind) (kind : TokenKind) → next ≡ Some kind → prefix_of next ≡ None → move Part.Unary kind ≡ move Part.Post kind
no_prefix next kind is none = unary_is_post kind (ap prefix_of (sym is) ∙ none)

-- the word of a call, in the table
pub call_moves : (word : Word) (call : Call) → call_of word ≡ Some call → move Part.Prim (kinds.Word word) ≡ node_move (arguments call)
call_moves words.Isqrt call is = ap (λ c. node_move (arguments c)) (some_is is)
call_moves words.Abs call is = ap (λ c. node_move (arguments c)) (some_is is)
call_moves words.Min call is = ap (λ c. node_move (arguments c)) (some_is is)
call_moves words.Max call is = ap (λ c. node_move (arguments c)) (some_is is)
call_moves words.Muldiv call is = ap (λ c. node_move (arguments c)) (some_is is)
call_moves words.Vec call is = ap (λ c. node_move (arguments c)) (some_is is)
call_moves words.To call is = ap (λ c. node_move (arguments c)) (some_is is)
call_moves _ call is = cc

pub no_call : (word : Word) → call_of word ≡ None → move Part.Prim (kinds.Word word) ≡ None
no_call words.Isqrt none = cc
no_call words.Abs none = cc
no_call words.Min none = cc
no_call words.Max none = cc
no_call words.Muldiv none = cc
no_call words.Vec none = cc
no_call words.To none = cc
no_call _ none = refl
