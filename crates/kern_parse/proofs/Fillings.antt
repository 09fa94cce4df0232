-- Each part is spelled by some tokens, which may stand at any place.
use Rattle.std.proofs.Common.{◌≡◌, ℕ, List, [], ◌∷◌, ◌++◌, inl, inr, refl, codes, pos}
use Rattle.kern_token.specs.declared.token.Symbol.TheVariants as symbols
use Rattle.kern_token.specs.declared.token.Token.{Token}
use Rattle.kern_token.specs.declared.token.TokenKind.{TokenKind}
use Rattle.kern_token.specs.declared.token.TokenKind.TheVariants as kinds
use Rattle.kern_token.specs.declared.token.Word.TheVariants as words
use Rattle.kern_tree.specs.declared.expr.Expr.{Expr}
use Rattle.kern_tree.specs.declared.expr.Form.TheVariants as forms
use Rattle.kern_tree.specs.declared.kernel.Combine.TheVariants as combines
use Rattle.kern_tree.specs.declared.kernel.Kind.TheVariants as kinds_of
use Rattle.kern_tree.specs.declared.stmt.Act.TheVariants as acts
use Rattle.pf_geom.specs.declared.axis.Axis.TheVariants as axes
use Rattle.kern_tree.specs.Grammar.{node, prim, post, unary, prod, sum, rel, both, expr_over, expr}
use Rattle.kern_tree.specs.Nodes.{expr_nodes}
use Rattle.kern_parse.specs.declared.operators.Level.TheVariants as levels
use Rattle.kern_parse.specs.Required.{Part}
use Rattle.kern_parse.proofs.PartRules.{part_rule, parts_rule, part_left_out}

abbrev pub at_place : ℕ → TokenKind → Token
at_place place kind = record { kind = kind; place = place; end = place }

-- tokens that spell the part, all at one place
abbrev pub filling : ℕ → Part → List Token
filling place Part.KindWord = at_place place (kinds.Word words.Num) ∷ []
filling place Part.CombineWord = at_place place (kinds.Word words.Sum) ∷ []
filling place Part.Scale = at_place place (kinds.Scale 0) ∷ []
filling place Part.Name = at_place place (kinds.Name (codes "x")) ∷ []
filling place Part.Signed = at_place place (kinds.Number 0) ∷ []
filling place Part.Number = at_place place (kinds.Number 0) ∷ []
filling place Part.Assign = at_place place (kinds.Symbol symbols.Assign) ∷ []
filling place Part.Block = at_place place (kinds.Symbol symbols.OpenCurly) ∷ at_place place (kinds.Symbol symbols.CloseCurly) ∷ []
filling place (Part.Exactly wanted) = at_place place (kinds.Symbol wanted) ∷ []
filling place (Part.Chain level) = at_place place (kinds.Number 0) ∷ []
filling place Part.Rel = at_place place (kinds.Number 0) ∷ []
filling place Part.Unary = at_place place (kinds.Number 0) ∷ []
filling place Part.Post = at_place place (kinds.Number 0) ∷ []
filling place Part.Prim = at_place place (kinds.Number 0) ∷ []
filling place Part.AxisName = at_place place (kinds.Name (codes "x")) ∷ []
filling place _ = []

abbrev pub fillings : ℕ → List Part → List Token
fillings place [] = []
fillings place (part ∷ parts) = filling place part ++ fillings place parts

abbrev pub AllAt : ℕ → List Token → Type 0
AllAt place [] = Unit {0}
AllAt place (token ∷ tokens) = (token.place ≡ place) × AllAt place tokens

AllAt-append : (place : ℕ) (tokens others : List Token) → AllAt place tokens → AllAt place others → AllAt place (tokens ++ others)
AllAt-append place [] others h k = k
AllAt-append place (token ∷ tokens) others h k = (h.0, AllAt-append place tokens others h.1 k)

filling_at : (place : ℕ) (part : Part) → AllAt place (filling place part)
filling_at place Part.Block = (refl, (refl, tt))
filling_at place Part.Decls = tt
filling_at place Part.Stmts = tt
filling_at place Part.ElseBlock = tt
filling_at place (Part.More level) = tt
filling_at place Part.MoreRel = tt
filling_at place Part.MorePost = tt
filling_at place Part.ScaleIfAny = tt
filling_at place _ = (refl, tt)

pub fillings_at : (place : ℕ) (parts : List Part) → AllAt place (fillings place parts)
fillings_at place [] = tt
fillings_at place (part ∷ parts) = AllAt-append place (filling place part) (fillings place parts) (filling_at place part) (fillings_at place parts)

module _ (place : ℕ) (rest : List Token) where
  abbrev zero_node : Expr
  zero_node = node place (forms.Number 0 0)

  abbrev zero_tokens : List Token
  zero_tokens = at_place place (kinds.Number 0) ∷ rest

  zero_prim : prim expr zero_tokens zero_node rest
  zero_prim = inl (inl (inl (record { place = place; held = 0 }, rest, (place, refl), (0, rest, inr (refl, refl), (refl, refl)))))

  zero_post : post expr zero_tokens zero_node rest
  zero_post = (zero_node, rest, zero_prim, ([], rest, refl, (refl, refl)))

  zero_unary : unary expr zero_tokens zero_node rest
  zero_unary = inl zero_post

  zero_prod : prod expr zero_tokens zero_node rest
  zero_prod = (zero_node, rest, zero_unary, ([], rest, refl, (refl, refl)))

  zero_sum : sum expr zero_tokens zero_node rest
  zero_sum = (zero_node, rest, zero_prod, ([], rest, refl, (refl, refl)))

  zero_rel : rel expr zero_tokens zero_node rest
  zero_rel = (zero_node, rest, zero_sum, inl (refl, refl))

  zero_both : both expr zero_tokens zero_node rest
  zero_both = (zero_node, rest, zero_rel, ([], rest, refl, (refl, refl)))

  zero_over : expr_over expr zero_tokens zero_node rest
  zero_over = (zero_node, rest, zero_both, ([], rest, refl, (refl, refl)))

  filled : (part : Part) → (all : List ℕ) × part_rule part (filling place part ++ rest) all rest
  filled Part.KindWord = ([], (kinds_of.Num, inl (place, rest, (place, refl), (refl, refl)), refl))
  filled Part.CombineWord = ([], (combines.Sum, inl (inl (place, rest, (place, refl), (refl, refl))), refl))
  filled Part.Scale = ([], (record { place = place; held = 0 }, (place, refl), refl))
  filled Part.Name = ([], (record { place = place; held = codes "x" }, (place, refl), refl))
  filled Part.Signed = ([], (pos 0, inl (record { place = place; held = 0 }, rest, (place, refl), (refl, refl)), refl))
  filled Part.Number = ([], (record { place = place; held = 0 }, (place, refl), refl))
  filled Part.Assign = ([], (acts.Set, inl (place, rest, (place, refl), (refl, refl)), refl))
  filled Part.Block = ([], ([], (place, at_place place (kinds.Symbol symbols.CloseCurly) ∷ rest, (place, refl), ([], at_place place (kinds.Symbol symbols.CloseCurly) ∷ rest, refl, (place, rest, (place, refl), (refl, refl)))), refl))
  filled (Part.Exactly wanted) = ([], (place, (place, refl), refl))
  filled (Part.Chain levels.Or) = (expr_nodes zero_node, (zero_node, zero_over, refl))
  filled (Part.Chain levels.And) = (expr_nodes zero_node, (zero_node, zero_both, refl))
  filled (Part.Chain levels.Sum) = (expr_nodes zero_node, (zero_node, zero_sum, refl))
  filled (Part.Chain levels.Product) = (expr_nodes zero_node, (zero_node, zero_prod, refl))
  filled Part.Rel = (expr_nodes zero_node, (zero_node, zero_rel, refl))
  filled Part.Unary = (expr_nodes zero_node, (zero_node, zero_unary, refl))
  filled Part.Post = (expr_nodes zero_node, (zero_node, zero_post, refl))
  filled Part.Prim = (expr_nodes zero_node, (zero_node, zero_prim, refl))
  filled Part.AxisName = ([], (axes.X, (place, (place, refl)), refl))
  filled Part.Decls = ([], part_left_out Part.Decls rest refl)
  filled Part.Stmts = ([], part_left_out Part.Stmts rest refl)
  filled Part.ElseBlock = ([], part_left_out Part.ElseBlock rest refl)
  filled (Part.More level) = ([], part_left_out (Part.More level) rest refl)
  filled Part.MoreRel = ([], part_left_out Part.MoreRel rest refl)
  filled Part.MorePost = ([], part_left_out Part.MorePost rest refl)
  filled Part.ScaleIfAny = ([], part_left_out Part.ScaleIfAny rest refl)

pub all_filled : (place : ℕ) (parts : List Part) → (all : List ℕ) × parts_rule parts (fillings place parts) all []
all_filled place [] = ([], (refl, refl))
all_filled place (part ∷ parts) =
    let later = all_filled place parts in
    let first = filled place (fillings place parts) part in
    (first.0 ++ later.0, (first.0, fillings place parts, later.0, first.1, later.1, refl))
