-- Each part begins with a token that its move is for, and goes on with what that move requires, or nothing is read
-- for it.
use Rattle.std.proofs.Common.{◌≡◌, ◌⊎◌, ℕ, List, [], ◌∷◌, ◌++◌, true, false, IsTrue, flat_map, Some, inl, inr, refl, sym, ap, ◌∙◌, subst, append_assoc, append-nil, ℤ}
use Rattle.kern_token.specs.declared.token.Symbol.{Symbol}
use Rattle.kern_token.specs.declared.token.Symbol.TheVariants as symbols
use Rattle.kern_token.specs.declared.token.Token.{Token}
use Rattle.kern_token.specs.declared.token.TokenKind.{TokenKind}
use Rattle.kern_token.specs.declared.token.TokenKind.TheVariants as kinds
use Rattle.kern_token.specs.declared.token.Word.{Word}
use Rattle.kern_token.specs.declared.token.Word.TheVariants as words
use Rattle.kern_tree.specs.declared.expr.Expr.{Expr}
use Rattle.kern_tree.specs.declared.expr.Op2.{Op2}
use Rattle.kern_tree.specs.declared.expr.Op2.TheVariants as op2s
use Rattle.kern_tree.specs.declared.kernel.Combine.{Combine}
use Rattle.kern_tree.specs.declared.kernel.Decl.{Decl}
use Rattle.kern_tree.specs.declared.kernel.DeclKind.{DeclKind}
use Rattle.kern_tree.specs.declared.kernel.Kind.{Kind}
use Rattle.kern_tree.specs.declared.stmt.Act.{Act}
use Rattle.kern_tree.specs.declared.stmt.Act.TheVariants as acts
use Rattle.kern_tree.specs.declared.stmt.Stmt.{Stmt}
use Rattle.pf_geom.specs.declared.axis.Axis.{Axis}
use Rattle.pf_geom.specs.declared.axis.Axis.TheVariants as axes
use Rattle.kern_tree.specs.Grammar.{kind, combine, decl, field_of, force, param, signed, axis, axis_letter, operator, component, sum, relation, expr, assignment, block, conditional, stmt_node, stmt_over, stmt}
use Rattle.kern_tree.specs.Nodes.{expr_nodes, stmt_nodes}
use Rattle.kern_tree.specs.Rules.{Rule, At, ◌>>◌, ◌or◌, pure, many, symbol}
use Rattle.kern_tree.specs.Unrolled.{TreesByForm}
use Rattle.kern_parse.specs.declared.operators.Level.{Level}
use Rattle.kern_parse.specs.declared.operators.Level.TheVariants as levels
use Rattle.kern_parse.specs.Required.{Part, move, same_symbol, operand as operand_part, is_optional}
use Rattle.kern_parse.proofs.PartRules.{decl_nodes, more_nodes, component_nodes, operators, operand_rule, more_rule, more_rel, scale_if_any, else_block, part_rule, parts_rule}
use Rattle.kern_parse.proofs.ExpressionTokens.{Goes, ends, with_places, one_more, symbol_then, expr_then, prim_goes, post_goes, unary_goes, product_goes, sum_goes, rel_goes, both_goes, over_goes}

-- either the part goes, or nothing is read for it
abbrev pub GoesIfAny : Part → List Token → List ℕ → List Token → Type 0
GoesIfAny part tokens places rest = Goes part tokens places rest ⊎ (IsTrue (is_optional part) × (tokens ≡ rest) × (places ≡ []))

-- ---- operators and operands

operator_read : (spelled : Symbol) (op : Op2) (found : At Op2) (tokens between : List Token) → operator spelled op tokens found between → (end : ℕ) × (tokens ≡ record { kind = kinds.Symbol spelled; place = found.place; end = end } ∷ between)
operator_read spelled op found tokens between h = (
  (h.2).0,
  (h.2).1 ∙ ap (λ ts. record { kind = kinds.Symbol spelled; place = h.0; end = (h.2).0 } ∷ ts) h.3.1
      ∙ ap (λ (o : At Op2). record { kind = kinds.Symbol spelled; place = o.place; end = (h.2).0 } ∷ between) (sym h.3.0),
)

-- one token was read, for which the part's move requires these
record ReadsAs (part : Part) (tokens : List Token) (place : ℕ) (thens : List Part) (between : List Token) : Type 0 where
  pub spelled : Symbol
  pub end : ℕ
  pub tokens_are : tokens ≡ record { kind = kinds.Symbol spelled; place = place; end = end } ∷ between
  pub moved : move part (kinds.Symbol spelled) ≡ Some (record { then = thens; is_node = true })

reads_as : (part : Part) (thens : List Part) (spelled : Symbol) (op : Op2) (found : At Op2) (tokens between : List Token)
    → move part (kinds.Symbol spelled) ≡ Some (record { then = thens; is_node = true }) → operator spelled op tokens found between → ReadsAs part tokens found.place thens between
reads_as part thens spelled op found tokens between moved h =
    let r = operator_read spelled op found tokens between h in
    record { spelled = spelled; end = r.0; tokens_are = r.1; moved = moved }

operators_read : (level : Level) (found : At Op2) (tokens between : List Token) → operators level tokens found between → ReadsAs (Part.More level) tokens found.place (operand_part level ∷ Part.More level ∷ []) between
operators_read levels.Or found tokens between h = reads_as _ _ symbols.Or op2s.Or found tokens between refl h
operators_read levels.And found tokens between h = reads_as _ _ symbols.And op2s.And found tokens between refl h
operators_read levels.Sum found tokens between (inl h) = reads_as _ _ symbols.Plus op2s.Add found tokens between refl h
operators_read levels.Sum found tokens between (inr h) = reads_as _ _ symbols.Minus op2s.Sub found tokens between refl h
operators_read levels.Product found tokens between (inl h) = reads_as _ _ symbols.Star op2s.Mul found tokens between refl h
operators_read levels.Product found tokens between (inr h) = reads_as _ _ symbols.Slash op2s.Div found tokens between refl h

relation_read : (found : At Op2) (tokens between : List Token) → relation expr tokens found between → ReadsAs Part.MoreRel tokens found.place (Part.Chain levels.Sum ∷ []) between
relation_read found tokens between (inl (inl (inl (inl (inl h))))) = reads_as _ _ symbols.Lt op2s.Lt found tokens between refl h
relation_read found tokens between (inl (inl (inl (inl (inr h))))) = reads_as _ _ symbols.Le op2s.Le found tokens between refl h
relation_read found tokens between (inl (inl (inl (inr h)))) = reads_as _ _ symbols.Gt op2s.Gt found tokens between refl h
relation_read found tokens between (inl (inl (inr h))) = reads_as _ _ symbols.Ge op2s.Ge found tokens between refl h
relation_read found tokens between (inl (inr h)) = reads_as _ _ symbols.Eq op2s.Eq found tokens between refl h
relation_read found tokens between (inr h) = reads_as _ _ symbols.Ne op2s.Ne found tokens between refl h

operand_seen : (level : Level) (tokens : List Token) (value : Expr) (rest : List Token) → operand_rule level tokens value rest → part_rule (operand_part level) tokens (expr_nodes value) rest
operand_seen levels.Or tokens value rest h = (value, h, refl)
operand_seen levels.And tokens value rest h = (value, h, refl)
operand_seen levels.Sum tokens value rest h = (value, h, refl)
operand_seen levels.Product tokens value rest h = (value, h, refl)

more_goes : (level : Level) (more : List (At Op2 × Expr)) (tokens rest : List Token) → more_rule level tokens more rest → GoesIfAny (Part.More level) tokens (flat_map more_nodes more) rest
more_goes level [] tokens rest h = inr (refl, h, refl)
more_goes level (one ∷ more) tokens rest h =
    let k = h.1 in
    let read = operators_read level k.0 tokens k.1 k.2 in
    inl (record {
      token = record { kind = kinds.Symbol read.spelled; place = (k.0).place; end = read.end };
      after = k.1;
      tokens_are = read.tokens_are;
      found = record { then = operand_part level ∷ Part.More level ∷ []; is_node = true };
      moved = read.moved;
      more = expr_nodes k.3.0 ++ flat_map more_nodes more;
      reads = (
        expr_nodes k.3.0,
        h.0,
        flat_map more_nodes more,
        operand_seen level k.1 k.3.0 h.0 (subst (λ ts. operand_rule level k.1 k.3.0 ts) k.3.3.1 k.3.2),
        one_more (Part.More level) h.0 rest (flat_map more_nodes more) (more, h.2, refl),
        refl,
      );
      places_are = ap (λ (p : At Op2 × Expr). more_nodes p ++ flat_map more_nodes more) k.3.3.0;
    })

more_rel_goes : (more : List (At Op2 × Expr)) (tokens rest : List Token) → more_rel tokens more rest → GoesIfAny Part.MoreRel tokens (flat_map more_nodes more) rest
more_rel_goes more tokens rest (inl h) = inr (refl, h.1, ap (λ ms. flat_map more_nodes ms) h.0)
more_rel_goes more tokens rest (inr h) =
    let read = relation_read h.0 tokens h.1 h.2 in
    inl (record {
      token = record { kind = kinds.Symbol read.spelled; place = (h.0).place; end = read.end };
      after = h.1;
      tokens_are = read.tokens_are;
      found = record { then = Part.Chain levels.Sum ∷ []; is_node = true };
      moved = read.moved;
      more = expr_nodes h.3.0;
      reads = one_more (Part.Chain levels.Sum) h.1 rest (expr_nodes h.3.0) (h.3.0, subst (λ ts. sum expr h.1 h.3.0 ts) h.3.3.1 h.3.2, refl);
      places_are = ap (λ ms. flat_map more_nodes ms) h.3.3.0 ∙ append-nil (more_nodes (h.0, h.3.0));
    })

pub plain_then : (part : Part) (parts : List Part) (tokens between rest : List Token) (more : List ℕ) → part_rule part tokens [] between → parts_rule parts between more rest → parts_rule (part ∷ parts) tokens more rest
plain_then part parts tokens between rest more h k = ([], between, more, h, k, refl)

components_go : (parts : List (At Axis)) (tokens rest : List Token) → many component tokens parts rest → GoesIfAny Part.MorePost tokens (flat_map component_nodes parts) rest
components_go [] tokens rest h = inr (refl, h, refl)
components_go (of ∷ parts) tokens rest h =
    let k = h.1 in
    inl (record {
      token = record { kind = kinds.Symbol symbols.Dot; place = k.0; end = (k.2).0 };
      after = k.1;
      tokens_are = (k.2).1;
      found = record { then = Part.AxisName ∷ Part.MorePost ∷ []; is_node = true };
      moved = refl;
      more = flat_map component_nodes parts;
      reads = plain_then Part.AxisName (Part.MorePost ∷ []) k.1 h.0 rest _ (k.3.0, subst (λ ts. axis k.1 k.3.0 ts) k.3.3.1 k.3.2, refl)
          (one_more Part.MorePost h.0 rest (flat_map component_nodes parts) (parts, h.2, refl));
      places_are = ap (λ (o : At Axis). component_nodes o ++ flat_map component_nodes parts) k.3.3.0;
    })

-- ---- one token

-- a part that is one token, which is no node's
token_goes : (part : Part) (read : TokenKind) (place end : ℕ) (tokens rest : List Token) (places : List ℕ) → move part read ≡ Some (record { then = []; is_node = false })
    → tokens ≡ record { kind = read; place = place; end = end } ∷ rest → places ≡ [] → Goes part tokens places rest
token_goes part read place end tokens rest places moved tokens_are none = record {
  token = record { kind = read; place = place; end = end };
  after = rest;
  tokens_are = tokens_are;
  found = record { then = []; is_node = false };
  moved = moved;
  more = [];
  reads = (refl, refl);
  places_are = none;
}

-- the token of a kind, where the rest is another's
token_then : (read : TokenKind) (place end : ℕ) (tokens between rest : List Token) → tokens ≡ record { kind = read; place = place; end = end } ∷ between → between ≡ rest → tokens ≡ record { kind = read; place = place; end = end } ∷ rest
token_then read place end tokens between rest e f = e ∙ ap (λ ts. record { kind = read; place = place; end = end } ∷ ts) f

same_self : (spelled : Symbol) → same_symbol spelled spelled ≡ true
same_self symbols.Plus = refl
same_self _ = refl

axis_moved : (along : Axis) → move Part.AxisName (kinds.Name (axis_letter along)) ≡ Some (record { then = []; is_node = false })
axis_moved axes.X = refl
axis_moved axes.Y = refl
axis_moved axes.Z = refl

exactly_moved : (spelled : Symbol) → move (Part.Exactly spelled) (kinds.Symbol spelled) ≡ Some (record { then = []; is_node = false })
exactly_moved spelled = rw same_self refl

module _ (tokens rest : List Token) (places : List ℕ) (none : places ≡ []) where
  kind_goes : (value : Kind) → kind tokens value rest → Goes Part.KindWord tokens places rest
  kind_goes value (inl h) = token_goes Part.KindWord (kinds.Word words.Num) h.0 (h.2).0 tokens rest places refl (token_then _ _ _ tokens h.1 rest (h.2).1 h.3.1) none
  kind_goes value (inr h) = token_goes Part.KindWord (kinds.Word words.Vec) h.0 (h.2).0 tokens rest places refl (token_then _ _ _ tokens h.1 rest (h.2).1 h.3.1) none

  combine_goes : (value : Combine) → combine tokens value rest → Goes Part.CombineWord tokens places rest
  combine_goes value (inl (inl h)) = token_goes Part.CombineWord (kinds.Word words.Sum) h.0 (h.2).0 tokens rest places refl (token_then _ _ _ tokens h.1 rest (h.2).1 h.3.1) none
  combine_goes value (inl (inr h)) = token_goes Part.CombineWord (kinds.Word words.Max) h.0 (h.2).0 tokens rest places refl (token_then _ _ _ tokens h.1 rest (h.2).1 h.3.1) none
  combine_goes value (inr h) = token_goes Part.CombineWord (kinds.Word words.Min) h.0 (h.2).0 tokens rest places refl (token_then _ _ _ tokens h.1 rest (h.2).1 h.3.1) none

  assign_goes : (value : List ℕ → Expr → Act) → ((symbol symbols.Assign >> pure acts.Set) or (symbol symbols.Add >> pure acts.Give)) tokens value rest → Goes Part.Assign tokens places rest
  assign_goes value (inl h) = token_goes Part.Assign (kinds.Symbol symbols.Assign) h.0 (h.2).0 tokens rest places refl (token_then _ _ _ tokens h.1 rest (h.2).1 h.3.1) none
  assign_goes value (inr h) = token_goes Part.Assign (kinds.Symbol symbols.Add) h.0 (h.2).0 tokens rest places refl (token_then _ _ _ tokens h.1 rest (h.2).1 h.3.1) none

  scale_if_any_goes : (value : ℕ) → scale_if_any tokens value rest → GoesIfAny Part.ScaleIfAny tokens places rest
  scale_if_any_goes value (inl h) = inl (token_goes Part.ScaleIfAny (kinds.Scale (h.0).held) (h.0).place (h.2).0 tokens rest places refl (token_then _ _ _ tokens h.1 rest (h.2).1 h.3.1) none)
  scale_if_any_goes value (inr h) = inr (refl, h.1, none)

  signed_goes : (value : ℤ) → signed tokens value rest → Goes Part.Signed tokens places rest
  signed_goes value (inl h) = token_goes Part.Signed (kinds.Number (h.0).held) (h.0).place (h.2).0 tokens rest places refl (token_then _ _ _ tokens h.1 rest (h.2).1 h.3.1) none
  signed_goes value (inr h) = record {
    token = record { kind = kinds.Symbol symbols.Minus; place = h.0; end = (h.2).0 };
    after = h.1;
    tokens_are = (h.2).1;
    found = record { then = Part.Number ∷ []; is_node = false };
    moved = refl;
    more = [];
    reads = plain_then Part.Number [] h.1 h.3.1 rest [] (h.3.0, h.3.2, refl) (ends h.3.1 rest h.3.3.1);
    places_are = none;
  }

-- ---- declarations

module _ (declared : Decl) (decls : List Decl) (tokens between rest : List Token) (more : many decl between decls rest) where
  decls_after : (before : List Token) → before ≡ between → parts_rule (Part.Decls ∷ []) before (flat_map decl_nodes decls) rest
  decls_after before e = one_more Part.Decls before rest (flat_map decl_nodes decls) (decls, subst (λ ts. many decl ts decls rest) (sym e) more, refl)

  abbrev DeclGoes : Type 0
  DeclGoes = Goes Part.Decls tokens (flat_map decl_nodes (declared ∷ decls)) rest

  field_goes : (spelled : Word) (what : Kind → ℕ → List ℕ → DeclKind)
      → move Part.Decls (kinds.Word spelled) ≡ Some (record { then = Part.KindWord ∷ Part.Scale ∷ Part.Name ∷ Part.Exactly symbols.Colon ∷ Part.Name ∷ Part.Exactly symbols.Semicolon ∷ Part.Decls ∷ []; is_node = true })
      → field_of spelled what tokens declared between → DeclGoes
  field_goes spelled what moved h =
      let of_kind = h.3 in
      let bits = of_kind.3 in
      let called = bits.3 in
      let colon = called.3 in
      let field = colon.3 in
      let semicolon = field.3 in
      record {
        token = record { kind = kinds.Word spelled; place = h.0; end = (h.2).0 };
        after = h.1;
        tokens_are = (h.2).1;
        found = record { then = Part.KindWord ∷ Part.Scale ∷ Part.Name ∷ Part.Exactly symbols.Colon ∷ Part.Name ∷ Part.Exactly symbols.Semicolon ∷ Part.Decls ∷ []; is_node = true };
        moved = moved;
        more = flat_map decl_nodes decls;
        reads = plain_then Part.KindWord (Part.Scale ∷ Part.Name ∷ Part.Exactly symbols.Colon ∷ Part.Name ∷ Part.Exactly symbols.Semicolon ∷ Part.Decls ∷ []) h.1 of_kind.1 rest _ (of_kind.0, of_kind.2, refl)
            (plain_then Part.Scale (Part.Name ∷ Part.Exactly symbols.Colon ∷ Part.Name ∷ Part.Exactly symbols.Semicolon ∷ Part.Decls ∷ []) of_kind.1 bits.1 rest _ (bits.0, bits.2, refl)
            (plain_then Part.Name (Part.Exactly symbols.Colon ∷ Part.Name ∷ Part.Exactly symbols.Semicolon ∷ Part.Decls ∷ []) bits.1 called.1 rest _ (called.0, called.2, refl)
            (symbol_then symbols.Colon (Part.Name ∷ Part.Exactly symbols.Semicolon ∷ Part.Decls ∷ []) colon.0 called.1 colon.1 rest _ colon.2
            (plain_then Part.Name (Part.Exactly symbols.Semicolon ∷ Part.Decls ∷ []) colon.1 field.1 rest _ (field.0, field.2, refl)
            (symbol_then symbols.Semicolon (Part.Decls ∷ []) semicolon.0 field.1 semicolon.1 rest _ semicolon.2 (decls_after semicolon.1 semicolon.3.1))))));
        places_are = ap (λ (d : Decl). decl_nodes d ++ flat_map decl_nodes decls) semicolon.3.0;
      }

  force_goes : force tokens declared between → DeclGoes
  force_goes h =
      let of_kind = h.3 in
      let bits = of_kind.3 in
      let called = bits.3 in
      let combined = called.3 in
      let semicolon = combined.3 in
      record {
        token = record { kind = kinds.Word words.Force; place = h.0; end = (h.2).0 };
        after = h.1;
        tokens_are = (h.2).1;
        found = record { then = Part.KindWord ∷ Part.Scale ∷ Part.Name ∷ Part.CombineWord ∷ Part.Exactly symbols.Semicolon ∷ Part.Decls ∷ []; is_node = true };
        moved = refl;
        more = flat_map decl_nodes decls;
        reads = plain_then Part.KindWord (Part.Scale ∷ Part.Name ∷ Part.CombineWord ∷ Part.Exactly symbols.Semicolon ∷ Part.Decls ∷ []) h.1 of_kind.1 rest _ (of_kind.0, of_kind.2, refl)
            (plain_then Part.Scale (Part.Name ∷ Part.CombineWord ∷ Part.Exactly symbols.Semicolon ∷ Part.Decls ∷ []) of_kind.1 bits.1 rest _ (bits.0, bits.2, refl)
            (plain_then Part.Name (Part.CombineWord ∷ Part.Exactly symbols.Semicolon ∷ Part.Decls ∷ []) bits.1 called.1 rest _ (called.0, called.2, refl)
            (plain_then Part.CombineWord (Part.Exactly symbols.Semicolon ∷ Part.Decls ∷ []) called.1 combined.1 rest _ (combined.0, combined.2, refl)
            (symbol_then symbols.Semicolon (Part.Decls ∷ []) semicolon.0 combined.1 semicolon.1 rest _ semicolon.2 (decls_after semicolon.1 semicolon.3.1)))));
        places_are = ap (λ (d : Decl). decl_nodes d ++ flat_map decl_nodes decls) semicolon.3.0;
      }

  param_goes : param tokens declared between → DeclGoes
  param_goes h =
      let bits = h.3 in
      let called = bits.3 in
      let assign = called.3 in
      let value = assign.3 in
      let semicolon = value.3 in
      record {
        token = record { kind = kinds.Word words.Param; place = h.0; end = (h.2).0 };
        after = h.1;
        tokens_are = (h.2).1;
        found = record { then = Part.Scale ∷ Part.Name ∷ Part.Exactly symbols.Assign ∷ Part.Signed ∷ Part.Exactly symbols.Semicolon ∷ Part.Decls ∷ []; is_node = true };
        moved = refl;
        more = flat_map decl_nodes decls;
        reads = plain_then Part.Scale (Part.Name ∷ Part.Exactly symbols.Assign ∷ Part.Signed ∷ Part.Exactly symbols.Semicolon ∷ Part.Decls ∷ []) h.1 bits.1 rest _ (bits.0, bits.2, refl)
            (plain_then Part.Name (Part.Exactly symbols.Assign ∷ Part.Signed ∷ Part.Exactly symbols.Semicolon ∷ Part.Decls ∷ []) bits.1 called.1 rest _ (called.0, called.2, refl)
            (symbol_then symbols.Assign (Part.Signed ∷ Part.Exactly symbols.Semicolon ∷ Part.Decls ∷ []) assign.0 called.1 assign.1 rest _ assign.2
            (plain_then Part.Signed (Part.Exactly symbols.Semicolon ∷ Part.Decls ∷ []) assign.1 value.1 rest _ (value.0, value.2, refl)
            (symbol_then symbols.Semicolon (Part.Decls ∷ []) semicolon.0 value.1 semicolon.1 rest _ semicolon.2 (decls_after semicolon.1 semicolon.3.1)))));
        places_are = ap (λ (d : Decl). decl_nodes d ++ flat_map decl_nodes decls) semicolon.3.0;
      }

  decl_goes : decl tokens declared between → DeclGoes
  decl_goes (inl (inl (inl h))) = field_goes words.Epi _ refl h
  decl_goes (inl (inl (inr h))) = field_goes words.Epj _ refl h
  decl_goes (inl (inr h)) = force_goes h
  decl_goes (inr h) = param_goes h

decls_go : (decls : List Decl) (tokens rest : List Token) → many decl tokens decls rest → GoesIfAny Part.Decls tokens (flat_map decl_nodes decls) rest
decls_go [] tokens rest h = inr (refl, h, refl)
decls_go (declared ∷ decls) tokens rest h = inl (decl_goes declared decls tokens h.0 rest h.2 h.1)

-- ---- statements

abbrev assign_act : Rule (List ℕ → Expr → Act)
assign_act = (symbol symbols.Assign >> pure acts.Set) or (symbol symbols.Add >> pure acts.Give)

act_nodes_are : TreesByForm → (act : List ℕ → Expr → Act) (tokens between : List Token) → assign_act tokens act between → (place : ℕ) (target : List ℕ) (value : Expr) → stmt_nodes (stmt_node place (act target value)) ≡ place ∷ expr_nodes value
act_nodes_are tree act tokens between (inl h) place target value = ap (λ (a : List ℕ → Expr → Act). stmt_nodes (stmt_node place (a target value))) h.3.0 ∙ tree.nodes.set place target value
act_nodes_are tree act tokens between (inr h) place target value = ap (λ (a : List ℕ → Expr → Act). stmt_nodes (stmt_node place (a target value))) h.3.0 ∙ tree.nodes.give place target value

module _ (tree : TreesByForm) (statement : Stmt) (stmts : List Stmt) (tokens between rest : List Token) (more : many stmt between stmts rest) where
  stmts_after : (before : List Token) → before ≡ between → parts_rule (Part.Stmts ∷ []) before (flat_map stmt_nodes stmts) rest
  stmts_after before e = one_more Part.Stmts before rest (flat_map stmt_nodes stmts) (stmts, subst (λ ts. many stmt ts stmts rest) (sym e) more, refl)

  abbrev StmtGoes : Type 0
  StmtGoes = Goes Part.Stmts tokens (flat_map stmt_nodes (statement ∷ stmts)) rest

  assignment_goes : assignment tokens statement between → StmtGoes
  assignment_goes h =
      let act = h.3 in
      let value = act.3 in
      let semicolon = value.3 in
      record {
        token = record { kind = kinds.Name (h.0).held; place = (h.0).place; end = (h.2).0 };
        after = h.1;
        tokens_are = (h.2).1;
        found = record { then = Part.Assign ∷ Part.Chain levels.Or ∷ Part.Exactly symbols.Semicolon ∷ Part.Stmts ∷ []; is_node = true };
        moved = refl;
        more = expr_nodes value.0 ++ flat_map stmt_nodes stmts;
        reads = plain_then Part.Assign (Part.Chain levels.Or ∷ Part.Exactly symbols.Semicolon ∷ Part.Stmts ∷ []) h.1 act.1 rest _ (act.0, act.2, refl)
            (expr_then tree (Part.Exactly symbols.Semicolon ∷ Part.Stmts ∷ []) value.0 act.1 value.1 rest _ value.2
            (symbol_then symbols.Semicolon (Part.Stmts ∷ []) semicolon.0 value.1 semicolon.1 rest _ semicolon.2 (stmts_after semicolon.1 semicolon.3.1)));
        places_are = ap (λ (s : Stmt). stmt_nodes s ++ flat_map stmt_nodes stmts) semicolon.3.0
            ∙ ap (λ ns. ns ++ flat_map stmt_nodes stmts) (act_nodes_are tree act.0 h.1 act.1 act.2 (h.0).place (h.0).held value.0);
      }

  conditional_goes : conditional stmt tokens statement between → StmtGoes
  conditional_goes h =
      let condition = h.3 in
      let body = condition.3 in
      let others = body.3 in
      record {
        token = record { kind = kinds.Word words.If; place = h.0; end = (h.2).0 };
        after = h.1;
        tokens_are = (h.2).1;
        found = record { then = Part.Chain levels.Or ∷ Part.Block ∷ Part.ElseBlock ∷ Part.Stmts ∷ []; is_node = true };
        moved = refl;
        more = expr_nodes condition.0 ++ (flat_map stmt_nodes body.0 ++ (flat_map stmt_nodes others.0 ++ flat_map stmt_nodes stmts));
        reads = expr_then tree (Part.Block ∷ Part.ElseBlock ∷ Part.Stmts ∷ []) condition.0 h.1 condition.1 rest _ condition.2 (
          flat_map stmt_nodes body.0,
          body.1,
          flat_map stmt_nodes others.0 ++ flat_map stmt_nodes stmts,
          (body.0, body.2, refl),
          (flat_map stmt_nodes others.0, others.1, flat_map stmt_nodes stmts, (others.0, others.2, refl), stmts_after others.1 others.3.1, refl),
          refl,
        );
        places_are = ap (λ (s : Stmt). stmt_nodes s ++ flat_map stmt_nodes stmts) others.3.0
            ∙ ap (λ ns. ns ++ flat_map stmt_nodes stmts) (tree.nodes.conditional h.0 condition.0 body.0 others.0)
            ∙ ap (λ ns. h.0 ∷ ns) (append_assoc (expr_nodes condition.0 ++ flat_map stmt_nodes body.0) (flat_map stmt_nodes others.0) (flat_map stmt_nodes stmts)
            ∙ append_assoc (expr_nodes condition.0) (flat_map stmt_nodes body.0) (flat_map stmt_nodes others.0 ++ flat_map stmt_nodes stmts));
      }

  stmt_goes : stmt_over stmt tokens statement between → StmtGoes
  stmt_goes (inl h) = assignment_goes h
  stmt_goes (inr h) = conditional_goes h

stmts_go : TreesByForm → (stmts : List Stmt) (tokens rest : List Token) → many stmt tokens stmts rest → GoesIfAny Part.Stmts tokens (flat_map stmt_nodes stmts) rest
stmts_go tree [] tokens rest h = inr (refl, h, refl)
stmts_go tree (statement ∷ stmts) tokens rest h = inl (stmt_goes tree statement stmts tokens h.0 rest h.2 (tree.statements.onward tokens statement h.0 h.1))

block_goes : (body : List Stmt) (tokens rest : List Token) → block stmt tokens body rest → Goes Part.Block tokens (flat_map stmt_nodes body) rest
block_goes body tokens rest h =
    let k = h.3 in
    let close = k.3 in
    record {
      token = record { kind = kinds.Symbol symbols.OpenCurly; place = h.0; end = (h.2).0 };
      after = h.1;
      tokens_are = (h.2).1;
      found = record { then = Part.Stmts ∷ Part.Exactly symbols.CloseCurly ∷ []; is_node = false };
      moved = refl;
      more = flat_map stmt_nodes k.0 ++ [];
      reads = (flat_map stmt_nodes k.0, k.1, [], (k.0, k.2, refl), symbol_then symbols.CloseCurly [] close.0 k.1 close.1 rest [] close.2 (ends close.1 rest close.3.1), refl);
      places_are = ap (λ ss. flat_map stmt_nodes ss) close.3.0 ∙ sym (append-nil (flat_map stmt_nodes k.0));
    }

else_goes : (body : List Stmt) (tokens rest : List Token) → else_block tokens body rest → GoesIfAny Part.ElseBlock tokens (flat_map stmt_nodes body) rest
else_goes body tokens rest (inl h) = inl (record {
  token = record { kind = kinds.Word words.Else; place = h.0; end = (h.2).0 };
  after = h.1;
  tokens_are = (h.2).1;
  found = record { then = Part.Block ∷ []; is_node = false };
  moved = refl;
  more = flat_map stmt_nodes body;
  reads = one_more Part.Block h.1 rest (flat_map stmt_nodes body) (body, h.3, refl);
  places_are = refl;
})
else_goes body tokens rest (inr h) = inr (refl, h.1, ap (λ ss. flat_map stmt_nodes ss) h.0)

-- ---- every part

any_with_places : (part : Part) (tokens rest : List Token) (places others : List ℕ) → others ≡ places → GoesIfAny part tokens places rest → GoesIfAny part tokens others rest
any_with_places part tokens rest places others e (inl g) = inl (with_places part tokens rest places others e g)
any_with_places part tokens rest places others e (inr h) = inr (h.0, h.1, e ∙ h.2)

chain_part_goes : TreesByForm → (level : Level) (tokens : List Token) (value : Expr) (rest : List Token) → part_rule (Part.Chain level) tokens (expr_nodes value) rest → Goes (Part.Chain level) tokens (expr_nodes value) rest
chain_part_goes tree levels.Or tokens value rest h = with_places _ tokens rest _ _ h.2 (over_goes tree tokens h.0 rest h.1)
chain_part_goes tree levels.And tokens value rest h = with_places _ tokens rest _ _ h.2 (both_goes tree tokens h.0 rest h.1)
chain_part_goes tree levels.Sum tokens value rest h = with_places _ tokens rest _ _ h.2 (sum_goes tree tokens h.0 rest h.1)
chain_part_goes tree levels.Product tokens value rest h = with_places _ tokens rest _ _ h.2 (product_goes tree tokens h.0 rest h.1)

pub part_goes : TreesByForm → (part : Part) (tokens : List Token) (places : List ℕ) (rest : List Token) → part_rule part tokens places rest → GoesIfAny part tokens places rest
part_goes tree Part.Decls tokens places rest h = any_with_places _ tokens rest _ places h.2 (decls_go h.0 tokens rest h.1)
part_goes tree Part.Stmts tokens places rest h = any_with_places _ tokens rest _ places h.2 (stmts_go tree h.0 tokens rest h.1)
part_goes tree Part.KindWord tokens places rest h = inl (kind_goes tokens rest places h.2 h.0 h.1)
part_goes tree Part.CombineWord tokens places rest h = inl (combine_goes tokens rest places h.2 h.0 h.1)
part_goes tree Part.Scale tokens places rest h = inl (token_goes Part.Scale (kinds.Scale (h.0).held) (h.0).place (h.1).0 tokens rest places refl (h.1).1 h.2)
part_goes tree Part.Name tokens places rest h = inl (token_goes Part.Name (kinds.Name (h.0).held) (h.0).place (h.1).0 tokens rest places refl (h.1).1 h.2)
part_goes tree Part.Signed tokens places rest h = inl (signed_goes tokens rest places h.2 h.0 h.1)
part_goes tree Part.Number tokens places rest h = inl (token_goes Part.Number (kinds.Number (h.0).held) (h.0).place (h.1).0 tokens rest places refl (h.1).1 h.2)
part_goes tree Part.Assign tokens places rest h = inl (assign_goes tokens rest places h.2 h.0 h.1)
part_goes tree Part.Block tokens places rest h = inl (with_places _ tokens rest _ places h.2 (block_goes h.0 tokens rest h.1))
part_goes tree Part.ElseBlock tokens places rest h = any_with_places _ tokens rest _ places h.2 (else_goes h.0 tokens rest h.1)
part_goes tree (Part.Exactly spelled) tokens places rest h = inl (token_goes (Part.Exactly spelled) (kinds.Symbol spelled) h.0 (h.1).0 tokens rest places (exactly_moved spelled) (h.1).1 h.2)
part_goes tree (Part.Chain level) tokens places rest h = inl (with_places _ tokens rest _ places h.2 (chain_part_goes tree level tokens h.0 rest (h.0, h.1, refl)))
part_goes tree (Part.More level) tokens places rest h = any_with_places _ tokens rest _ places h.2 (more_goes level h.0 tokens rest h.1)
part_goes tree Part.Rel tokens places rest h = inl (with_places _ tokens rest _ places h.2 (rel_goes tree tokens h.0 rest h.1))
part_goes tree Part.MoreRel tokens places rest h = any_with_places _ tokens rest _ places h.2 (more_rel_goes h.0 tokens rest h.1)
part_goes tree Part.Unary tokens places rest h = inl (with_places _ tokens rest _ places h.2 (unary_goes tree tokens h.0 rest h.1))
part_goes tree Part.Post tokens places rest h = inl (with_places _ tokens rest _ places h.2 (post_goes tree tokens h.0 rest h.1))
part_goes tree Part.MorePost tokens places rest h = any_with_places _ tokens rest _ places h.2 (components_go h.0 tokens rest h.1)
part_goes tree Part.Prim tokens places rest h = inl (with_places _ tokens rest _ places h.2 (prim_goes tree tokens h.0 rest h.1))
part_goes tree Part.ScaleIfAny tokens places rest h = scale_if_any_goes tokens rest places h.2 h.0 h.1
part_goes tree Part.AxisName tokens places rest h = inl (token_goes Part.AxisName (kinds.Name (axis_letter h.0)) (h.1).0 ((h.1).1).0 tokens rest places (axis_moved h.0) ((h.1).1).1 h.2)
