-- Every part is completed by what the move at its first token requires, and so is every stack of parts.
use Rattle.std.proofs.Common.{◌≡◌, ℕ, List, [], ◌∷◌, ◌++◌, Bool, true, false, cond, flat_map, Option, Some, None, inl, inr, refl, sym, ap, ◌∙◌, subst, codes, bytes_eq, pos, neg_ℤ}
use Rattle.std.proofs.lemmas.Slice.Eq.{bytes_eq-Decides}
use Rattle.kern_token.specs.declared.token.Symbol.{Symbol}
use Rattle.kern_token.specs.declared.token.Symbol.TheVariants as symbols
use Rattle.kern_token.specs.declared.token.Token.{Token}
use Rattle.kern_token.specs.declared.token.TokenKind.{TokenKind}
use Rattle.kern_token.specs.declared.token.TokenKind.TheVariants as kinds
use Rattle.kern_token.specs.declared.token.Word.{Word}
use Rattle.kern_token.specs.declared.token.Word.TheVariants as words
use Rattle.kern_tree.specs.declared.expr.Expr.{Expr}
use Rattle.kern_tree.specs.declared.expr.Op2.{Op2}
use Rattle.kern_tree.specs.declared.expr.Op2.TheVariants as op2s
use Rattle.kern_tree.specs.declared.kernel.Combine.TheVariants as combines
use Rattle.kern_tree.specs.declared.kernel.Decl.{Decl}
use Rattle.kern_tree.specs.declared.kernel.DeclKind.{DeclKind}
use Rattle.kern_tree.specs.declared.kernel.DeclKind.TheVariants as declared_as
use Rattle.kern_tree.specs.declared.kernel.Kind.{Kind}
use Rattle.kern_tree.specs.declared.kernel.Kind.TheVariants as kinds_of
use Rattle.kern_tree.specs.declared.stmt.Act.TheVariants as acts
use Rattle.kern_tree.specs.declared.stmt.Stmt.{Stmt}
use Rattle.pf_geom.specs.declared.axis.Axis.{Axis}
use Rattle.pf_geom.specs.declared.axis.Axis.TheVariants as axes
use Rattle.kern_tree.specs.Grammar.{decl_node, decl, field_of, axis_letter, operator, relation, component, expr, stmt_node, stmt, stmt_over, block}
use Rattle.kern_tree.specs.Nodes.{stmt_nodes}
use Rattle.kern_tree.specs.Rules.{At, many}
use Rattle.kern_tree.specs.Unrolled.{TreesByForm}
use Rattle.kern_parse.specs.declared.operators.Level.{Level}
use Rattle.kern_parse.specs.declared.operators.Level.TheVariants as levels
use Rattle.kern_parse.specs.Required.{Part, Move, move, same_symbol, exactly_move, axis_at, axis_move, operand as operand_part, is_optional, moves, chosen}
use Rattle.kern_parse.proofs.ExpressionCompletions.{at, CompletesBy, Completes, operand_of, completes_prim, completes_post, completes_unary, completes_product, completes_sum, completes_rel, completes_both, completes_over}
use Rattle.kern_parse.proofs.PartRules.{more_nodes, component_nodes, decl_nodes, operators, more_rule, part_rule, parts_rule, parts_split, part_left_out}

-- ---- symbols and axes that a test tells

same_is : (a b : Symbol) → same_symbol a b ≡ true → a ≡ b
same_is symbols.Plus symbols.Plus e = refl
same_is symbols.Minus symbols.Minus e = refl
same_is symbols.Star symbols.Star e = refl
same_is symbols.Slash symbols.Slash e = refl
same_is symbols.OpenRound symbols.OpenRound e = refl
same_is symbols.CloseRound symbols.CloseRound e = refl
same_is symbols.OpenCurly symbols.OpenCurly e = refl
same_is symbols.CloseCurly symbols.CloseCurly e = refl
same_is symbols.Comma symbols.Comma e = refl
same_is symbols.Semicolon symbols.Semicolon e = refl
same_is symbols.Colon symbols.Colon e = refl
same_is symbols.Dot symbols.Dot e = refl
same_is symbols.Assign symbols.Assign e = refl
same_is symbols.Add symbols.Add e = refl
same_is symbols.Lt symbols.Lt e = refl
same_is symbols.Le symbols.Le e = refl
same_is symbols.Gt symbols.Gt e = refl
same_is symbols.Ge symbols.Ge e = refl
same_is symbols.Eq symbols.Eq e = refl
same_is symbols.Ne symbols.Ne e = refl
same_is symbols.And symbols.And e = refl
same_is symbols.Or symbols.Or e = refl
same_is symbols.Not symbols.Not e = refl
same_is _ _ e = absurd (not_so e)
  where
    not_so : false ≡ true → ⊥
    not_so e = cc

some_axis : (a b c : Bool) (along : Axis) (P : Axis → Type 0) → (a ≡ true → P axes.X) → (b ≡ true → P axes.Y) → (c ≡ true → P axes.Z)
    → cond a (Some axes.X) (cond b (Some axes.Y) (cond c (Some axes.Z) None)) ≡ Some along → P along
some_axis true b c along P x y z e = let f : axes.X ≡ along = cc in subst P f (x refl)
some_axis false true c along P x y z e = let f : axes.Y ≡ along = cc in subst P f (y refl)
some_axis false false true along P x y z e = let f : axes.Z ≡ along = cc in subst P f (z refl)
some_axis false false false along P x y z e = absurd (let never : None ≡ Some along = e in cc)

axis_told : (name : List ℕ) (along : Axis) → axis_at name ≡ Some along → name ≡ axis_letter along
axis_told name along e = some_axis (bytes_eq name (codes "x")) (bytes_eq name (codes "y")) (bytes_eq name (codes "z")) along (λ a. name ≡ axis_letter a)
    ((bytes_eq-Decides name (codes "x")).0) ((bytes_eq-Decides name (codes "y")).0) ((bytes_eq-Decides name (codes "z")).0) e

-- ---- what follows an operand

operator_at : (spelled : Symbol) (op : Op2) (place end : ℕ) (tokens : List Token) → operator spelled op (at (kinds.Symbol spelled) place end ∷ tokens) (record { place = place; held = op }) tokens
operator_at spelled op place end tokens = (place, tokens, (end, refl), (refl, refl))

more_of : (level : Level) (op : At Op2) (before tokens : List Token) (places : List ℕ) (rest : List Token) → operators level before op tokens
    → parts_rule (operand_part level ∷ Part.More level ∷ []) tokens places rest → (all : List ℕ) × part_rule (Part.More level) before all rest
more_of level op before tokens places rest read h =
    let right = operand_of level tokens h.0 h.1 (h.3) in
    let others = h.4 in
    let more = others.3 in
    let whole : List (At Op2 × Expr) = (op, right.0) ∷ more.0 in
    (flat_map more_nodes whole, (whole, (h.1, (op, tokens, read, (right.0, h.1, right.1, (refl, refl))), subst (λ ts. more_rule level h.1 more.0 ts) others.4.1 more.1), refl))

completes_more : (level : Level) (kind : TokenKind) → Completes (Part.More level) kind
completes_more levels.Or (kinds.Symbol symbols.Or) = λ place end tokens places rest h. more_of levels.Or (record { place = place; held = op2s.Or }) _ tokens places rest (operator_at symbols.Or op2s.Or place end tokens) h
completes_more levels.And (kinds.Symbol symbols.And) = λ place end tokens places rest h. more_of levels.And (record { place = place; held = op2s.And }) _ tokens places rest (operator_at symbols.And op2s.And place end tokens) h
completes_more levels.Sum (kinds.Symbol symbols.Plus) = λ place end tokens places rest h. more_of levels.Sum (record { place = place; held = op2s.Add }) _ tokens places rest (inl (operator_at symbols.Plus op2s.Add place end tokens)) h
completes_more levels.Sum (kinds.Symbol symbols.Minus) = λ place end tokens places rest h. more_of levels.Sum (record { place = place; held = op2s.Sub }) _ tokens places rest (inr (operator_at symbols.Minus op2s.Sub place end tokens)) h
completes_more levels.Product (kinds.Symbol symbols.Star) = λ place end tokens places rest h. more_of levels.Product (record { place = place; held = op2s.Mul }) _ tokens places rest (inl (operator_at symbols.Star op2s.Mul place end tokens)) h
completes_more levels.Product (kinds.Symbol symbols.Slash) = λ place end tokens places rest h. more_of levels.Product (record { place = place; held = op2s.Div }) _ tokens places rest (inr (operator_at symbols.Slash op2s.Div place end tokens)) h
completes_more _ _ = tt

more_rel_of : (op : At Op2) (before tokens : List Token) (places : List ℕ) (rest : List Token) → relation expr before op tokens
    → parts_rule (Part.Chain levels.Sum ∷ []) tokens places rest → (all : List ℕ) × part_rule Part.MoreRel before all rest
more_rel_of op before tokens places rest read h =
    let right = h.3 in
    let whole : List (At Op2 × Expr) = (op, right.0) ∷ [] in
    (flat_map more_nodes whole, (whole, inr (op, tokens, read, (right.0, h.1, right.1, (refl, h.4.1))), refl))

completes_more_rel : (kind : TokenKind) → Completes Part.MoreRel kind
completes_more_rel (kinds.Symbol symbols.Lt) = λ place end tokens places rest h. more_rel_of (record { place = place; held = op2s.Lt }) _ tokens places rest (inl (inl (inl (inl (inl (operator_at symbols.Lt op2s.Lt place end tokens)))))) h
completes_more_rel (kinds.Symbol symbols.Le) = λ place end tokens places rest h. more_rel_of (record { place = place; held = op2s.Le }) _ tokens places rest (inl (inl (inl (inl (inr (operator_at symbols.Le op2s.Le place end tokens)))))) h
completes_more_rel (kinds.Symbol symbols.Gt) = λ place end tokens places rest h. more_rel_of (record { place = place; held = op2s.Gt }) _ tokens places rest (inl (inl (inl (inr (operator_at symbols.Gt op2s.Gt place end tokens))))) h
completes_more_rel (kinds.Symbol symbols.Ge) = λ place end tokens places rest h. more_rel_of (record { place = place; held = op2s.Ge }) _ tokens places rest (inl (inl (inr (operator_at symbols.Ge op2s.Ge place end tokens)))) h
completes_more_rel (kinds.Symbol symbols.Eq) = λ place end tokens places rest h. more_rel_of (record { place = place; held = op2s.Eq }) _ tokens places rest (inl (inr (operator_at symbols.Eq op2s.Eq place end tokens))) h
completes_more_rel (kinds.Symbol symbols.Ne) = λ place end tokens places rest h. more_rel_of (record { place = place; held = op2s.Ne }) _ tokens places rest (inr (operator_at symbols.Ne op2s.Ne place end tokens)) h
completes_more_rel _ = tt

completes_more_post : (kind : TokenKind) → Completes Part.MorePost kind
completes_more_post (kinds.Symbol symbols.Dot) = λ place end tokens places rest h.
    let along = h.3 in
    let others = h.4 in
    let whole : List (At Axis) = record { place = place; held = along.0 } ∷ (others.3).0 in
    (flat_map component_nodes whole, (whole, (h.1, (place, tokens, (end, refl), (along.0, h.1, along.1, (refl, refl))), subst (λ ts. many component h.1 (others.3).0 ts) others.4.1 (others.3).1), refl))
completes_more_post _ = tt

-- ---- one token

completes_axis : (kind : TokenKind) → Completes Part.AxisName kind
completes_axis (kinds.Name name) = go (axis_at name) refl
  where
    go : (along : Option Axis) → axis_at name ≡ along → CompletesBy Part.AxisName (kinds.Name name) (axis_move along)
    go None e = tt
    go (Some along) e = λ place end tokens places rest h.
        ([], (along, (place, (end, ap (λ name. at (kinds.Name name) place end ∷ tokens) (axis_told name along e) ∙ ap (λ ts. at (kinds.Name (axis_letter along)) place end ∷ ts) h.1)), refl))
completes_axis _ = tt

completes_exactly : (wanted : Symbol) (kind : TokenKind) → Completes (Part.Exactly wanted) kind
completes_exactly wanted (kinds.Symbol symbol) = go (same_symbol wanted symbol) refl
  where
    go : (b : Bool) → same_symbol wanted symbol ≡ b → CompletesBy (Part.Exactly wanted) (kinds.Symbol symbol) (exactly_move b)
    go false e = tt
    go true e = λ place end tokens places rest h.
        ([], (place, (end, ap (λ s. at (kinds.Symbol s) place end ∷ tokens) (sym (same_is wanted symbol e)) ∙ ap (λ ts. at (kinds.Symbol wanted) place end ∷ ts) h.1), refl))
completes_exactly wanted _ = tt

completes_kind : (kind : TokenKind) → Completes Part.KindWord kind
completes_kind (kinds.Word words.Num) = λ place end tokens places rest h. ([], (kinds_of.Num, inl (place, tokens, (end, refl), (refl, h.1)), refl))
completes_kind (kinds.Word words.Vec) = λ place end tokens places rest h. ([], (kinds_of.Vec3, inr (place, tokens, (end, refl), (refl, h.1)), refl))
completes_kind _ = tt

completes_combine : (kind : TokenKind) → Completes Part.CombineWord kind
completes_combine (kinds.Word words.Sum) = λ place end tokens places rest h. ([], (combines.Sum, inl (inl (place, tokens, (end, refl), (refl, h.1))), refl))
completes_combine (kinds.Word words.Max) = λ place end tokens places rest h. ([], (combines.Max, inl (inr (place, tokens, (end, refl), (refl, h.1))), refl))
completes_combine (kinds.Word words.Min) = λ place end tokens places rest h. ([], (combines.Min, inr (place, tokens, (end, refl), (refl, h.1)), refl))
completes_combine _ = tt

completes_scale : (kind : TokenKind) → Completes Part.Scale kind
completes_scale (kinds.Scale bits) = λ place end tokens places rest h. ([], (record { place = place; held = bits }, (end, ap (λ ts. at (kinds.Scale bits) place end ∷ ts) h.1), refl))
completes_scale _ = tt

completes_scale_if_any : (kind : TokenKind) → Completes Part.ScaleIfAny kind
completes_scale_if_any (kinds.Scale bits) = λ place end tokens places rest h. ([], (bits, inl (record { place = place; held = bits }, tokens, (end, refl), (refl, h.1)), refl))
completes_scale_if_any _ = tt

completes_name : (kind : TokenKind) → Completes Part.Name kind
completes_name (kinds.Name name) = λ place end tokens places rest h. ([], (record { place = place; held = name }, (end, ap (λ ts. at (kinds.Name name) place end ∷ ts) h.1), refl))
completes_name _ = tt

completes_number : (kind : TokenKind) → Completes Part.Number kind
completes_number (kinds.Number number) = λ place end tokens places rest h. ([], (record { place = place; held = number }, (end, ap (λ ts. at (kinds.Number number) place end ∷ ts) h.1), refl))
completes_number _ = tt

completes_signed : (kind : TokenKind) → Completes Part.Signed kind
completes_signed (kinds.Number number) = λ place end tokens places rest h. ([], (pos number, inl (record { place = place; held = number }, tokens, (end, refl), (refl, h.1)), refl))
completes_signed (kinds.Symbol symbols.Minus) = λ place end tokens places rest h.
    ([], (neg_ℤ (pos ((h.3).0).held), inr (place, tokens, (end, refl), ((h.3).0, h.1, (h.3).1, (refl, h.4.1))), refl))
completes_signed _ = tt

completes_assign : (kind : TokenKind) → Completes Part.Assign kind
completes_assign (kinds.Symbol symbols.Assign) = λ place end tokens places rest h. ([], (acts.Set, inl (place, tokens, (end, refl), (refl, h.1)), refl))
completes_assign (kinds.Symbol symbols.Add) = λ place end tokens places rest h. ([], (acts.Give, inr (place, tokens, (end, refl), (refl, h.1)), refl))
completes_assign _ = tt

-- ---- declarations

decls_of : (declared : Decl) (decls : List Decl) (before tokens between rest : List Token) → decl before declared tokens → many decl tokens decls between → between ≡ rest → (all : List ℕ) × part_rule Part.Decls before all rest
decls_of declared decls before tokens between rest h more e = (flat_map decl_nodes (declared ∷ decls), (declared ∷ decls, (tokens, h, subst (λ ts. many decl tokens decls ts) e more), refl))

field_completed : (spelled : Word) (what : Kind → ℕ → List ℕ → DeclKind) (place end : ℕ) (tokens : List Token) (places : List ℕ) (rest : List Token)
    → ((declared : Decl) (after : List Token) → field_of spelled what (at (kinds.Word spelled) place end ∷ tokens) declared after → decl (at (kinds.Word spelled) place end ∷ tokens) declared after)
    → parts_rule (Part.KindWord ∷ Part.Scale ∷ Part.Name ∷ Part.Exactly symbols.Colon ∷ Part.Name ∷ Part.Exactly symbols.Semicolon ∷ Part.Decls ∷ []) tokens places rest
    → (all : List ℕ) × part_rule Part.Decls (at (kinds.Word spelled) place end ∷ tokens) all rest
field_completed spelled what place end tokens places rest among h =
    let bits = h.4 in
    let called = bits.4 in
    let colon = called.4 in
    let field = colon.4 in
    let semicolon = field.4 in
    let others = semicolon.4 in
    let declared : Decl = decl_node place ((called.3).0).held (what (h.3).0 ((bits.3).0).held ((field.3).0).held) in
    decls_of declared (others.3).0 _ semicolon.1 others.1 rest
    (among declared semicolon.1 (
      place,
      tokens,
      (end, refl),
      (
        (h.3).0,
        h.1,
        (h.3).1,
        (
          (bits.3).0,
          bits.1,
          (bits.3).1,
          (
            (called.3).0,
            called.1,
            (called.3).1,
            (
              (colon.3).0,
              colon.1,
              (colon.3).1,
              (
                (field.3).0,
                field.1,
                (field.3).1,
                ((semicolon.3).0, semicolon.1, (semicolon.3).1, (refl, refl)),
              ),
            ),
          ),
        ),
      ),
    ))
    (others.3).1 others.4.1

completes_decls : (kind : TokenKind) → Completes Part.Decls kind
completes_decls (kinds.Word words.Epi) = λ place end tokens places rest h. field_completed words.Epi declared_as.Epi place end tokens places rest (λ declared after k. inl (inl (inl k))) h
completes_decls (kinds.Word words.Epj) = λ place end tokens places rest h. field_completed words.Epj declared_as.Epj place end tokens places rest (λ declared after k. inl (inl (inr k))) h
completes_decls (kinds.Word words.Force) = λ place end tokens places rest h.
    let bits = h.4 in
    let called = bits.4 in
    let combined = called.4 in
    let semicolon = combined.4 in
    let others = semicolon.4 in
    decls_of (decl_node place ((called.3).0).held (declared_as.Force (h.3).0 ((bits.3).0).held (combined.3).0)) (others.3).0 _ semicolon.1 others.1 rest
    (inl (inr (
      place,
      tokens,
      (end, refl),
      (
        (h.3).0,
        h.1,
        (h.3).1,
        (
          (bits.3).0,
          bits.1,
          (bits.3).1,
          (
            (called.3).0,
            called.1,
            (called.3).1,
            (
              (combined.3).0,
              combined.1,
              (combined.3).1,
              ((semicolon.3).0, semicolon.1, (semicolon.3).1, (refl, refl)),
            ),
          ),
        ),
      ),
    )))
    (others.3).1 others.4.1
completes_decls (kinds.Word words.Param) = λ place end tokens places rest h.
    let called = h.4 in
    let assign = called.4 in
    let value = assign.4 in
    let semicolon = value.4 in
    let others = semicolon.4 in
    decls_of (decl_node place ((called.3).0).held (declared_as.Param ((h.3).0).held (value.3).0)) (others.3).0 _ semicolon.1 others.1 rest
    (inr (
      place,
      tokens,
      (end, refl),
      (
        (h.3).0,
        h.1,
        (h.3).1,
        (
          (called.3).0,
          called.1,
          (called.3).1,
          (
            (assign.3).0,
            assign.1,
            (assign.3).1,
            (
              (value.3).0,
              value.1,
              (value.3).1,
              ((semicolon.3).0, semicolon.1, (semicolon.3).1, (refl, refl)),
            ),
          ),
        ),
      ),
    ))
    (others.3).1 others.4.1
completes_decls _ = tt

-- ---- statements

stmts_of : TreesByForm → (statement : Stmt) (stmts : List Stmt) (before tokens between rest : List Token) → stmt_over stmt before statement tokens → many stmt tokens stmts between → between ≡ rest → (all : List ℕ) × part_rule Part.Stmts before all rest
stmts_of tree statement stmts before tokens between rest h more e =
    (flat_map stmt_nodes (statement ∷ stmts), (statement ∷ stmts, (tokens, tree.statements.back before statement tokens h, subst (λ ts. many stmt tokens stmts ts) e more), refl))

completes_stmts : TreesByForm → (kind : TokenKind) → Completes Part.Stmts kind
completes_stmts tree (kinds.Name name) = λ place end tokens places rest h.
    let value = h.4 in
    let semicolon = value.4 in
    let others = semicolon.4 in
    stmts_of tree (stmt_node place ((h.3).0 name (value.3).0)) (others.3).0 _ semicolon.1 others.1 rest
    (inl (record { place = place; held = name }, tokens, (end, refl), ((h.3).0, h.1, (h.3).1, ((value.3).0, value.1, tree.expressions.back h.1 (value.3).0 value.1 (value.3).1, ((semicolon.3).0, semicolon.1, (semicolon.3).1, (refl, refl))))))
    (others.3).1 others.4.1
completes_stmts tree (kinds.Word words.If) = λ place end tokens places rest h.
    let body = h.4 in
    let otherwise = body.4 in
    let others = otherwise.4 in
    stmts_of tree (stmt_node place (acts.If (h.3).0 (body.3).0 (otherwise.3).0)) (others.3).0 _ otherwise.1 others.1 rest
    (inr (place, tokens, (end, refl), ((h.3).0, h.1, tree.expressions.back tokens (h.3).0 h.1 (h.3).1, ((body.3).0, body.1, (body.3).1, ((otherwise.3).0, otherwise.1, (otherwise.3).1, (refl, refl))))))
    (others.3).1 others.4.1
completes_stmts tree _ = tt

completes_block : (kind : TokenKind) → Completes Part.Block kind
completes_block (kinds.Symbol symbols.OpenCurly) = λ place end tokens places rest h.
    let body = h.3 in
    let close = h.4 in
    (flat_map stmt_nodes body.0, (body.0, (place, tokens, (end, refl), (body.0, h.1, body.1, ((close.3).0, close.1, (close.3).1, (refl, close.4.1)))), refl))
completes_block _ = tt

completes_else : (kind : TokenKind) → Completes Part.ElseBlock kind
completes_else (kinds.Word words.Else) = λ place end tokens places rest h.
    let body = h.3 in
    (flat_map stmt_nodes body.0, (body.0, inl (place, tokens, (end, refl), subst (λ ts. block stmt tokens body.0 ts) h.4.1 body.1), refl))
completes_else _ = tt

-- ---- every part, and every stack

completes : TreesByForm → (part : Part) (kind : TokenKind) → Completes part kind
completes tree Part.Decls = completes_decls
completes tree Part.Stmts = completes_stmts tree
completes tree Part.KindWord = completes_kind
completes tree Part.CombineWord = completes_combine
completes tree Part.Scale = completes_scale
completes tree Part.Name = completes_name
completes tree Part.Signed = completes_signed
completes tree Part.Number = completes_number
completes tree Part.Assign = completes_assign
completes tree Part.Block = completes_block
completes tree Part.ElseBlock = completes_else
completes tree (Part.Exactly wanted) = completes_exactly wanted
completes tree (Part.Chain levels.Or) = completes_over tree
completes tree (Part.Chain levels.And) = completes_both tree
completes tree (Part.Chain levels.Sum) = completes_sum tree
completes tree (Part.Chain levels.Product) = completes_product tree
completes tree (Part.More level) = completes_more level
completes tree Part.Rel = completes_rel tree
completes tree Part.MoreRel = completes_more_rel
completes tree Part.Unary = completes_unary tree
completes tree Part.Post = completes_post tree
completes tree Part.MorePost = completes_more_post
completes tree Part.Prim = completes_prim tree
completes tree Part.ScaleIfAny = completes_scale_if_any
completes tree Part.AxisName = completes_axis

-- what these parts spell from a token on
abbrev pub SpellsFrom : List Part → List Token → List Token → Type 0
SpellsFrom parts tokens rest = (all : List ℕ) × parts_rule parts tokens all rest

joined_parts : (parts : List Part) (tokens between rest : List Token) (part : Part) (first more : List ℕ) → part_rule part tokens first between → parts_rule parts between more rest → parts_rule (part ∷ parts) tokens (first ++ more) rest
joined_parts parts tokens between rest part first more h k = (first, between, more, h, k, refl)

pub stack_completed : TreesByForm → (parts : List Part) (token : Token) (found : Move) → moves parts token.kind ≡ Some found
    → (tokens : List Token) (places : List ℕ) (rest : List Token) → parts_rule found.then tokens places rest → SpellsFrom parts (token ∷ tokens) rest
unfolding moves
stack_completed tree [] token found e tokens places rest h = absurd (let never : None ≡ Some found = e in cc)
stack_completed tree (part ∷ parts) token found e tokens places rest h = go (move part token.kind) (is_optional part) (completes tree part token.kind) refl e (λ later. stack_completed tree parts token found later tokens places rest h)
  where
    go : (moved : Option Move) (optional : Bool) → CompletesBy part token.kind moved → is_optional part ≡ optional → chosen moved optional parts (moves parts token.kind) ≡ Some found
        → (moves parts token.kind ≡ Some found → SpellsFrom parts (token ∷ tokens) rest) → SpellsFrom (part ∷ parts) (token ∷ tokens) rest
    go (Some first) optional by optional_is is later =
        let then_are : first.then ++ parts ≡ found.then = let f : record { then = first.then ++ parts; is_node = first.is_node } ≡ found = cc in ap (λ (m : Move). m.then) f in
        let split = parts_split first.then parts tokens rest places (subst (λ ps. parts_rule ps tokens places rest) (sym then_are) h) in
        let one = by token.place token.end tokens split.0 split.1 split.3 in
        (one.0 ++ split.2, joined_parts parts (token ∷ tokens) split.1 rest part one.0 split.2 one.1 split.4)
    go None true by optional_is is later = let l = later is in (l.0, ([], token ∷ tokens, l.0, part_left_out part (token ∷ tokens) optional_is, l.1, refl))
    go None false by optional_is is later = absurd (let never : None ≡ Some found = is in cc)
