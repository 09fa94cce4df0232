-- The tokens that parts spell after a token are found backwards: from what its move requires.
use Rattle.std.proofs.Common.{◌≡◌, ℕ, List, [], ◌∷◌, fold, Option, Some, None, IfSome, inl, inr, refl, sym, ◌∙◌, subst}
use Rattle.kern_token.specs.declared.token.Symbol.{Symbol}
use Rattle.kern_token.specs.declared.token.Symbol.TheVariants as symbols
use Rattle.kern_token.specs.declared.token.Token.{Token}
use Rattle.kern_token.specs.declared.token.TokenKind.{TokenKind}
use Rattle.kern_token.specs.declared.token.TokenKind.TheVariants as kinds
use Rattle.kern_token.specs.declared.token.Word.{Word}
use Rattle.kern_token.specs.declared.token.Word.TheVariants as words
use Rattle.kern_tree.specs.declared.expr.Expr.{Expr}
use Rattle.kern_tree.specs.declared.expr.Form.{Form}
use Rattle.kern_tree.specs.declared.expr.Form.TheVariants as forms
use Rattle.kern_tree.specs.declared.expr.Op1.{Op1}
use Rattle.kern_tree.specs.declared.expr.Op1.TheVariants as op1s
use Rattle.kern_tree.specs.declared.expr.Op2.{Op2}
use Rattle.kern_tree.specs.declared.expr.Op2.TheVariants as op2s
use Rattle.kern_tree.specs.declared.expr.Op3.TheVariants as op3s
use Rattle.kern_tree.specs.Grammar.{expr, node, two, part, to_scale, call1, call2, call3, to_call, prim}
use Rattle.kern_tree.specs.Nodes.{expr_nodes}
use Rattle.kern_tree.specs.Rules.{At}
use Rattle.kern_tree.specs.Unrolled.{TreesByForm}
use Rattle.kern_parse.specs.declared.operators.Level.{Level}
use Rattle.kern_parse.specs.declared.operators.Level.TheVariants as levels
use Rattle.kern_parse.specs.Required.{Part, Move, move, and_then, operand as operand_part}
use Rattle.kern_parse.proofs.ExpressionTokens.{prefix_rule}
use Rattle.kern_parse.proofs.PartRules.{three_arguments, two_arguments, last_argument, operand_rule, more_rel, rel_rest, part_rule, parts_rule, parts_split}

abbrev pub at : TokenKind → ℕ → ℕ → Token
at kind place end = record { kind = kind; place = place; end = end }

-- what this move requires after a token of the kind completes the part
abbrev pub CompletesBy : Part → TokenKind → Option Move → Type 0
CompletesBy part kind moved = IfSome moved (λ found. (place end : ℕ) (tokens : List Token) (places : List ℕ) (rest : List Token)
    → parts_rule found.then tokens places rest → (all : List ℕ) × part_rule part (at kind place end ∷ tokens) all rest)

abbrev pub Completes : Part → TokenKind → Type 0
Completes part kind = CompletesBy part kind (move part kind)

-- ---- primaries

module _ (tree : TreesByForm) (place end : ℕ) (tokens : List Token) (places : List ℕ) (rest : List Token) where
  call1_of : (spelled : Word) (form : Expr → Form) → parts_rule (Part.Exactly symbols.OpenRound ∷ last_argument) tokens places rest
      → (value : Expr) × call1 expr spelled form (at (kinds.Word spelled) place end ∷ tokens) value rest
  call1_of spelled form h =
      let a = h.4 in
      let close = a.4 in
      (node place (form (a.3).0), (place, tokens, (end, refl), ((h.3).0, h.1, (h.3).1, ((a.3).0, a.1, tree.expressions.back h.1 (a.3).0 a.1 (a.3).1, ((close.3).0, close.1, (close.3).1, (refl, close.4.1))))))

  call2_of : (spelled : Word) (form : Expr → Expr → Form) → parts_rule (Part.Exactly symbols.OpenRound ∷ two_arguments) tokens places rest
      → (value : Expr) × call2 expr spelled form (at (kinds.Word spelled) place end ∷ tokens) value rest
  call2_of spelled form h =
      let a = h.4 in
      let comma = a.4 in
      let b = comma.4 in
      let close = b.4 in (
        node place (form (a.3).0 (b.3).0),
        (
          place,
          tokens,
          (end, refl),
          (
            (h.3).0,
            h.1,
            (h.3).1,
            (
              (a.3).0,
              a.1,
              tree.expressions.back h.1 (a.3).0 a.1 (a.3).1,
              (
                (comma.3).0,
                comma.1,
                (comma.3).1,
                ((b.3).0, b.1, tree.expressions.back comma.1 (b.3).0 b.1 (b.3).1, ((close.3).0, close.1, (close.3).1, (refl, close.4.1))),
              ),
            ),
          ),
        ),
      )

  call3_of : (spelled : Word) (form : Expr → Expr → Expr → Form) → parts_rule (Part.Exactly symbols.OpenRound ∷ three_arguments) tokens places rest
      → (value : Expr) × call3 expr spelled form (at (kinds.Word spelled) place end ∷ tokens) value rest
  call3_of spelled form h =
      let a = h.4 in
      let comma = a.4 in
      let b = comma.4 in
      let second = b.4 in
      let c = second.4 in
      let close = c.4 in (
        node place (form (a.3).0 (b.3).0 (c.3).0),
        (
          place,
          tokens,
          (end, refl),
          (
            (h.3).0,
            h.1,
            (h.3).1,
            (
              (a.3).0,
              a.1,
              tree.expressions.back h.1 (a.3).0 a.1 (a.3).1,
              (
                (comma.3).0,
                comma.1,
                (comma.3).1,
                (
                  (b.3).0,
                  b.1,
                  tree.expressions.back comma.1 (b.3).0 b.1 (b.3).1,
                  (
                    (second.3).0,
                    second.1,
                    (second.3).1,
                    ((c.3).0, c.1, tree.expressions.back second.1 (c.3).0 c.1 (c.3).1, ((close.3).0, close.1, (close.3).1, (refl, close.4.1))),
                  ),
                ),
              ),
            ),
          ),
        ),
      )

  to_call_of : parts_rule (Part.Exactly symbols.OpenRound ∷ Part.Number ∷ Part.Exactly symbols.Comma ∷ last_argument) tokens places rest
      → (value : Expr) × to_call expr (at (kinds.Word words.To) place end ∷ tokens) value rest
  to_call_of h =
      let bits = h.4 in
      let comma = bits.4 in
      let a = comma.4 in
      let close = a.4 in (
        node place (forms.To (to_scale ((bits.3).0).held) (a.3).0),
        (
          place,
          tokens,
          (end, refl),
          (
            (h.3).0,
            h.1,
            (h.3).1,
            (
              (bits.3).0,
              bits.1,
              (bits.3).1,
              (
                (comma.3).0,
                comma.1,
                (comma.3).1,
                ((a.3).0, a.1, tree.expressions.back comma.1 (a.3).0 a.1 (a.3).1, ((close.3).0, close.1, (close.3).1, (refl, close.4.1))),
              ),
            ),
          ),
        ),
      )

prim_seen : (tokens rest : List Token) (value : Expr) → prim expr tokens value rest → (all : List ℕ) × part_rule Part.Prim tokens all rest
prim_seen tokens rest value h = (expr_nodes value, (value, h, refl))

pub completes_prim : TreesByForm → (kind : TokenKind) → Completes Part.Prim kind
completes_prim tree (kinds.Number number) = λ place end tokens places rest h.
    prim_seen _ rest (node place (forms.Number number (h.3).0)) (inl (inl (inl (record { place = place; held = number }, tokens, (end, refl), ((h.3).0, h.1, (h.3).1, (refl, h.4.1))))))
completes_prim tree (kinds.Name name) = λ place end tokens places rest h.
    prim_seen _ rest (node place (forms.Name name)) (inl (inl (inr (record { place = place; held = name }, tokens, (end, refl), (refl, h.1)))))
completes_prim tree (kinds.Word words.Isqrt) = λ place end tokens places rest h. let k = call1_of tree place end tokens places rest words.Isqrt (forms.One op1s.Isqrt) h in prim_seen _ rest k.0 (inr (inl (inl (inl (inl (inl (inl k.1)))))))
completes_prim tree (kinds.Word words.Abs) = λ place end tokens places rest h. let k = call1_of tree place end tokens places rest words.Abs (forms.One op1s.Abs) h in prim_seen _ rest k.0 (inr (inl (inl (inl (inl (inl (inr k.1)))))))
completes_prim tree (kinds.Word words.To) = λ place end tokens places rest h. let k = to_call_of tree place end tokens places rest h in prim_seen _ rest k.0 (inr (inl (inl (inl (inl (inr k.1))))))
completes_prim tree (kinds.Word words.Min) = λ place end tokens places rest h. let k = call2_of tree place end tokens places rest words.Min (forms.Two op2s.Least) h in prim_seen _ rest k.0 (inr (inl (inl (inl (inr k.1)))))
completes_prim tree (kinds.Word words.Max) = λ place end tokens places rest h. let k = call2_of tree place end tokens places rest words.Max (forms.Two op2s.Most) h in prim_seen _ rest k.0 (inr (inl (inl (inr k.1))))
completes_prim tree (kinds.Word words.Muldiv) = λ place end tokens places rest h. let k = call3_of tree place end tokens places rest words.Muldiv (forms.Three op3s.Muldiv) h in prim_seen _ rest k.0 (inr (inl (inr k.1)))
completes_prim tree (kinds.Word words.Vec) = λ place end tokens places rest h. let k = call3_of tree place end tokens places rest words.Vec (forms.Three op3s.Build) h in prim_seen _ rest k.0 (inr (inr k.1))
completes_prim tree (kinds.Symbol symbols.OpenRound) = λ place end tokens places rest h.
    let close = h.4 in
    prim_seen _ rest (h.3).0 (inl (inr (place, tokens, (end, refl), ((h.3).0, h.1, tree.expressions.back tokens (h.3).0 h.1 (h.3).1, ((close.3).0, close.1, (close.3).1, (refl, close.4.1))))))
completes_prim tree _ = tt

-- ---- a part that begins as another, and goes on with more

completes_longer : (part longer : Part) (others : List Part) → ((kind : TokenKind) → move longer kind ≡ and_then (move part kind) others)
    → ((tokens between rest : List Token) (first more : List ℕ) → part_rule part tokens first between → parts_rule others between more rest → (all : List ℕ) × part_rule longer tokens all rest)
    → ((kind : TokenKind) → Completes part kind) → (kind : TokenKind) → Completes longer kind
completes_longer part longer others moves_are joins completes kind = subst (λ m. CompletesBy longer kind m) (sym (moves_are kind)) (go (move part kind) (completes kind))
  where
    go : (m : Option Move) → CompletesBy part kind m → CompletesBy longer kind (and_then m others)
    go None h = tt
    go (Some found) h = λ place end tokens places rest reads.
        let split = parts_split found.then others tokens rest places reads in
        let one = h place end tokens split.0 split.1 split.3 in
        joins (at kind place end ∷ tokens) split.1 rest one.0 split.2 one.1 split.4

pub completes_post : TreesByForm → (kind : TokenKind) → Completes Part.Post kind
completes_post tree = completes_longer Part.Prim Part.Post (Part.MorePost ∷ []) (λ kind. refl)
    (λ tokens between rest first more h k. let value = fold part h.0 (k.3).0 in (expr_nodes value, (value, (h.0, between, h.1, ((k.3).0, k.1, (k.3).1, (refl, k.4.1))), refl))) (completes_prim tree)

completes_prefixed : (op : Op1) (place end : ℕ) (tokens : List Token) (places : List ℕ) (rest : List Token) (spelled : Symbol)
    → prefix_rule (at (kinds.Symbol spelled) place end ∷ tokens) (record { place = place; held = op }) tokens
    → parts_rule (Part.Post ∷ []) tokens places rest → (all : List ℕ) × part_rule Part.Unary (at (kinds.Symbol spelled) place end ∷ tokens) all rest
completes_prefixed op place end tokens places rest spelled prefix h =
    let k = h.3 in
    (expr_nodes (node place (forms.One op k.0)), (node place (forms.One op k.0), inr (record { place = place; held = op }, tokens, prefix, (k.0, h.1, k.1, (refl, h.4.1))), refl))

unary_seen : (tokens rest : List Token) → (all : List ℕ) × part_rule Part.Post tokens all rest → (all : List ℕ) × part_rule Part.Unary tokens all rest
unary_seen tokens rest h = (h.0, ((h.1).0, inl (h.1).1, (h.1).2))

unary_as_post : (kind : TokenKind) (m : Option Move) → CompletesBy Part.Post kind m → CompletesBy Part.Unary kind m
unary_as_post kind None h = tt
unary_as_post kind (Some found) h = λ place end tokens places rest reads. unary_seen _ rest (h place end tokens places rest reads)

pub completes_unary : TreesByForm → (kind : TokenKind) → Completes Part.Unary kind
completes_unary tree (kinds.Symbol symbols.Minus) = λ place end tokens places rest h. completes_prefixed op1s.Neg place end tokens places rest symbols.Minus (inl (place, tokens, (end, refl), (refl, refl))) h
completes_unary tree (kinds.Symbol symbols.Not) = λ place end tokens places rest h. completes_prefixed op1s.Not place end tokens places rest symbols.Not (inr (place, tokens, (end, refl), (refl, refl))) h
completes_unary tree kind = unary_as_post kind (move Part.Post kind) (completes_post tree kind)

-- ---- chains of operators

pub operand_of : (level : Level) (tokens : List Token) (places : List ℕ) (rest : List Token) → part_rule (operand_part level) tokens places rest → (value : Expr) × operand_rule level tokens value rest
operand_of levels.Or tokens places rest h = (h.0, h.1)
operand_of levels.And tokens places rest h = (h.0, h.1)
operand_of levels.Sum tokens places rest h = (h.0, h.1)
operand_of levels.Product tokens places rest h = (h.0, h.1)

chain_joins : (level : Level) (tokens between rest : List Token) (first more : List ℕ) → part_rule (operand_part level) tokens first between → parts_rule (Part.More level ∷ []) between more rest → (all : List ℕ) × part_rule (Part.Chain level) tokens all rest
chain_joins level tokens between rest first more h k =
    let left = operand_of level tokens first between h in
    let right = k.3 in
    (expr_nodes (fold two left.0 right.0), (fold two left.0 right.0, (left.0, between, left.1, (right.0, k.1, right.1, (refl, k.4.1))), refl))

pub completes_product : TreesByForm → (kind : TokenKind) → Completes (Part.Chain levels.Product) kind
completes_product tree = completes_longer Part.Unary (Part.Chain levels.Product) (Part.More levels.Product ∷ []) (λ kind. refl) (chain_joins levels.Product) (completes_unary tree)

pub completes_sum : TreesByForm → (kind : TokenKind) → Completes (Part.Chain levels.Sum) kind
completes_sum tree = completes_longer (Part.Chain levels.Product) (Part.Chain levels.Sum) (Part.More levels.Sum ∷ []) (λ kind. refl) (chain_joins levels.Sum) (completes_product tree)

rel_of : (left : Expr) (tokens : List Token) (more : List (At Op2 × Expr)) (between rest : List Token) → between ≡ rest → more_rel tokens more between → (value : Expr) × rel_rest left tokens value rest
rel_of left tokens more between rest e (inl h) = (left, inl (refl, h.1 ∙ e))
rel_of left tokens more between rest e (inr h) = (two left (h.0, h.3.0), inr (h.0, h.1, h.2, (h.3.0, h.3.1, h.3.2, (refl, h.3.3.1 ∙ e))))

rel_joins : (tokens between rest : List Token) (first more : List ℕ) → part_rule (Part.Chain levels.Sum) tokens first between → parts_rule (Part.MoreRel ∷ []) between more rest → (all : List ℕ) × part_rule Part.Rel tokens all rest
rel_joins tokens between rest first more h k =
    let right = k.3 in
    let whole = rel_of h.0 between right.0 k.1 rest k.4.1 right.1 in
    (expr_nodes whole.0, (whole.0, (h.0, between, h.1, whole.1), refl))

pub completes_rel : TreesByForm → (kind : TokenKind) → Completes Part.Rel kind
completes_rel tree = completes_longer (Part.Chain levels.Sum) Part.Rel (Part.MoreRel ∷ []) (λ kind. refl) rel_joins (completes_sum tree)

pub completes_both : TreesByForm → (kind : TokenKind) → Completes (Part.Chain levels.And) kind
completes_both tree = completes_longer Part.Rel (Part.Chain levels.And) (Part.More levels.And ∷ []) (λ kind. refl) (chain_joins levels.And) (completes_rel tree)

pub completes_over : TreesByForm → (kind : TokenKind) → Completes (Part.Chain levels.Or) kind
completes_over tree = completes_longer (Part.Chain levels.And) (Part.Chain levels.Or) (Part.More levels.Or ∷ []) (λ kind. refl) (chain_joins levels.Or) (completes_both tree)
