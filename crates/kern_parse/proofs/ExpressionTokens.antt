-- What is read for a part of an expression begins with a token that the part's move is for, and goes on with what
-- that move requires.
use Rattle.std.proofs.Common.{◌≡◌, ℕ, List, [], ◌∷◌, ◌++◌, Bool, true, false, fold, flat_map, Some, inl, inr, refl, sym, ap, ◌∙◌, subst, append_assoc, append-nil}
use Rattle.kern_token.specs.declared.token.Symbol.{Symbol}
use Rattle.kern_token.specs.declared.token.Symbol.TheVariants as symbols
use Rattle.kern_token.specs.declared.token.Token.{Token}
use Rattle.kern_token.specs.declared.token.TokenKind.{TokenKind}
use Rattle.kern_token.specs.declared.token.TokenKind.TheVariants as kinds
use Rattle.kern_token.specs.declared.token.Word.{Word}
use Rattle.kern_token.specs.declared.token.Word.TheVariants as words
use Rattle.kern_tree.specs.declared.expr.Expr.{Expr}
use Rattle.kern_tree.specs.declared.expr.Form.{Form}
use Rattle.kern_tree.specs.declared.expr.Form.TheVariants as forms
use Rattle.kern_tree.specs.declared.expr.Op1.{Op1}
use Rattle.kern_tree.specs.declared.expr.Op1.TheVariants as op1s
use Rattle.kern_tree.specs.declared.expr.Op2.{Op2}
use Rattle.kern_tree.specs.declared.expr.Op2.TheVariants as op2s
use Rattle.kern_tree.specs.declared.expr.Op3.{Op3}
use Rattle.kern_tree.specs.declared.expr.Op3.TheVariants as op3s
use Rattle.pf_geom.specs.declared.axis.Axis.{Axis}
use Rattle.kern_tree.specs.Grammar.{node, two, part, operator, literal, variable, bracketed, call1, call2, call3, to_call, to_scale, call, prim, component, post, unary, joined_from_left, prod, sum, relation, rel, both, expr_over, expr}
use Rattle.kern_tree.specs.Nodes.{expr_nodes, two_nodes}
use Rattle.kern_tree.specs.Rules.{Rule, At, ◌or◌, many, symbol}
use Rattle.kern_tree.specs.Unrolled.{TreesByForm}
use Rattle.kern_parse.specs.declared.operators.Level.{Level}
use Rattle.kern_parse.specs.declared.operators.Level.TheVariants as levels
use Rattle.kern_parse.specs.Required.{Part, Move, move, and_then, operand as operand_part}
use Rattle.kern_parse.proofs.PartRules.{three_arguments, two_arguments, last_argument, closing, more_nodes, component_nodes, operators, operand_rule, more_rule, more_rel, rel_rest, scale_if_any, part_rule, parts_rule, parts_append}

-- the place of a node's token
abbrev pub mark : Bool → ℕ → List ℕ
mark true place = place ∷ []
mark false place = []

-- the tokens begin with one that the part's move is for, and go on with what the move requires
pub record Goes (part : Part) (tokens : List Token) (places : List ℕ) (rest : List Token) : Type 0 where
  pub token : Token
  pub after : List Token
  pub tokens_are : tokens ≡ token ∷ after
  pub found : Move
  pub moved : move part token.kind ≡ Some found
  pub more : List ℕ
  pub reads : parts_rule found.then after more rest
  pub places_are : places ≡ mark found.is_node token.place ++ more

-- ---- parts one after another

pub ends : (tokens rest : List Token) → tokens ≡ rest → parts_rule [] tokens [] rest
ends tokens rest e = (refl, e)

pub symbol_then : (spelled : Symbol) (parts : List Part) (place : ℕ) (tokens between rest : List Token) (more : List ℕ) → symbol spelled tokens place between → parts_rule parts between more rest → parts_rule (Part.Exactly spelled ∷ parts) tokens more rest
symbol_then spelled parts place tokens between rest more h k = ([], between, more, (place, h, refl), k, refl)

pub expr_then : TreesByForm → (parts : List Part) (value : Expr) (tokens between rest : List Token) (more : List ℕ) → expr tokens value between → parts_rule parts between more rest → parts_rule (Part.Chain levels.Or ∷ parts) tokens (expr_nodes value ++ more) rest
expr_then tree parts value tokens between rest more h k = (expr_nodes value, between, more, (value, tree.expressions.onward tokens value between h, refl), k, refl)

-- ---- primaries

module _ (tree : TreesByForm) (tokens : List Token) (value : Expr) (rest : List Token) where
  literal_goes : literal tokens value rest → Goes Part.Prim tokens (expr_nodes value) rest
  literal_goes h =
      let k = h.3 in
      record {
        token = record { kind = kinds.Number (h.0).held; place = (h.0).place; end = (h.2).0 };
        after = h.1;
        tokens_are = (h.2).1;
        found = record { then = Part.ScaleIfAny ∷ []; is_node = true };
        moved = refl;
        more = [];
        reads = ([], rest, [], (k.0, subst (λ ts. scale_if_any h.1 k.0 ts) k.3.1 k.2, refl), (refl, refl), refl);
        places_are = ap expr_nodes k.3.0 ∙ tree.nodes.number (h.0).place (h.0).held k.0;
      }

  variable_goes : variable tokens value rest → Goes Part.Prim tokens (expr_nodes value) rest
  variable_goes h = record {
    token = record { kind = kinds.Name (h.0).held; place = (h.0).place; end = (h.2).0 };
    after = h.1;
    tokens_are = (h.2).1;
    found = record { then = []; is_node = true };
    moved = refl;
    more = [];
    reads = (refl, h.3.1);
    places_are = ap expr_nodes h.3.0 ∙ tree.nodes.name (h.0).place (h.0).held;
  }

  bracketed_goes : bracketed expr tokens value rest → Goes Part.Prim tokens (expr_nodes value) rest
  bracketed_goes h =
      let k = h.3 in
      record {
        token = record { kind = kinds.Symbol symbols.OpenRound; place = h.0; end = (h.2).0 };
        after = h.1;
        tokens_are = (h.2).1;
        found = record { then = last_argument; is_node = false };
        moved = refl;
        more = expr_nodes k.0 ++ [];
        reads = expr_then tree closing k.0 h.1 k.1 rest [] k.2
            (symbol_then symbols.CloseRound [] k.3.0 k.1 k.3.1 rest [] k.3.2 (ends k.3.1 rest k.3.3.1));
        places_are = ap expr_nodes k.3.3.0 ∙ sym (append-nil (expr_nodes k.0));
      }

  call1_goes : (spelled : Word) (form : Expr → Form) → move Part.Prim (kinds.Word spelled) ≡ Some (record { then = Part.Exactly symbols.OpenRound ∷ last_argument; is_node = true })
      → ((place : ℕ) (a : Expr) → expr_nodes (node place (form a)) ≡ place ∷ expr_nodes a) → call1 expr spelled form tokens value rest → Goes Part.Prim tokens (expr_nodes value) rest
  call1_goes spelled form moved nodes_are h =
      let k = h.3.3 in
      record {
        token = record { kind = kinds.Word spelled; place = h.0; end = (h.2).0 };
        after = h.1;
        tokens_are = (h.2).1;
        found = record { then = Part.Exactly symbols.OpenRound ∷ last_argument; is_node = true };
        moved = moved;
        more = expr_nodes k.0 ++ [];
        reads = symbol_then symbols.OpenRound last_argument h.3.0 h.1 h.3.1 rest _ h.3.2
            (expr_then tree closing k.0 h.3.1 k.1 rest [] k.2
            (symbol_then symbols.CloseRound [] k.3.0 k.1 k.3.1 rest [] k.3.2 (ends k.3.1 rest k.3.3.1)));
        places_are = ap expr_nodes k.3.3.0 ∙ nodes_are h.0 k.0 ∙ ap (λ ns. h.0 ∷ ns) (sym (append-nil (expr_nodes k.0)));
      }

  to_call_goes : to_call expr tokens value rest → Goes Part.Prim tokens (expr_nodes value) rest
  to_call_goes h =
      let n = h.3.3 in
      let k = n.3.3 in
      record {
        token = record { kind = kinds.Word words.To; place = h.0; end = (h.2).0 };
        after = h.1;
        tokens_are = (h.2).1;
        found = record { then = Part.Exactly symbols.OpenRound ∷ Part.Number ∷ Part.Exactly symbols.Comma ∷ last_argument; is_node = true };
        moved = refl;
        more = expr_nodes k.0 ++ [];
        reads = symbol_then symbols.OpenRound (Part.Number ∷ Part.Exactly symbols.Comma ∷ last_argument) h.3.0 h.1 h.3.1 rest _ h.3.2 (
          [],
          n.1,
          expr_nodes k.0 ++ [],
          (n.0, n.2, refl),
          symbol_then symbols.Comma last_argument n.3.0 n.1 n.3.1 rest _ n.3.2
              (expr_then tree closing k.0 n.3.1 k.1 rest [] k.2
              (symbol_then symbols.CloseRound [] k.3.0 k.1 k.3.1 rest [] k.3.2 (ends k.3.1 rest k.3.3.1))),
          refl,
        );
        places_are = ap expr_nodes k.3.3.0 ∙ tree.nodes.to h.0 (to_scale (n.0).held) k.0 ∙ ap (λ ns. h.0 ∷ ns) (sym (append-nil (expr_nodes k.0)));
      }

  call2_goes : (spelled : Word) (form : Expr → Expr → Form) → move Part.Prim (kinds.Word spelled) ≡ Some (record { then = Part.Exactly symbols.OpenRound ∷ two_arguments; is_node = true })
      → ((place : ℕ) (a b : Expr) → expr_nodes (node place (form a b)) ≡ place ∷ (expr_nodes a ++ expr_nodes b)) → call2 expr spelled form tokens value rest → Goes Part.Prim tokens (expr_nodes value) rest
  call2_goes spelled form moved nodes_are h =
      let k = h.3.3 in
      let l = k.3.3 in
      record {
        token = record { kind = kinds.Word spelled; place = h.0; end = (h.2).0 };
        after = h.1;
        tokens_are = (h.2).1;
        found = record { then = Part.Exactly symbols.OpenRound ∷ two_arguments; is_node = true };
        moved = moved;
        more = expr_nodes k.0 ++ (expr_nodes l.0 ++ []);
        reads = symbol_then symbols.OpenRound two_arguments h.3.0 h.1 h.3.1 rest _ h.3.2
            (expr_then tree (Part.Exactly symbols.Comma ∷ last_argument) k.0 h.3.1 k.1 rest _ k.2
            (symbol_then symbols.Comma last_argument k.3.0 k.1 k.3.1 rest _ k.3.2
            (expr_then tree closing l.0 k.3.1 l.1 rest [] l.2
            (symbol_then symbols.CloseRound [] l.3.0 l.1 l.3.1 rest [] l.3.2 (ends l.3.1 rest l.3.3.1)))));
        places_are = ap expr_nodes l.3.3.0 ∙ nodes_are h.0 k.0 l.0 ∙ ap (λ ns. h.0 ∷ (expr_nodes k.0 ++ ns)) (sym (append-nil (expr_nodes l.0)));
      }

  call3_goes : (spelled : Word) (op : Op3) → move Part.Prim (kinds.Word spelled) ≡ Some (record { then = Part.Exactly symbols.OpenRound ∷ three_arguments; is_node = true })
      → call3 expr spelled (forms.Three op) tokens value rest → Goes Part.Prim tokens (expr_nodes value) rest
  call3_goes spelled op moved h =
      let k = h.3.3 in
      let l = k.3.3 in
      let m = l.3.3 in
      record {
        token = record { kind = kinds.Word spelled; place = h.0; end = (h.2).0 };
        after = h.1;
        tokens_are = (h.2).1;
        found = record { then = Part.Exactly symbols.OpenRound ∷ three_arguments; is_node = true };
        moved = moved;
        more = expr_nodes k.0 ++ (expr_nodes l.0 ++ (expr_nodes m.0 ++ []));
        reads = symbol_then symbols.OpenRound three_arguments h.3.0 h.1 h.3.1 rest _ h.3.2
            (expr_then tree (Part.Exactly symbols.Comma ∷ two_arguments) k.0 h.3.1 k.1 rest _ k.2
            (symbol_then symbols.Comma two_arguments k.3.0 k.1 k.3.1 rest _ k.3.2
            (expr_then tree (Part.Exactly symbols.Comma ∷ last_argument) l.0 k.3.1 l.1 rest _ l.2
            (symbol_then symbols.Comma last_argument l.3.0 l.1 l.3.1 rest _ l.3.2
            (expr_then tree closing m.0 l.3.1 m.1 rest [] m.2
            (symbol_then symbols.CloseRound [] m.3.0 m.1 m.3.1 rest [] m.3.2 (ends m.3.1 rest m.3.3.1)))))));
        places_are = ap expr_nodes m.3.3.0 ∙ tree.nodes.three h.0 op k.0 l.0 m.0 ∙ ap (λ ns. h.0 ∷ ns) (append_assoc (expr_nodes k.0) (expr_nodes l.0) (expr_nodes m.0)) ∙ ap (λ ns. h.0 ∷ (expr_nodes k.0 ++ (expr_nodes l.0 ++ ns))) (sym (append-nil (expr_nodes m.0)));
      }

  call_goes : call expr tokens value rest → Goes Part.Prim tokens (expr_nodes value) rest
  call_goes (inl (inl (inl (inl (inl (inl h)))))) = call1_goes words.Isqrt (forms.One op1s.Isqrt) refl (λ place a. tree.nodes.one place op1s.Isqrt a) h
  call_goes (inl (inl (inl (inl (inl (inr h)))))) = call1_goes words.Abs (forms.One op1s.Abs) refl (λ place a. tree.nodes.one place op1s.Abs a) h
  call_goes (inl (inl (inl (inl (inr h))))) = to_call_goes h
  call_goes (inl (inl (inl (inr h)))) = call2_goes words.Min (forms.Two op2s.Least) refl (λ place a b. tree.nodes.two place op2s.Least a b) h
  call_goes (inl (inl (inr h))) = call2_goes words.Max (forms.Two op2s.Most) refl (λ place a b. tree.nodes.two place op2s.Most a b) h
  call_goes (inl (inr h)) = call3_goes words.Muldiv op3s.Muldiv refl h
  call_goes (inr h) = call3_goes words.Vec op3s.Build refl h

  pub prim_goes : prim expr tokens value rest → Goes Part.Prim tokens (expr_nodes value) rest
  prim_goes (inl (inl (inl h))) = literal_goes h
  prim_goes (inl (inl (inr h))) = variable_goes h
  prim_goes (inl (inr h)) = bracketed_goes h
  prim_goes (inr h) = call_goes h

-- ---- what follows a first operand

-- what goes first, and then more parts
goes_on : (part longer : Part) (others : List Part) (tokens between rest : List Token) (first more : List ℕ)
    → ((kind : TokenKind) → move longer kind ≡ and_then (move part kind) others)
    → Goes part tokens first between → parts_rule others between more rest → Goes longer tokens (first ++ more) rest
goes_on part longer others tokens between rest first more moves_are g k = record {
  token = g.token;
  after = g.after;
  tokens_are = g.tokens_are;
  found = record { then = g.found.then ++ others; is_node = g.found.is_node };
  moved = moves_are g.token.kind ∙ ap (λ m. and_then m others) g.moved;
  more = g.more ++ more;
  reads = parts_append g.found.then others g.after between rest g.more more g.reads k;
  places_are = ap (λ places. places ++ more) g.places_are ∙ append_assoc (mark g.found.is_node g.token.place) g.more more;
}

pub with_places : (part : Part) (tokens rest : List Token) (places others : List ℕ) → others ≡ places → Goes part tokens places rest → Goes part tokens others rest
with_places part tokens rest places others e g = record { token = g.token; after = g.after; tokens_are = g.tokens_are; found = g.found; moved = g.moved; more = g.more; reads = g.reads; places_are = e ∙ g.places_are }

pub one_more : (part : Part) (tokens rest : List Token) (places : List ℕ) → part_rule part tokens places rest → parts_rule (part ∷ []) tokens places rest
one_more part tokens rest places h = (places, rest, [], h, (refl, refl), sym (append-nil places))

nodes_of_parts : TreesByForm → (whole : Expr) (parts : List (At Axis)) → expr_nodes (fold part whole parts) ≡ expr_nodes whole ++ flat_map component_nodes parts
nodes_of_parts tree whole [] = sym (append-nil (expr_nodes whole))
nodes_of_parts tree whole (of ∷ parts) = nodes_of_parts tree (part whole of) parts ∙ ap (λ ns. ns ++ flat_map component_nodes parts) (tree.nodes.part of.place whole of.held) ∙ append_assoc (expr_nodes whole) (of.place ∷ []) (flat_map component_nodes parts)

pub post_goes : TreesByForm → (tokens : List Token) (value : Expr) (rest : List Token) → post expr tokens value rest → Goes Part.Post tokens (expr_nodes value) rest
post_goes tree tokens value rest h =
    let k = h.3 in
    with_places Part.Post tokens rest _ (expr_nodes value) (ap expr_nodes k.3.0 ∙ nodes_of_parts tree h.0 k.0)
    (goes_on Part.Prim Part.Post (Part.MorePost ∷ []) tokens h.1 rest (expr_nodes h.0) (flat_map component_nodes k.0) (λ kind. refl) (prim_goes tree tokens h.0 h.1 h.2)
    (one_more Part.MorePost h.1 rest (flat_map component_nodes k.0) (k.0, subst (λ ts. many component h.1 k.0 ts) k.3.1 k.2, refl)))

no_prefix_post : (kind : TokenKind) (found : Move) → move Part.Post kind ≡ Some found → move Part.Unary kind ≡ Some found
no_prefix_post (kinds.Symbol symbols.Minus) found e = absurd (cc)
no_prefix_post (kinds.Symbol symbols.Not) found e = absurd (cc)
no_prefix_post _ found e = e

prefixed_goes : TreesByForm → (spelled : Symbol) (op : Op1) (tokens : List Token) (value : Expr) (rest : List Token) (place end : ℕ) (operand : Expr) (between : List Token)
    → move Part.Unary (kinds.Symbol spelled) ≡ Some (record { then = Part.Post ∷ []; is_node = true })
    → tokens ≡ record { kind = kinds.Symbol spelled; place = place; end = end } ∷ between → post expr between operand rest → value ≡ node place (forms.One op operand) → Goes Part.Unary tokens (expr_nodes value) rest
prefixed_goes tree spelled op tokens value rest place end operand between moved tokens_are h value_is = record {
  token = record { kind = kinds.Symbol spelled; place = place; end = end };
  after = between;
  tokens_are = tokens_are;
  found = record { then = Part.Post ∷ []; is_node = true };
  moved = moved;
  more = expr_nodes operand;
  reads = one_more Part.Post between rest (expr_nodes operand) (operand, h, refl);
  places_are = ap expr_nodes value_is ∙ tree.nodes.one place op operand;
}

abbrev pub prefix_rule : Rule (At Op1)
prefix_rule = operator symbols.Minus op1s.Neg or operator symbols.Not op1s.Not

prefix_goes : TreesByForm → (tokens : List Token) (value : Expr) (rest : List Token) (op : At Op1) (operand : Expr) (between : List Token)
    → prefix_rule tokens op between → post expr between operand rest → value ≡ node op.place (forms.One op.held operand) → Goes Part.Unary tokens (expr_nodes value) rest
prefix_goes tree tokens value rest op operand between (inl h) k e =
    prefixed_goes tree symbols.Minus op1s.Neg tokens value rest h.0 (h.2).0 operand between refl ((h.2).1 ∙ ap (λ ts. record { kind = kinds.Symbol symbols.Minus; place = h.0; end = (h.2).0 } ∷ ts) h.3.1) k
    (e ∙ ap (λ (o : At Op1). node o.place (forms.One o.held operand)) h.3.0)
prefix_goes tree tokens value rest op operand between (inr h) k e =
    prefixed_goes tree symbols.Not op1s.Not tokens value rest h.0 (h.2).0 operand between refl ((h.2).1 ∙ ap (λ ts. record { kind = kinds.Symbol symbols.Not; place = h.0; end = (h.2).0 } ∷ ts) h.3.1) k
    (e ∙ ap (λ (o : At Op1). node o.place (forms.One o.held operand)) h.3.0)

pub unary_goes : TreesByForm → (tokens : List Token) (value : Expr) (rest : List Token) → unary expr tokens value rest → Goes Part.Unary tokens (expr_nodes value) rest
unary_goes tree tokens value rest (inl h) =
    let g = post_goes tree tokens value rest h in
    record { token = g.token; after = g.after; tokens_are = g.tokens_are; found = g.found; moved = no_prefix_post g.token.kind g.found g.moved; more = g.more; reads = g.reads; places_are = g.places_are }
unary_goes tree tokens value rest (inr h) = prefix_goes tree tokens value rest h.0 h.3.0 h.1 h.2 (subst (λ ts. post expr h.1 h.3.0 ts) h.3.3.1 h.3.2) h.3.3.0

-- ---- chains of operators

-- the operators of rules that stand between their operands
abbrev IsBetween : Op2 → Type 0
IsBetween op = (place : ℕ) (left right : List ℕ) → two_nodes op place left right ≡ left ++ place ∷ right

operator_between : (op : Op2) (spelled : Symbol) (found : At Op2) (tokens rest : List Token) → IsBetween op → operator spelled op tokens found rest → IsBetween found.held
operator_between op spelled found tokens rest b h = subst (λ (o : At Op2). IsBetween o.held) (sym h.3.0) b

operators_between : (level : Level) (found : At Op2) (tokens rest : List Token) → operators level tokens found rest → IsBetween found.held
operators_between levels.Or found tokens rest h = operator_between op2s.Or symbols.Or found tokens rest (λ place left right. refl) h
operators_between levels.And found tokens rest h = operator_between op2s.And symbols.And found tokens rest (λ place left right. refl) h
operators_between levels.Sum found tokens rest (inl h) = operator_between op2s.Add symbols.Plus found tokens rest (λ place left right. refl) h
operators_between levels.Sum found tokens rest (inr h) = operator_between op2s.Sub symbols.Minus found tokens rest (λ place left right. refl) h
operators_between levels.Product found tokens rest (inl h) = operator_between op2s.Mul symbols.Star found tokens rest (λ place left right. refl) h
operators_between levels.Product found tokens rest (inr h) = operator_between op2s.Div symbols.Slash found tokens rest (λ place left right. refl) h

relation_between : (found : At Op2) (tokens rest : List Token) → relation expr tokens found rest → IsBetween found.held
relation_between found tokens rest (inl (inl (inl (inl (inl h))))) = operator_between op2s.Lt symbols.Lt found tokens rest (λ place left right. refl) h
relation_between found tokens rest (inl (inl (inl (inl (inr h))))) = operator_between op2s.Le symbols.Le found tokens rest (λ place left right. refl) h
relation_between found tokens rest (inl (inl (inl (inr h)))) = operator_between op2s.Gt symbols.Gt found tokens rest (λ place left right. refl) h
relation_between found tokens rest (inl (inl (inr h))) = operator_between op2s.Ge symbols.Ge found tokens rest (λ place left right. refl) h
relation_between found tokens rest (inl (inr h)) = operator_between op2s.Eq symbols.Eq found tokens rest (λ place left right. refl) h
relation_between found tokens rest (inr h) = operator_between op2s.Ne symbols.Ne found tokens rest (λ place left right. refl) h

nodes_of_two : TreesByForm → (left : Expr) (more : At Op2 × Expr) → IsBetween (more.0).held → expr_nodes (two left more) ≡ expr_nodes left ++ more_nodes more
nodes_of_two tree left more b = tree.nodes.two (more.0).place (more.0).held left more.1 ∙ b (more.0).place (expr_nodes left) (expr_nodes more.1)

nodes_of_more : TreesByForm → (level : Level) (left : Expr) (more : List (At Op2 × Expr)) (tokens rest : List Token) → more_rule level tokens more rest → expr_nodes (fold two left more) ≡ expr_nodes left ++ flat_map more_nodes more
nodes_of_more tree level left [] tokens rest h = sym (append-nil (expr_nodes left))
nodes_of_more tree level left (one ∷ more) tokens rest h =
    let k = h.1 in
    nodes_of_more tree level (two left one) more h.0 rest h.2
    ∙ ap (λ ns. ns ++ flat_map more_nodes more) (nodes_of_two tree left one (subst (λ (p : At Op2 × Expr). IsBetween (p.0).held) (sym k.3.3.0) (operators_between level k.0 tokens k.1 k.2)))
    ∙ append_assoc (expr_nodes left) (more_nodes one) (flat_map more_nodes more)

chain_moves : (level : Level) (kind : TokenKind) → move (Part.Chain level) kind ≡ and_then (move (operand_part level) kind) (Part.More level ∷ [])
chain_moves levels.Or kind = refl
chain_moves levels.And kind = refl
chain_moves levels.Sum kind = refl
chain_moves levels.Product kind = refl

pub chain_goes : TreesByForm → (level : Level) → ((tokens : List Token) (value : Expr) (rest : List Token) → operand_rule level tokens value rest → Goes (operand_part level) tokens (expr_nodes value) rest)
    → (tokens : List Token) (value : Expr) (rest : List Token) → joined_from_left (operators level) (operand_rule level) tokens value rest → Goes (Part.Chain level) tokens (expr_nodes value) rest
chain_goes tree level operand_goes tokens value rest h =
    let k = h.3 in
    let more : more_rule level h.1 k.0 rest = subst (λ ts. more_rule level h.1 k.0 ts) k.3.1 k.2 in
    with_places (Part.Chain level) tokens rest _ (expr_nodes value) (ap expr_nodes k.3.0 ∙ nodes_of_more tree level h.0 k.0 h.1 rest more)
    (goes_on (operand_part level) (Part.Chain level) (Part.More level ∷ []) tokens h.1 rest (expr_nodes h.0) (flat_map more_nodes k.0) (chain_moves level) (operand_goes tokens h.0 h.1 h.2)
    (one_more (Part.More level) h.1 rest (flat_map more_nodes k.0) (k.0, more, refl)))

pub product_goes : TreesByForm → (tokens : List Token) (value : Expr) (rest : List Token) → prod expr tokens value rest → Goes (Part.Chain levels.Product) tokens (expr_nodes value) rest
product_goes tree = chain_goes tree levels.Product (unary_goes tree)

pub sum_goes : TreesByForm → (tokens : List Token) (value : Expr) (rest : List Token) → sum expr tokens value rest → Goes (Part.Chain levels.Sum) tokens (expr_nodes value) rest
sum_goes tree = chain_goes tree levels.Sum (product_goes tree)

rel_rest_nodes : TreesByForm → (left : Expr) (tokens : List Token) (value : Expr) (rest : List Token) → rel_rest left tokens value rest → (more : List (At Op2 × Expr)) × more_rel tokens more rest × (expr_nodes value ≡ expr_nodes left ++ flat_map more_nodes more)
rel_rest_nodes tree left tokens value rest (inl h) = ([], inl (refl, h.1), ap expr_nodes h.0 ∙ sym (append-nil (expr_nodes left)))
rel_rest_nodes tree left tokens value rest (inr h) =
    let one : At Op2 × Expr = (h.0, h.3.0) in (
      one ∷ [],
      inr (h.0, h.1, h.2, (h.3.0, h.3.1, h.3.2, (refl, h.3.3.1))),
      ap expr_nodes h.3.3.0 ∙ nodes_of_two tree left one (relation_between h.0 tokens h.1 h.2) ∙ ap (λ ns. expr_nodes left ++ ns) (sym (append-nil (more_nodes one))),
    )

pub rel_goes : TreesByForm → (tokens : List Token) (value : Expr) (rest : List Token) → rel expr tokens value rest → Goes Part.Rel tokens (expr_nodes value) rest
rel_goes tree tokens value rest h =
    let k = rel_rest_nodes tree h.0 h.1 value rest h.3 in
    with_places Part.Rel tokens rest _ (expr_nodes value) k.2
    (goes_on (Part.Chain levels.Sum) Part.Rel (Part.MoreRel ∷ []) tokens h.1 rest (expr_nodes h.0) (flat_map more_nodes k.0) (λ kind. refl) (sum_goes tree tokens h.0 h.1 h.2)
    (one_more Part.MoreRel h.1 rest (flat_map more_nodes k.0) (k.0, k.1, refl)))

pub both_goes : TreesByForm → (tokens : List Token) (value : Expr) (rest : List Token) → both expr tokens value rest → Goes (Part.Chain levels.And) tokens (expr_nodes value) rest
both_goes tree = chain_goes tree levels.And (rel_goes tree)

pub over_goes : TreesByForm → (tokens : List Token) (value : Expr) (rest : List Token) → expr_over expr tokens value rest → Goes (Part.Chain levels.Or) tokens (expr_nodes value) rest
over_goes tree = chain_goes tree levels.Or (both_goes tree)
