-- What the grammar reads is held: from the tokens of a text in which at most 32 brackets are open.
use Rattle.std.proofs.Common.{◌≡◌, ℕ, zero, suc, ◌+◌, ◌-◌, ◌<◌, ◌≤◌, ◌^◌, inl, inr, refl, sym, ap, ◌∙◌, subst, List, [], ◌∷◌, fold, arith}
use Rattle.std.proofs.lemmas.Bool.Decides.{nat_tests}
use Rattle.kern_token.specs.declared.token.Symbol.{Symbol}
use Rattle.kern_token.specs.declared.token.Symbol.TheVariants as symbols
use Rattle.kern_token.specs.declared.token.Token.{Token}
use Rattle.kern_token.specs.declared.token.TokenKind.{TokenKind}
use Rattle.kern_token.specs.declared.token.TokenKind.TheVariants as kinds
use Rattle.kern_token.specs.declared.token.Word.{Word}
use Rattle.kern_token.specs.declared.token.Word.TheVariants as words
use Rattle.kern_token.specs.Pieces.{IsToken, IsName}
use Rattle.kern_token.specs.Reading.{IsInLimit}
use Rattle.kern_tree.specs.declared.expr.Expr.{Expr}
use Rattle.kern_tree.specs.declared.expr.Form.TheVariants as forms
use Rattle.kern_tree.specs.declared.expr.Op1.{Op1}
use Rattle.kern_tree.specs.declared.expr.Op1.TheVariants as ops1
use Rattle.kern_tree.specs.declared.expr.Op2.{Op2}
use Rattle.kern_tree.specs.declared.expr.Op2.TheVariants as ops2
use Rattle.kern_tree.specs.declared.expr.Op3.{Op3}
use Rattle.kern_tree.specs.declared.expr.Op3.TheVariants as ops3
use Rattle.kern_tree.specs.FirstFault.{brackets_after}
use Rattle.pf_geom.specs.declared.axis.Axis.{Axis}
use Rattle.kern_tree.specs.Grammar.{node, two, part, operator, joined_from_left, to_scale, literal, variable, component, bracketed, call1, call2, call3, to_call, prim, post, unary, prod, sum, relation, rel, both, expr_over, expr_within, expr}
use Rattle.kern_tree.specs.Rules.{Rule, At, ◌>>=◌, ◌or◌, pure, many, never, token}
use Rattle.kern_print.proofs.Held as held
use Rattle.kern_print.proofs.Held.{Infix, Sign, Call1, Call2, Call3, Bare, Held, held_lower, held_bracketed}

-- some bytes are a whole token of this kind
pub record IsWhole (kind : TokenKind) : Type 0 where
  pub bytes : List ℕ
  pub spelled : IsToken kind bytes
  pub in_limit : IsInLimit kind

-- whole tokens, after each of which at most 32 brackets are open
abbrev pub Fit : ℕ → List Token → Type 0
Fit depth [] = Unit {0}
Fit depth (token ∷ tokens) = IsWhole token.kind × (brackets_after depth token.kind ≤ 32) × Fit (brackets_after depth token.kind) tokens

-- the rule leaves the tokens fit, and what it reads is so
abbrev pub Keeps : {A : Type 0} → (ℕ → A → Type 0) → Rule A → Type 0
Keeps {A} P rule = (tokens : List Token) (value : A) (rest : List Token) (depth : ℕ) → rule tokens value rest → Fit depth tokens → P depth value × Fit depth rest

pub after_token : {kind : TokenKind} {place end : ℕ} {tokens rest : List Token} (depth : ℕ) → tokens ≡ record { kind = kind; place = place; end = end } ∷ rest → Fit depth tokens
    → IsWhole kind × (brackets_after depth kind ≤ 32) × Fit (brackets_after depth kind) rest
after_token depth e fit = subst (λ (ts : List Token). Fit depth ts) e fit

after_open : {place end : ℕ} {tokens rest : List Token} (depth : ℕ) → tokens ≡ record { kind = kinds.Symbol symbols.OpenRound; place = place; end = end } ∷ rest → Fit depth tokens
    → (depth < 32) × Fit (depth + 1) rest
after_open depth e fit = let h = after_token depth e fit in let small : depth + 1 ≤ 32 = h.1 in (omega arith, h.2)

after_close : {place end : ℕ} {tokens rest : List Token} (depth : ℕ) → tokens ≡ record { kind = kinds.Symbol symbols.CloseRound; place = place; end = end } ∷ rest → Fit (depth + 1) tokens → Fit depth rest
after_close {rest = rest} depth e fit =
    let same : depth + 1 - 1 ≡ depth = omega arith in
    subst (λ (d : ℕ). Fit d rest) same (after_token (depth + 1) e fit).2

-- where a rule ends
pub ended : {A : Type 0} (P : A → Type 0) {value read : A} {tokens rest : List Token} (depth : ℕ) → read ≡ value → tokens ≡ rest → P value → Fit depth tokens → P read × Fit depth rest
ended P depth same end h fit = (subst P (sym same) h, subst (λ (ts : List Token). Fit depth ts) end fit)

-- ---- tokens with something in them

pub name_whole : {n : List ℕ} → IsWhole (kinds.Name n) → IsName n
name_whole w = subst IsName (sym w.spelled.0) w.spelled.1

pub scale_whole : {n : ℕ} → IsWhole (kinds.Scale n) → n ≤ 62
scale_whole w = w.spelled.limit

pub number_whole : {n : ℕ} → IsWhole (kinds.Number n) → n < 2 ^ 63
number_whole w = w.in_limit

scale_fits : (n : ℕ) → to_scale n < 2 ^ 32
scale_fits n = grind (arith, nat_tests)

-- ---- expressions

literal_keeps : Keeps (λ depth e. Held depth 7 e) literal
literal_keeps tokens value rest depth (digits, t1, (end, e1), (bits, t2, inl (written, t3, (end', e2), (same', stop')), (same, stop))) fit =
    let first = after_token depth e1 fit in
    let second = after_token depth e2 first.2 in
    let limit : bits ≤ 62 = subst (λ (n : ℕ). n ≤ 62) (sym same') (scale_whole second.0) in
    ended (λ e. Held depth 7 e) depth same (stop' ∙ stop) (held.bare (omega arith) (held.literal (number_whole first.0) limit)) second.2
literal_keeps tokens value rest depth (digits, t1, (end, e1), (bits, t2, inr (same', stop'), (same, stop))) fit =
    let first = after_token depth e1 fit in
    let limit : bits ≤ 62 = omega (arith, same') in
    ended (λ e. Held depth 7 e) depth same (stop' ∙ stop) (held.bare (omega arith) (held.literal (number_whole first.0) limit)) first.2

variable_keeps : Keeps (λ depth e. Held depth 7 e) variable
variable_keeps tokens value rest depth (called, t1, (end, e1), (same, stop)) fit =
    let first = after_token depth e1 fit in
    ended (λ e. Held depth 7 e) depth same stop (held.bare (omega arith) (held.variable (name_whole first.0))) first.2

parts_keep : (parts : List (At Axis)) (whole : Expr) (tokens rest : List Token) (depth : ℕ) → many component tokens parts rest → Held depth 7 whole → Fit depth tokens
    → Held depth 7 (fold part whole parts) × Fit depth rest
parts_keep [] whole tokens rest depth stop h fit = (h, subst (λ (ts : List Token). Fit depth ts) stop fit)
parts_keep (of ∷ parts) whole tokens rest depth (between, (dot, t1, (end, e1), (along, t2, (place, (end', e2)), (same, stop))), more) h fit =
    let first = after_token depth e1 fit in
    let second = after_token depth e2 first.2 in
    parts_keep parts (part whole of) between rest depth more (held.bare (omega arith) (held.part h)) (subst (λ (ts : List Token). Fit depth ts) stop second.2)

-- an operator's symbol opens no bracket
abbrev IsPlain : Symbol → Type 0
IsPlain s = (depth : ℕ) → brackets_after depth (kinds.Symbol s) ≡ depth

operator_keeps : {A : Type 0} (s : Symbol) (op : A) → IsPlain s → (tokens : List Token) (found : At A) (rest : List Token) (depth : ℕ) → operator s op tokens found rest → Fit depth tokens → (op ≡ found.held) × Fit depth rest
operator_keeps s op plain tokens found rest depth (place, t1, (end, e1), (same, stop)) fit =
    let first = after_token depth e1 fit in
    (ap (λ a. a.held) (sym same), subst (λ (ts : List Token). Fit depth ts) stop (subst (λ (d : ℕ). Fit d t1) (plain depth) first.2))

-- the operators of a level
abbrev Operators : ℕ → ℕ → Rule (At Op2) → Type 0
Operators level left operators = (tokens : List Token) (found : At Op2) (rest : List Token) (depth : ℕ) → operators tokens found rest → Fit depth tokens
    → ((s : Symbol) × Infix level left s found.held) × Fit depth rest

one_operator : (level left : ℕ) (s : Symbol) (op : Op2) → Infix level left s op → IsPlain s → Operators level left (operator s op)
one_operator level left s op known plain tokens found rest depth read fit =
    let h = operator_keeps s op plain tokens found rest depth read fit in
    ((s, subst (λ (o : Op2). Infix level left s o) h.0 known), h.1)

either_operator : {level left : ℕ} {a b : Rule (At Op2)} → Operators level left a → Operators level left b → Operators level left (a or b)
either_operator f g tokens found rest depth (inl h) fit = f tokens found rest depth h fit
either_operator f g tokens found rest depth (inr h) fit = g tokens found rest depth h fit

abbrev step : Rule (At Op2) → Rule Expr → Rule (At Op2 × Expr)
step operators operand = do
  op ← operators
  right ← operand
  pure (op, right)

two_held : {depth level left : ℕ} {s : Symbol} (first : Expr) (op : At Op2) (right : Expr) → Infix level left s op.held → Held depth left first → Held depth (suc level) right → Held depth level (two first (op, right))
two_held {level = level} first op right known a b = held.bare (let same : level ≤ level = omega arith in same) (held.two known a b)

joined_more : (level : ℕ) (operators : Rule (At Op2)) (operand : Rule Expr) → Operators level level operators → Keeps (λ depth e. Held depth (suc level) e) operand
    → (more : List (At Op2 × Expr)) (first : Expr) (tokens rest : List Token) (depth : ℕ) → many (step operators operand) tokens more rest → Held depth level first → Fit depth tokens
    → Held depth level (fold two first more) × Fit depth rest
joined_more level operators operand ops keeps [] first tokens rest depth stop h fit = (h, subst (λ (ts : List Token). Fit depth ts) stop fit)
joined_more level operators operand ops keeps (x ∷ more) first tokens rest depth (between, (op, t1, read_op, (right, t2, read, (same, stop))), others) h fit =
    let o = ops tokens op t1 depth read_op fit in
    let r = keeps t1 right t2 depth read o.1 in
    let whole = subst (λ (y : At Op2 × Expr). Held depth level (two first y)) (sym same) (two_held first op right o.0.1 h r.0) in
    joined_more level operators operand ops keeps more (two first x) between rest depth others whole (subst (λ (ts : List Token). Fit depth ts) stop r.1)

joined_keeps : (level : ℕ) (operators : Rule (At Op2)) (operand : Rule Expr) → Operators level level operators → Keeps (λ depth e. Held depth (suc level) e) operand
    → Keeps (λ depth e. Held depth level e) (joined_from_left operators operand)
joined_keeps level operators operand ops keeps tokens value rest depth (first, t1, read, (more, t2, others, (same, stop))) fit =
    let f = keeps tokens first t1 depth read fit in
    let g = joined_more level operators operand ops keeps more first t1 t2 depth others (held_lower level (omega arith) f.0) f.1 in
    ended (λ e. Held depth level e) depth same stop g.0 g.1

module _ (inside : Rule Expr) (keeps : Keeps (λ depth e. Held depth 1 e) inside) where
  bracketed_keeps : Keeps (λ depth e. Held depth 7 e) (bracketed inside)
  bracketed_keeps tokens value rest depth (p, t1, (end, e1), (e, t2, read, (q, t3, (end', e2), (same, stop)))) fit =
      let first = after_open depth e1 fit in
      let second = keeps t1 e t2 (depth + 1) read first.1 in
      ended (λ x. Held depth 7 x) depth same stop (held_bracketed 7 first.0 second.0) (after_close depth e2 second.1)

  call1_keeps : (w : Word) (op : Op1) → Call1 w op → Keeps (λ depth e. Held depth 7 e) (call1 inside w (forms.One op))
  call1_keeps w op known tokens value rest depth (place, t0, (end0, e0), (p, t1, (end, e1), (a, t2, read, (q, t3, (end', e2), (same, stop))))) fit =
      let first = after_open depth e1 (after_token depth e0 fit).2 in
      let second = keeps t1 a t2 (depth + 1) read first.1 in
      ended (λ x. Held depth 7 x) depth same stop (held.bare (omega arith) (held.call1 known first.0 second.0)) (after_close depth e2 second.1)

  call2_keeps : (w : Word) (op : Op2) → Call2 w op → Keeps (λ depth e. Held depth 7 e) (call2 inside w (forms.Two op))
  call2_keeps w op known tokens value rest depth (place, t0, (end0, e0), (p, t1, (end, e1), (a, t2, read, (c, t3, (end3, e3), (b, t4, read', (q, t5, (end', e2), (same, stop))))))) fit =
      let first = after_open depth e1 (after_token depth e0 fit).2 in
      let second = keeps t1 a t2 (depth + 1) read first.1 in
      let third = keeps t3 b t4 (depth + 1) read' (after_token (depth + 1) e3 second.1).2 in
      ended (λ x. Held depth 7 x) depth same stop (held.bare (omega arith) (held.call2 known first.0 second.0 third.0)) (after_close depth e2 third.1)

  call3_keeps : (w : Word) (op : Op3) → Call3 w op → Keeps (λ depth e. Held depth 7 e) (call3 inside w (forms.Three op))
  call3_keeps w op known tokens value rest depth (place, t0, (end0, e0), (p, t1, (end, e1), (a, t2, read, (c, t3, (end3, e3), (b, t4, read', (c', t5, (end5, e5), (d, t6, read'', (q, t7, (end', e2), (same, stop))))))))) fit =
      let first = after_open depth e1 (after_token depth e0 fit).2 in
      let second = keeps t1 a t2 (depth + 1) read first.1 in
      let third = keeps t3 b t4 (depth + 1) read' (after_token (depth + 1) e3 second.1).2 in
      let fourth = keeps t5 d t6 (depth + 1) read'' (after_token (depth + 1) e5 third.1).2 in
      ended (λ x. Held depth 7 x) depth same stop (held.bare (omega arith) (held.call3 known first.0 second.0 third.0 fourth.0)) (after_close depth e2 fourth.1)

  to_keeps : Keeps (λ depth e. Held depth 7 e) (to_call inside)
  to_keeps tokens value rest depth (place, t0, (end0, e0), (p, t1, (end, e1), (bits, t2, (end2, e2), (c, t3, (end3, e3), (a, t4, read, (q, t5, (end', e5), (same, stop))))))) fit =
      let first = after_open depth e1 (after_token depth e0 fit).2 in
      let second = after_token (depth + 1) e3 (after_token (depth + 1) e2 first.1).2 in
      let third = keeps t3 a t4 (depth + 1) read second.2 in
      ended (λ x. Held depth 7 x) depth same stop (held.bare (omega arith) (held.to (scale_fits bits.held) first.0 third.0)) (after_close depth e5 third.1)

  prim_keeps : Keeps (λ depth e. Held depth 7 e) (prim inside)
  prim_keeps tokens value rest depth (inl (inl (inl h))) fit = literal_keeps tokens value rest depth h fit
  prim_keeps tokens value rest depth (inl (inl (inr h))) fit = variable_keeps tokens value rest depth h fit
  prim_keeps tokens value rest depth (inl (inr h)) fit = bracketed_keeps tokens value rest depth h fit
  prim_keeps tokens value rest depth (inr (inl (inl (inl (inl (inl (inl h))))))) fit = call1_keeps words.Isqrt ops1.Isqrt held.isqrt tokens value rest depth h fit
  prim_keeps tokens value rest depth (inr (inl (inl (inl (inl (inl (inr h))))))) fit = call1_keeps words.Abs ops1.Abs held.abs tokens value rest depth h fit
  prim_keeps tokens value rest depth (inr (inl (inl (inl (inl (inr h)))))) fit = to_keeps tokens value rest depth h fit
  prim_keeps tokens value rest depth (inr (inl (inl (inl (inr h))))) fit = call2_keeps words.Min ops2.Least held.least tokens value rest depth h fit
  prim_keeps tokens value rest depth (inr (inl (inl (inr h)))) fit = call2_keeps words.Max ops2.Most held.most tokens value rest depth h fit
  prim_keeps tokens value rest depth (inr (inl (inr h))) fit = call3_keeps words.Muldiv ops3.Muldiv held.muldiv tokens value rest depth h fit
  prim_keeps tokens value rest depth (inr (inr h)) fit = call3_keeps words.Vec ops3.Build held.build tokens value rest depth h fit

  post_keeps : Keeps (λ depth e. Held depth 7 e) (post inside)
  post_keeps tokens value rest depth (whole, t1, read, (parts, t2, more, (same, stop))) fit =
      let first = prim_keeps tokens whole t1 depth read fit in
      let all = parts_keep parts whole t1 t2 depth more first.0 first.1 in
      ended (λ e. Held depth 7 e) depth same stop all.0 all.1

  signed_keeps : (s : Symbol) (o : Op1) → IsPlain s → Sign s o → (tokens : List Token) (op : At Op1) (t1 : List Token) (a : Expr) (t2 : List Token) (depth : ℕ)
      → operator s o tokens op t1 → post inside t1 a t2 → Fit depth tokens → Held depth 6 (node op.place (forms.One op.held a)) × Fit depth t2
  signed_keeps s o plain known tokens op t1 a t2 depth read_op read fit =
      let first = operator_keeps s o plain tokens op t1 depth read_op fit in
      let second = post_keeps t1 a t2 depth read first.1 in
      (held.bare (omega arith) (held.sign (subst (λ (x : Op1). Sign s x) first.0 known) second.0), second.1)

  unary_keeps : Keeps (λ depth e. Held depth 6 e) (unary inside)
  unary_keeps tokens value rest depth (inl h) fit =
      let first = post_keeps tokens value rest depth h fit in
      (held_lower 6 (omega arith) first.0, first.1)
  unary_keeps tokens value rest depth (inr (op, t1, inl read_op, (a, t2, read, (same, stop)))) fit =
      let first = signed_keeps symbols.Minus ops1.Neg (λ d. refl) held.neg tokens op t1 a t2 depth read_op read fit in
      ended (λ e. Held depth 6 e) depth same stop first.0 first.1
  unary_keeps tokens value rest depth (inr (op, t1, inr read_op, (a, t2, read, (same, stop)))) fit =
      let first = signed_keeps symbols.Not ops1.Not (λ d. refl) held.not tokens op t1 a t2 depth read_op read fit in
      ended (λ e. Held depth 6 e) depth same stop first.0 first.1

  prod_keeps : Keeps (λ depth e. Held depth 5 e) (prod inside)
  prod_keeps = joined_keeps 5 _ (unary inside) (either_operator (one_operator 5 5 symbols.Star ops2.Mul held.mul (λ d. refl)) (one_operator 5 5 symbols.Slash ops2.Div held.div (λ d. refl))) unary_keeps

  sum_keeps : Keeps (λ depth e. Held depth 4 e) (sum inside)
  sum_keeps = joined_keeps 4 _ (prod inside) (either_operator (one_operator 4 4 symbols.Plus ops2.Add held.add (λ d. refl)) (one_operator 4 4 symbols.Minus ops2.Sub held.sub (λ d. refl))) prod_keeps

  relation_keeps : Operators 3 4 (relation inside)
  relation_keeps =
      either_operator (either_operator (either_operator (either_operator (either_operator
      (one_operator 3 4 symbols.Lt ops2.Lt held.lt (λ d. refl)) (one_operator 3 4 symbols.Le ops2.Le held.le (λ d. refl)))
      (one_operator 3 4 symbols.Gt ops2.Gt held.gt (λ d. refl))) (one_operator 3 4 symbols.Ge ops2.Ge held.ge (λ d. refl)))
      (one_operator 3 4 symbols.Eq ops2.Eq held.eq (λ d. refl))) (one_operator 3 4 symbols.Ne ops2.Ne held.ne (λ d. refl))

  rel_keeps : Keeps (λ depth e. Held depth 3 e) (rel inside)
  rel_keeps tokens value rest depth (left, t1, read, inl (same, stop)) fit =
      let first = sum_keeps tokens left t1 depth read fit in
      ended (λ e. Held depth 3 e) depth same stop (held_lower 3 (omega arith) first.0) first.1
  rel_keeps tokens value rest depth (left, t1, read, inr (op, t2, read_op, (right, t3, read', (same, stop)))) fit =
      let first = sum_keeps tokens left t1 depth read fit in
      let second = relation_keeps t1 op t2 depth read_op first.1 in
      let third = sum_keeps t2 right t3 depth read' second.1 in
      ended (λ e. Held depth 3 e) depth same stop (two_held left op right second.0.1 first.0 third.0) third.1

  both_keeps : Keeps (λ depth e. Held depth 2 e) (both inside)
  both_keeps = joined_keeps 2 _ (rel inside) (one_operator 2 2 symbols.And ops2.And held.and (λ d. refl)) rel_keeps

  over_keeps : Keeps (λ depth e. Held depth 1 e) (expr_over inside)
  over_keeps = joined_keeps 1 _ (both inside) (one_operator 1 1 symbols.Or ops2.Or held.or (λ d. refl)) both_keeps

within_keeps : (n : ℕ) → Keeps (λ depth e. Held depth 1 e) (expr_within n)
within_keeps zero = over_keeps never (λ tokens value rest depth h fit. absurd h)
within_keeps (suc n) = over_keeps (expr_within n) (within_keeps n)

pub expr_keeps : Keeps (λ depth e. Held depth 1 e) expr
expr_keeps tokens value rest depth (n, h) fit = within_keeps n tokens value rest depth h fit
