-- The pieces of a held expression read as that expression again, but for places.
use Rattle.std.proofs.Common.{◌≡◌, ℕ, zero, suc, ◌+◌, ◌-◌, ◌<◌, ◌≤◌, inl, inr, refl, sym, ap, subst, List, [], ◌∷◌, ◌++◌, length, fold, ◌^◌, arith}
use Rattle.std.proofs.lemmas.Bool.Decides.{nat_tests}
use Rattle.kern_token.specs.declared.token.Symbol.{Symbol}
use Rattle.kern_token.specs.declared.token.Symbol.TheVariants as symbols
use Rattle.kern_token.specs.declared.token.Token.{Token}
use Rattle.kern_token.specs.declared.token.TokenKind.{TokenKind}
use Rattle.kern_token.specs.declared.token.TokenKind.TheVariants as kinds
use Rattle.kern_token.specs.declared.token.Word.{Word}
use Rattle.kern_token.specs.Pieces.{Piece}
use Rattle.kern_token.specs.Reading.{token_of, place_after}
use Rattle.kern_tree.specs.declared.expr.Expr.{Expr}
use Rattle.kern_tree.specs.declared.expr.Form.TheVariants as forms
use Rattle.kern_tree.specs.declared.expr.Op1.{Op1}
use Rattle.kern_tree.specs.declared.expr.Op1.TheVariants as ops1
use Rattle.kern_tree.specs.declared.expr.Op2.{Op2}
use Rattle.kern_tree.specs.declared.expr.Op2.TheVariants as ops2
use Rattle.kern_tree.specs.declared.expr.Op3.{Op3}
use Rattle.pf_geom.specs.declared.axis.Axis.{Axis}
use Rattle.kern_tree.specs.Grammar.{node, two, part, operator, joined_from_left, to_scale, component, call1, call2, call3, post, prim, unary, prod, relation, rel, both, expr_over, expr_within, axis_letter}
use Rattle.kern_tree.specs.Rules.{Rule, At, ◌>>=◌, ◌or◌, pure, many, never, symbol}
use Rattle.kern_tree.specs.Unrolled.{TreesByForm}
use Rattle.kern_print.proofs.Alike.{Alike, alike_number, alike_name, alike_part, alike_one, alike_two, alike_three, alike_to}
use Rattle.kern_print.proofs.Held as held
use Rattle.kern_print.proofs.Held.{Infix, Bare, Held, Call1, Call2, Call3, level_one}
use Rattle.kern_print.proofs.Spelled.{bare_pieces, held_pieces, literal_pieces, closed}
use Rattle.kern_print.proofs.Stops.{sym_of, word_of, name_of, number_of, gap}

-- the tokens among the pieces that begin at a place, before others
abbrev pub onto : ℕ → List Piece → List Token → List Token
onto place [] rest = rest
onto place (p ∷ ps) rest = token_of place (place + length p.bytes) p.kind ++ onto (place + length p.bytes) ps rest

pub onto-append : (place : ℕ) (ps qs : List Piece) (rest : List Token) → onto place (ps ++ qs) rest ≡ onto place ps (onto (place_after place ps) qs rest)
onto-append place [] qs rest = refl
onto-append place (p ∷ ps) qs rest = ap (λ x. token_of place (place + length p.bytes) p.kind ++ x) (onto-append (place + length p.bytes) ps qs rest)

-- ---- rules in a form that goes on

abbrev pub pair : Rule (At Op2) → Rule Expr → Rule (At Op2 × Expr)
pair operators operand = do
  op ← operators
  right ← operand
  pure (op, right)

-- the tokens begin with this expression, which further operators may take as their left operand
abbrev Joins : Rule (At Op2) → Rule Expr → List Token → Expr → List Token → Type 0
Joins operators operand tokens e rest = (more : List (At Op2 × Expr)) (end : List Token) → many (pair operators operand) rest more end → joined_from_left operators operand tokens (fold two e more) end

-- the same with components
abbrev Parts : Rule Expr → List Token → Expr → List Token → Type 0
Parts inside tokens e rest = (parts : List (At Axis)) (end : List Token) → many component rest parts end → post inside tokens (fold part e parts) end

abbrev ors : Rule (At Op2)
ors = operator symbols.Or ops2.Or

abbrev ands : Rule (At Op2)
ands = operator symbols.And ops2.And

abbrev sums : Rule (At Op2)
sums = operator symbols.Plus ops2.Add or operator symbols.Minus ops2.Sub

abbrev prods : Rule (At Op2)
prods = operator symbols.Star ops2.Mul or operator symbols.Slash ops2.Div

-- the tokens begin with this expression where a level is needed
abbrev pub Reads : Rule Expr → ℕ → List Token → Expr → List Token → Type 0
Reads inside zero = Joins ors (both inside)
Reads inside (suc zero) = Joins ors (both inside)
Reads inside (suc (suc zero)) = Joins ands (rel inside)
Reads inside (suc (suc (suc zero))) = rel inside
Reads inside (suc (suc (suc (suc zero)))) = Joins sums (prod inside)
Reads inside (suc (suc (suc (suc (suc zero))))) = Joins prods (unary inside)
Reads inside (suc (suc (suc (suc (suc (suc zero)))))) = unary inside
Reads inside (suc (suc (suc (suc (suc (suc (suc n))))))) = Parts inside

module _ (inside : Rule Expr) where
  lower_one : (n : ℕ) (tokens : List Token) (e : Expr) (rest : List Token) → Reads inside (suc n) tokens e rest → Reads inside n tokens e rest
  lower_one zero tokens e rest h = h
  lower_one (suc zero) tokens e rest h = λ more end k. (e, rest, h [] rest refl, (more, end, k, (refl, refl)))
  lower_one (suc (suc zero)) tokens e rest h = λ more end k. (e, rest, h, (more, end, k, (refl, refl)))
  lower_one (suc (suc (suc zero))) tokens e rest h = (e, rest, h [] rest refl, inl (refl, refl))
  lower_one (suc (suc (suc (suc zero)))) tokens e rest h = λ more end k. (e, rest, h [] rest refl, (more, end, k, (refl, refl)))
  lower_one (suc (suc (suc (suc (suc zero))))) tokens e rest h = λ more end k. (e, rest, h, (more, end, k, (refl, refl)))
  lower_one (suc (suc (suc (suc (suc (suc zero)))))) tokens e rest h = inl (h [] rest refl)
  lower_one (suc (suc (suc (suc (suc (suc (suc n))))))) tokens e rest h = h

  lower_by : (d n m : ℕ) → m ≡ n + d → (tokens : List Token) (e : Expr) (rest : List Token) → Reads inside m tokens e rest → Reads inside n tokens e rest
  lower_by zero n m same tokens e rest h = let s : m ≡ n = omega arith in subst (λ (x : ℕ). Reads inside x tokens e rest) s h
  lower_by (suc d) n m same tokens e rest h =
      let s : m ≡ suc (n + d) = omega arith in
      lower_by d n (n + d) refl tokens e rest (lower_one (n + d) tokens e rest (subst (λ (x : ℕ). Reads inside x tokens e rest) s h))

  pub lower_to : (n m : ℕ) → n ≤ m → (tokens : List Token) (e : Expr) (rest : List Token) → Reads inside m tokens e rest → Reads inside n tokens e rest
  lower_to n m h tokens e rest r = lower_by (m - n) n m (omega arith) tokens e rest r

  -- what stands in brackets or is a call serves at every level
  from_prim : (n : ℕ) (tokens : List Token) (e : Expr) (rest : List Token) → Parts inside tokens e rest → Reads inside n tokens e rest
  from_prim zero tokens e rest h = lower_to 0 7 (omega arith) tokens e rest h
  from_prim (suc zero) tokens e rest h = lower_to 1 7 (omega arith) tokens e rest h
  from_prim (suc (suc zero)) tokens e rest h = lower_to 2 7 (omega arith) tokens e rest h
  from_prim (suc (suc (suc zero))) tokens e rest h = lower_to 3 7 (omega arith) tokens e rest h
  from_prim (suc (suc (suc (suc zero)))) tokens e rest h = lower_to 4 7 (omega arith) tokens e rest h
  from_prim (suc (suc (suc (suc (suc zero))))) tokens e rest h = lower_to 5 7 (omega arith) tokens e rest h
  from_prim (suc (suc (suc (suc (suc (suc zero)))))) tokens e rest h = lower_to 6 7 (omega arith) tokens e rest h
  from_prim (suc (suc (suc (suc (suc (suc (suc n))))))) tokens e rest h = h

  prim_parts : (tokens : List Token) (e : Expr) (rest : List Token) → prim inside tokens e rest → Parts inside tokens e rest
  prim_parts tokens e rest h = λ parts end k. (e, rest, h, (parts, end, k, (refl, refl)))

-- ---- operators

join : (operators : Rule (At Op2)) (operand : Rule Expr) (tokens : List Token) (a : Expr) (t1 : List Token) (op : At Op2) (t2 : List Token) (b : Expr) (rest : List Token)
    → Joins operators operand tokens a t1 → operators t1 op t2 → operand t2 b rest → Joins operators operand tokens (node op.place (forms.Two op.held a b)) rest
join operators operand tokens a t1 op t2 b rest h o r = λ more end k. h ((op, b) ∷ more) end (rest, (op, t2, o, (b, rest, r, (refl, refl))), k)

compare : (inside : Rule Expr) (tokens : List Token) (a : Expr) (t1 : List Token) (op : At Op2) (t2 : List Token) (b : Expr) (rest : List Token)
    → Joins sums (prod inside) tokens a t1 → relation inside t1 op t2 → Joins sums (prod inside) t2 b rest → rel inside tokens (node op.place (forms.Two op.held a b)) rest
compare inside tokens a t1 op t2 b rest h o r = (a, t1, h [] t1 refl, inr (op, t2, o, (b, rest, r [] rest refl, (refl, refl))))

abbrev tok : TokenKind → ℕ → ℕ → Token
tok kind place end = record { kind = kind; place = place; end = end }

infix_reads : (inside : Rule Expr) {level left : ℕ} {s : Symbol} {op : Op2} → Infix level left s op → (tokens : List Token) (a : Expr) (place end : ℕ) (t2 : List Token) (b : Expr) (rest : List Token)
    → Reads inside left tokens a (tok (kinds.Symbol s) place end ∷ t2) → Reads inside (suc level) t2 b rest → Reads inside level tokens (node place (forms.Two op a b)) rest
infix_reads inside held.or tokens a place end t2 b rest h r = join ors (both inside) tokens a _ (record { place = place; held = ops2.Or }) t2 b rest h (place, t2, (end, refl), (refl, refl)) (r [] rest refl)
infix_reads inside held.and tokens a place end t2 b rest h r = join ands (rel inside) tokens a _ (record { place = place; held = ops2.And }) t2 b rest h (place, t2, (end, refl), (refl, refl)) r
infix_reads inside held.lt tokens a place end t2 b rest h r = compare inside tokens a _ (record { place = place; held = ops2.Lt }) t2 b rest h (inl (inl (inl (inl (inl (place, t2, (end, refl), (refl, refl))))))) r
infix_reads inside held.le tokens a place end t2 b rest h r = compare inside tokens a _ (record { place = place; held = ops2.Le }) t2 b rest h (inl (inl (inl (inl (inr (place, t2, (end, refl), (refl, refl))))))) r
infix_reads inside held.gt tokens a place end t2 b rest h r = compare inside tokens a _ (record { place = place; held = ops2.Gt }) t2 b rest h (inl (inl (inl (inr (place, t2, (end, refl), (refl, refl)))))) r
infix_reads inside held.ge tokens a place end t2 b rest h r = compare inside tokens a _ (record { place = place; held = ops2.Ge }) t2 b rest h (inl (inl (inr (place, t2, (end, refl), (refl, refl))))) r
infix_reads inside held.eq tokens a place end t2 b rest h r = compare inside tokens a _ (record { place = place; held = ops2.Eq }) t2 b rest h (inl (inr (place, t2, (end, refl), (refl, refl)))) r
infix_reads inside held.ne tokens a place end t2 b rest h r = compare inside tokens a _ (record { place = place; held = ops2.Ne }) t2 b rest h (inr (place, t2, (end, refl), (refl, refl))) r
infix_reads inside held.add tokens a place end t2 b rest h r = join sums (prod inside) tokens a _ (record { place = place; held = ops2.Add }) t2 b rest h (inl (place, t2, (end, refl), (refl, refl))) (r [] rest refl)
infix_reads inside held.sub tokens a place end t2 b rest h r = join sums (prod inside) tokens a _ (record { place = place; held = ops2.Sub }) t2 b rest h (inr (place, t2, (end, refl), (refl, refl))) (r [] rest refl)
infix_reads inside held.mul tokens a place end t2 b rest h r = join prods (unary inside) tokens a _ (record { place = place; held = ops2.Mul }) t2 b rest h (inl (place, t2, (end, refl), (refl, refl))) r
infix_reads inside held.div tokens a place end t2 b rest h r = join prods (unary inside) tokens a _ (record { place = place; held = ops2.Div }) t2 b rest h (inr (place, t2, (end, refl), (refl, refl))) r

-- ---- calls and brackets

abbrev pub below : ℕ → Rule Expr
below zero = never
below (suc k) = expr_within k

pub within_of : (k : ℕ) (tokens : List Token) (e : Expr) (rest : List Token) → expr_over (below k) tokens e rest → expr_within k tokens e rest
within_of zero tokens e rest h = h
within_of (suc k) tokens e rest h = h

call1_prim : (inside : Rule Expr) {w : Word} {op : Op1} → Call1 w op → (tokens : List Token) (e : Expr) (rest : List Token) → call1 inside w (forms.One op) tokens e rest → prim inside tokens e rest
call1_prim inside held.isqrt tokens e rest h = inr (inl (inl (inl (inl (inl (inl h))))))
call1_prim inside held.abs tokens e rest h = inr (inl (inl (inl (inl (inl (inr h))))))

call2_prim : (inside : Rule Expr) {w : Word} {op : Op2} → Call2 w op → (tokens : List Token) (e : Expr) (rest : List Token) → call2 inside w (forms.Two op) tokens e rest → prim inside tokens e rest
call2_prim inside held.least tokens e rest h = inr (inl (inl (inl (inr h))))
call2_prim inside held.most tokens e rest h = inr (inl (inl (inr h)))

call3_prim : (inside : Rule Expr) {w : Word} {op : Op3} → Call3 w op → (tokens : List Token) (e : Expr) (rest : List Token) → call3 inside w (forms.Three op) tokens e rest → prim inside tokens e rest
call3_prim inside held.muldiv tokens e rest h = inr (inl (inr h))
call3_prim inside held.build tokens e rest h = inr (inr h)

-- the bracket before some pieces
opened : (place : ℕ) (ps qs : List Piece) (rest : List Token) → symbol symbols.OpenRound (onto place (sym_of symbols.OpenRound ∷ (ps ++ qs)) rest) place (onto (place + 1) ps (onto (place_after (place + 1) ps) qs rest))
opened place ps qs rest = (place + 1, ap (λ x. tok (kinds.Symbol symbols.OpenRound) place (place + 1) ∷ x) (onto-append (place + 1) ps qs rest))

-- the comma before some pieces
commaed : (place : ℕ) (ps qs : List Piece) (rest : List Token) → symbol symbols.Comma (onto place (sym_of symbols.Comma ∷ gap ∷ (ps ++ qs)) rest) place (onto (place + 1 + 1) ps (onto (place_after (place + 1 + 1) ps) qs rest))
commaed place ps qs rest = (place + 1, ap (λ x. tok (kinds.Symbol symbols.Comma) place (place + 1) ∷ x) (onto-append (place + 1 + 1) ps qs rest))

to_scale_same : (n : ℕ) → n < 2 ^ 32 → to_scale n ≡ n
to_scale_same n h = grind (arith, nat_tests)

-- ---- held expressions

pub record Again (inside : Rule Expr) (level : ℕ) (tokens : List Token) (e : Expr) (rest : List Token) : Type 0 where
  pub read : Expr
  pub alike : Alike e read
  pub reads : Reads inside level tokens read rest

literal_reads : TreesByForm → (inside : Rule Expr) (p m b place : ℕ) (rest : List Token) → Again inside 7 (onto place (literal_pieces m b) rest) (node p (forms.Number m b)) rest
literal_reads tree inside p m zero place rest = record {
  read = node place (forms.Number m 0);
  alike = alike_number tree p place m 0;
  reads = prim_parts inside _ _ rest (inl (inl (inl (record { place = place; held = m }, rest, (_, refl), (0, rest, inr (refl, refl), (refl, refl))))));
}
literal_reads tree inside p m (suc b) place rest = record {
  read = node place (forms.Number m (suc b));
  alike = alike_number tree p place m (suc b);
  reads = prim_parts inside _ _ rest (inl (inl (inl (record { place = place; held = m }, _, (_, refl), (suc b, rest, inl (record { place = _; held = suc b }, rest, (_, refl), (refl, refl)), (refl, refl))))));
}

module _ (tree : TreesByForm) where
  mutual
    pub bare_reads : {depth level : ℕ} {e : Expr} (h : Bare depth level e) (k : ℕ) → 32 ≤ depth + k → (place : ℕ) (rest : List Token) → Again (below k) level (onto place (bare_pieces h) rest) e rest
    bare_reads (held.literal {place = p} {mantissa = m} {bits = b} small limit) k deep place rest = literal_reads tree (below k) p m b place rest
    bare_reads (held.variable {place = p} {called = n} name) k deep place rest = record {
      read = node place (forms.Name n);
      alike = alike_name tree p place n;
      reads = prim_parts (below k) _ _ rest (inl (inl (inr (record { place = place; held = n }, rest, (_, refl), (refl, refl)))));
    }
    bare_reads (held.part {place = p} {axis = axis} h) k deep place rest =
        let pa : List Piece = held_pieces h in
        let r : ℕ = place_after place pa in
        let tail : List Piece = sym_of symbols.Dot ∷ name_of (axis_letter axis) ∷ [] in
        let a = held_reads h k deep place (onto r tail rest) in
        record {
          read = node r (forms.Part a.read axis);
          alike = alike_part tree p r axis a.alike;
          reads = λ parts end more. subst (λ (ts : List Token). post (below k) ts (fold part (node r (forms.Part a.read axis)) parts) end) (sym (onto-append place pa tail rest))
              (a.reads (record { place = r; held = axis } ∷ parts) end (rest, (r, _, (_, refl), (axis, rest, (_, (_, refl)), (refl, refl))), more));
        }
    bare_reads (held.sign {place = p} held.neg h) k deep place rest =
        let a = held_reads h k deep (place + 1) rest in
        record {
          read = node place (forms.One ops1.Neg a.read);
          alike = alike_one tree p place ops1.Neg a.alike;
          reads = inr (record { place = place; held = ops1.Neg }, _, inl (place, _, (_, refl), (refl, refl)), (a.read, rest, a.reads [] rest refl, (refl, refl)));
        }
    bare_reads (held.sign {place = p} held.not h) k deep place rest =
        let a = held_reads h k deep (place + 1) rest in
        record {
          read = node place (forms.One ops1.Not a.read);
          alike = alike_one tree p place ops1.Not a.alike;
          reads = inr (record { place = place; held = ops1.Not }, _, inr (place, _, (_, refl), (refl, refl)), (a.read, rest, a.reads [] rest refl, (refl, refl)));
        }
    bare_reads (held.two {place = p} {level = level} {left = left} {s = s} {op = op} known h g) k deep place rest =
        let pa : List Piece = held_pieces h in
        let pb : List Piece = held_pieces g in
        let r : ℕ = place_after place pa in
        let q : ℕ = r + 1 + length (sym_of s).bytes in
        let tail : List Piece = gap ∷ sym_of s ∷ gap ∷ pb in
        let a = held_reads h k deep place (onto r tail rest) in
        let b = held_reads g k deep (q + 1) rest in
        record {
          read = node (r + 1) (forms.Two op a.read b.read);
          alike = alike_two tree p (r + 1) op a.alike b.alike;
          reads = infix_reads (below k) known (onto place (pa ++ tail) rest) a.read (r + 1) q (onto (q + 1) pb rest) b.read rest
              (subst (λ (ts : List Token). Reads (below k) left ts a.read (onto r tail rest)) (sym (onto-append place pa tail rest)) a.reads) b.reads;
        }
    bare_reads (held.call1 {place = p} {w = w} {op = op} known d h) zero deep place rest = absurd (omega arith)
    bare_reads (held.call1 {place = p} {w = w} {op = op} known d h) (suc k) deep place rest =
        let pa : List Piece = held_pieces h in
        let q : ℕ = place + length (word_of w).bytes in
        let a = held_reads h k (omega arith) (q + 1) (onto (place_after (q + 1) pa) closed rest) in
        record {
          read = node place (forms.One op a.read);
          alike = alike_one tree p place op a.alike;
          reads = prim_parts (below (suc k)) _ _ rest (call1_prim (below (suc k)) known _ _ rest
              (place, _, (_, refl), (q, _, opened q pa closed rest, (a.read, _, within_of k _ _ _ (a.reads [] _ refl), (_, rest, (_, refl), (refl, refl))))));
        }
    bare_reads (held.call2 {place = p} {w = w} {op = op} known d h g) zero deep place rest = absurd (omega arith)
    bare_reads (held.call2 {place = p} {w = w} {op = op} known d h g) (suc k) deep place rest =
        let pa : List Piece = held_pieces h in
        let pb : List Piece = held_pieces g in
        let q : ℕ = place + length (word_of w).bytes in
        let r : ℕ = place_after (q + 1) pa in
        let tail : List Piece = sym_of symbols.Comma ∷ gap ∷ (pb ++ closed) in
        let a = held_reads h k (omega arith) (q + 1) (onto r tail rest) in
        let b = held_reads g k (omega arith) (r + 1 + 1) (onto (place_after (r + 1 + 1) pb) closed rest) in
        record {
          read = node place (forms.Two op a.read b.read);
          alike = alike_two tree p place op a.alike b.alike;
          reads = prim_parts (below (suc k)) _ _ rest (call2_prim (below (suc k)) known _ _ rest (
            place,
            _,
            (_, refl),
            (
              q,
              _,
              opened q pa tail rest,
              (
                a.read,
                _,
                within_of k _ _ _ (a.reads [] _ refl),
                (r, _, commaed r pb closed rest, (b.read, _, within_of k _ _ _ (b.reads [] _ refl), (_, rest, (_, refl), (refl, refl)))),
              ),
            ),
          ));
        }
    bare_reads (held.call3 {place = p} {w = w} {op = op} known d h g f) zero deep place rest = absurd (omega arith)
    bare_reads (held.call3 {place = p} {w = w} {op = op} known d h g f) (suc k) deep place rest =
        let pa : List Piece = held_pieces h in
        let pb : List Piece = held_pieces g in
        let pc : List Piece = held_pieces f in
        let q : ℕ = place + length (word_of w).bytes in
        let r : ℕ = place_after (q + 1) pa in
        let t : ℕ = place_after (r + 1 + 1) pb in
        let last : List Piece = sym_of symbols.Comma ∷ gap ∷ (pc ++ closed) in
        let tail : List Piece = sym_of symbols.Comma ∷ gap ∷ (pb ++ last) in
        let a = held_reads h k (omega arith) (q + 1) (onto r tail rest) in
        let b = held_reads g k (omega arith) (r + 1 + 1) (onto t last rest) in
        let c = held_reads f k (omega arith) (t + 1 + 1) (onto (place_after (t + 1 + 1) pc) closed rest) in
        record {
          read = node place (forms.Three op a.read b.read c.read);
          alike = alike_three tree p place op a.alike b.alike c.alike;
          reads = prim_parts (below (suc k)) _ _ rest (call3_prim (below (suc k)) known _ _ rest (
            place,
            _,
            (_, refl),
            (
              q,
              _,
              opened q pa tail rest,
              (
                a.read,
                _,
                within_of k _ _ _ (a.reads [] _ refl),
                (
                  r,
                  _,
                  commaed r pb last rest,
                  (
                    b.read,
                    _,
                    within_of k _ _ _ (b.reads [] _ refl),
                    (t, _, commaed t pc closed rest, (c.read, _, within_of k _ _ _ (c.reads [] _ refl), (_, rest, (_, refl), (refl, refl)))),
                  ),
                ),
              ),
            ),
          ));
        }
    bare_reads (held.to {place = p} {bits = bits} fits d h) zero deep place rest = absurd (omega arith)
    bare_reads (held.to {place = p} {bits = bits} fits d h) (suc k) deep place rest =
        let pa : List Piece = held_pieces h in
        let q : ℕ = place + 2 + 1 in
        let r : ℕ = q + length (number_of bits).bytes in
        let a = held_reads h k (omega arith) (r + 1 + 1) (onto (place_after (r + 1 + 1) pa) closed rest) in
        record {
          read = node place (forms.To bits a.read);
          alike = alike_to tree p place bits a.alike;
          reads = prim_parts (below (suc k)) _ _ rest (inr (inl (inl (inl (inl (inr (
            place,
            _,
            (_, refl),
            (
              place + 2,
              _,
              (_, refl),
              (
                record { place = q; held = bits },
                _,
                (_, refl),
                (r, _, commaed r pa closed rest, (a.read, _, within_of k _ _ _ (a.reads [] _ refl), (_, rest, (_, refl), (ap (λ n. node place (forms.To n a.read)) (sym (to_scale_same bits fits)), refl)))),
              ),
            ),
          )))))));
        }

    pub held_reads : {depth needed : ℕ} {e : Expr} (h : Held depth needed e) (k : ℕ) → 32 ≤ depth + k → (place : ℕ) (rest : List Token) → Again (below k) needed (onto place (held_pieces h) rest) e rest
    held_reads {needed = needed} (held.bare {level = level} n b) k deep place rest =
        let a = bare_reads b k deep place rest in
        record {
          read = a.read;
          alike = a.alike;
          reads = lower_to (below k) needed level n _ a.read rest a.reads;
        }
    held_reads (held.bracket n d b) zero deep place rest = absurd (omega arith)
    held_reads {needed = needed} (held.bracket {level = level} n d b) (suc k) deep place rest =
        let pb : List Piece = bare_pieces b in
        let a = bare_reads b k (omega arith) (place + 1) (onto (place_after (place + 1) pb) closed rest) in
        record {
          read = a.read;
          alike = a.alike;
          reads = from_prim (below (suc k)) needed _ a.read rest (prim_parts (below (suc k)) _ a.read rest (inl (inr
              (place, _, opened place pb closed rest, (a.read, _, within_of k _ _ _ (lower_to (below k) 1 level (level_one b) _ a.read _ a.reads [] _ refl), (_, rest, (_, refl), (refl, refl)))))));
        }
