-- The tokens of a canonical text never have more than 32 brackets open.
use Rattle.std.proofs.Common.{◌≡◌, ℕ, zero, suc, ◌+◌, ◌-◌, ◌<◌, ◌≤◌, refl, sym, subst, List, [], ◌∷◌, ◌++◌, length, take, fold, ℤ, arith}
use Rattle.kern_token.specs.declared.token.Symbol.{Symbol}
use Rattle.kern_token.specs.declared.token.Symbol.TheVariants as symbols
use Rattle.kern_token.specs.declared.token.Token.{Token}
use Rattle.kern_token.specs.declared.token.TokenKind.TheVariants as kinds
use Rattle.kern_token.specs.declared.token.Word.TheVariants as words
use Rattle.kern_token.specs.Pieces.{Piece}
use Rattle.kern_token.specs.Reading.{place_after}
use Rattle.kern_tree.specs.declared.expr.Expr.{Expr}
use Rattle.kern_tree.specs.declared.expr.Op2.{Op2}
use Rattle.kern_tree.specs.declared.kernel.Decl.{Decl}
use Rattle.kern_tree.specs.declared.stmt.Stmt.{Stmt}
use Rattle.kern_tree.specs.FirstFault.{brackets_after, IsShallow}
use Rattle.kern_tree.specs.Grammar.{axis_letter}
use Rattle.kern_print.proofs.Decls.{decl_pieces, decls_pieces, small_pieces, last_pieces}
use Rattle.kern_print.proofs.Held as held
use Rattle.kern_print.proofs.Held.{Infix, Bare, Held}
use Rattle.kern_print.proofs.HeldStmts as stmts
use Rattle.kern_print.proofs.HeldStmts.{HeldStmt, HeldBlock, HeldDecl, HeldDecls, Small}
use Rattle.kern_print.proofs.Lines.{line_pieces, assignment_pieces, head_pieces, else_head, close_pieces, else_pieces, stmt_pieces, block_pieces}
use Rattle.kern_print.proofs.Reread.{onto, onto-append}
use Rattle.kern_print.proofs.RereadStmts.{start, onto_line}
use Rattle.kern_print.proofs.Spelled.{bare_pieces, held_pieces, literal_pieces, closed}
use Rattle.kern_print.proofs.Stops.{sym_of, word_of, name_of, number_of, scale_of, gap}

-- after each token at most 32 brackets are open, where so many were before
abbrev pub Shallow : ℕ → List Token → Type 0
Shallow depth [] = Unit {0}
Shallow depth (token ∷ tokens) = (brackets_after depth token.kind ≤ 32) × Shallow (brackets_after depth token.kind) tokens

taken : (tokens : List Token) (n depth : ℕ) → depth ≤ 32 → Shallow depth tokens → fold (λ (d : ℕ) (t : Token). brackets_after d t.kind) depth (take n tokens) ≤ 32
taken [] zero depth limit h = limit
taken [] (suc n) depth limit h = limit
taken (t ∷ tokens) zero depth limit h = limit
taken (t ∷ tokens) (suc n) depth limit h = taken tokens n (brackets_after depth t.kind) h.0 h.1

pub shallow_tokens : (tokens : List Token) → Shallow 0 tokens → IsShallow tokens
shallow_tokens tokens h = λ n. taken tokens n 0 (omega arith) h

-- ---- parts

apart : (depth place : ℕ) (ps qs : List Piece) (rest : List Token) → Shallow depth (onto place ps (onto (place_after place ps) qs rest)) → Shallow depth (onto place (ps ++ qs) rest)
apart depth place ps qs rest h = subst (λ (ts : List Token). Shallow depth ts) (sym (onto-append place ps qs rest)) h

lined : (depth line place : ℕ) (ps : List Piece) (rest : List Token) → Shallow depth (onto (start line place) ps rest) → Shallow depth (onto place (line_pieces line ps) rest)
lined depth line place ps rest h = subst (λ (ts : List Token). Shallow depth ts) (sym (onto_line line place ps rest)) h

closing : (depth : ℕ) (rest : List Token) → depth ≤ 32 → Shallow depth rest → (depth + 1 - 1 ≤ 32) × Shallow (depth + 1 - 1) rest
closing depth rest limit h =
    let same : depth ≡ depth + 1 - 1 = omega arith in
    (omega arith, subst (λ (d : ℕ). Shallow d rest) same h)

infix_plain : {level left : ℕ} {s : Symbol} {op : Op2} → Infix level left s op → (depth : ℕ) → depth ≡ brackets_after depth (kinds.Symbol s)
infix_plain held.or depth = refl
infix_plain held.and depth = refl
infix_plain held.lt depth = refl
infix_plain held.le depth = refl
infix_plain held.gt depth = refl
infix_plain held.ge depth = refl
infix_plain held.eq depth = refl
infix_plain held.ne depth = refl
infix_plain held.add depth = refl
infix_plain held.sub depth = refl
infix_plain held.mul depth = refl
infix_plain held.div depth = refl

infixed : {level left : ℕ} {s : Symbol} {op : Op2} → Infix level left s op → (depth : ℕ) (rest : List Token) → depth ≤ 32 → Shallow depth rest
    → (brackets_after depth (kinds.Symbol s) ≤ 32) × Shallow (brackets_after depth (kinds.Symbol s)) rest
infixed known depth rest limit h = subst (λ (d : ℕ). (d ≤ 32) × Shallow d rest) (infix_plain known depth) (limit, h)

literal_shallow : (m b depth place : ℕ) (rest : List Token) → depth ≤ 32 → Shallow depth rest → Shallow depth (onto place (literal_pieces m b) rest)
literal_shallow m zero depth place rest limit h = (limit, h)
literal_shallow m (suc b) depth place rest limit h = (limit, (limit, h))

mutual
  bare_shallow : {depth level : ℕ} {e : Expr} (h : Bare depth level e) (place : ℕ) (rest : List Token) → depth ≤ 32 → Shallow depth rest → Shallow depth (onto place (bare_pieces h) rest)
  bare_shallow (held.literal {depth = depth} {mantissa = m} {bits = b} small fits) place rest limit h = literal_shallow m b depth place rest limit h
  bare_shallow (held.variable name) place rest limit h = (limit, h)
  bare_shallow (held.part {depth = depth} {axis = axis} a) place rest limit h =
      let tail : List Piece = sym_of symbols.Dot ∷ name_of (axis_letter axis) ∷ [] in
      apart depth place (held_pieces a) tail rest (held_shallow a place (onto (place_after place (held_pieces a)) tail rest) limit (limit, (limit, h)))
  bare_shallow (held.sign held.neg a) place rest limit h = (limit, held_shallow a (place + 1) rest limit h)
  bare_shallow (held.sign held.not a) place rest limit h = (limit, held_shallow a (place + 1) rest limit h)
  bare_shallow (held.two {depth = depth} {s = s} known a b) place rest limit h =
      let tail : List Piece = gap ∷ sym_of s ∷ gap ∷ held_pieces b in
      let r : ℕ = place_after place (held_pieces a) in
      let q : ℕ = r + 1 + length (sym_of s).bytes in
      apart depth place (held_pieces a) tail rest (held_shallow a place (onto r tail rest) limit (infixed known depth (onto (q + 1) (held_pieces b) rest) limit (held_shallow b (q + 1) rest limit h)))
  bare_shallow (held.call1 {depth = depth} {w = w} known d a) place rest limit h =
      let q : ℕ = place + length (word_of w).bytes + 1 in
      (limit, (omega arith, apart (depth + 1) q (held_pieces a) closed rest (held_shallow a q (onto (place_after q (held_pieces a)) closed rest) (omega arith) (closing depth rest limit h))))
  bare_shallow (held.call2 {depth = depth} {w = w} known d a b) place rest limit h =
      let q : ℕ = place + length (word_of w).bytes + 1 in
      let tail : List Piece = sym_of symbols.Comma ∷ gap ∷ (held_pieces b ++ closed) in
      let r : ℕ = place_after q (held_pieces a) + 1 + 1 in
      let second : Shallow (depth + 1) (onto r (held_pieces b ++ closed) rest) = apart (depth + 1) r (held_pieces b) closed rest (held_shallow b r (onto (place_after r (held_pieces b)) closed rest) (omega arith) (closing depth rest limit h)) in
      (limit, (omega arith, apart (depth + 1) q (held_pieces a) tail rest (held_shallow a q (onto (place_after q (held_pieces a)) tail rest) (omega arith) (omega arith, second))))
  bare_shallow (held.call3 {depth = depth} {w = w} known d a b c) place rest limit h =
      let q : ℕ = place + length (word_of w).bytes + 1 in
      let last : List Piece = sym_of symbols.Comma ∷ gap ∷ (held_pieces c ++ closed) in
      let tail : List Piece = sym_of symbols.Comma ∷ gap ∷ (held_pieces b ++ last) in
      let r : ℕ = place_after q (held_pieces a) + 1 + 1 in
      let t : ℕ = place_after r (held_pieces b) + 1 + 1 in
      let third : Shallow (depth + 1) (onto t (held_pieces c ++ closed) rest) = apart (depth + 1) t (held_pieces c) closed rest (held_shallow c t (onto (place_after t (held_pieces c)) closed rest) (omega arith) (closing depth rest limit h)) in
      let second : Shallow (depth + 1) (onto r (held_pieces b ++ last) rest) = apart (depth + 1) r (held_pieces b) last rest (held_shallow b r (onto (place_after r (held_pieces b)) last rest) (omega arith) (omega arith, third)) in
      (limit, (omega arith, apart (depth + 1) q (held_pieces a) tail rest (held_shallow a q (onto (place_after q (held_pieces a)) tail rest) (omega arith) (omega arith, second))))
  bare_shallow (held.to {depth = depth} {bits = bits} fits d a) place rest limit h =
      let q : ℕ = place + 2 + 1 + length (number_of bits).bytes + 1 + 1 in
      (limit, (omega arith, (omega arith, (omega arith, apart (depth + 1) q (held_pieces a) closed rest (held_shallow a q (onto (place_after q (held_pieces a)) closed rest) (omega arith) (closing depth rest limit h))))))

  pub held_shallow : {depth needed : ℕ} {e : Expr} (h : Held depth needed e) (place : ℕ) (rest : List Token) → depth ≤ 32 → Shallow depth rest → Shallow depth (onto place (held_pieces h) rest)
  held_shallow (held.bare n b) place rest limit h = bare_shallow b place rest limit h
  held_shallow (held.bracket {depth = depth} n d b) place rest limit h =
      (omega arith, apart (depth + 1) (place + 1) (bare_pieces b) closed rest (bare_shallow b (place + 1) (onto (place_after (place + 1) (bare_pieces b)) closed rest) (omega arith) (closing depth rest limit h)))

-- ---- statements

else_shallow : {inner : ℕ} {others : List Stmt} (depth : ℕ) (h : HeldBlock inner others) → ((place : ℕ) (rest : List Token) → Shallow (depth + 1) rest → Shallow (depth + 1) (onto place (block_pieces h) rest))
    → (place : ℕ) (rest : List Token) → depth < 32 → Shallow depth rest → Shallow (depth + 1) (onto place (else_pieces depth others (block_pieces h) ++ line_pieces depth close_pieces) rest)
else_shallow depth stmts.done again place rest limit h = lined (depth + 1) depth place close_pieces rest (closing depth rest (omega arith) h)
else_shallow depth (stmts.more {s = s} {ss = ss} g gs) again place rest limit h =
    let ps : List Piece = stmt_pieces g ++ block_pieces gs in
    let last : List Piece = line_pieces depth close_pieces in
    let first : List Piece = line_pieces depth else_head in
    let q : ℕ = place_after place first in
    let r : ℕ = place_after place (first ++ ps) in
    let tail : Shallow (depth + 1) (onto r last rest) = lined (depth + 1) depth r close_pieces rest (closing depth rest (omega arith) h) in
    let inner : Shallow (depth + 1) (onto q ps (onto r last rest)) = again q (onto r last rest) tail in
    let same : depth + 1 ≡ depth + 1 - 1 + 1 = omega arith in
    apart (depth + 1) place (first ++ ps) last rest (apart (depth + 1) place first ps (onto r last rest) (lined (depth + 1) depth place else_head (onto q ps (onto r last rest))
    (omega arith, (omega arith, (omega arith, subst (λ (d : ℕ). Shallow d (onto q ps (onto r last rest))) same inner)))))

mutual
  pub stmt_shallow : {depth : ℕ} {s : Stmt} (h : HeldStmt depth s) (place : ℕ) (rest : List Token) → depth ≤ 32 → Shallow depth rest → Shallow depth (onto place (stmt_pieces h) rest)
  stmt_shallow (stmts.set {depth = depth} {n = n} name e) place rest limit h =
      let r : ℕ = start depth place + length n + 1 + 1 + 1 in
      let tail : List Piece = sym_of symbols.Semicolon ∷ [] in
      lined depth depth place (assignment_pieces n symbols.Assign (held_pieces e)) rest
      (limit, (limit, apart depth r (held_pieces e) tail rest (held_shallow e r (onto (place_after r (held_pieces e)) tail rest) limit (limit, h))))
  stmt_shallow (stmts.give {depth = depth} {n = n} name e) place rest limit h =
      let r : ℕ = start depth place + length n + 1 + 2 + 1 in
      let tail : List Piece = sym_of symbols.Semicolon ∷ [] in
      lined depth depth place (assignment_pieces n symbols.Add (held_pieces e)) rest
      (limit, (limit, apart depth r (held_pieces e) tail rest (held_shallow e r (onto (place_after r (held_pieces e)) tail rest) limit (limit, h))))
  stmt_shallow (stmts.conditional {depth = depth} {others = others} c d body other) place rest limit h =
      let pc : List Piece = held_pieces c in
      let bb : List Piece = block_pieces body in
      let ee : List Piece = else_pieces depth others (block_pieces other) ++ line_pieces depth close_pieces in
      let first : List Piece = line_pieces depth (head_pieces pc) in
      let q1 : ℕ = place_after place first in
      let q2 : ℕ = place_after q1 bb in
      let s1 : ℕ = start depth place + 2 + 1 in
      let curly : List Piece = gap ∷ sym_of symbols.OpenCurly ∷ [] in
      let third : Shallow (depth + 1) (onto q2 ee rest) = else_shallow depth other (λ p r x. block_shallow other p r (omega arith) x) q2 rest d h in
      let second : Shallow (depth + 1) (onto q1 (bb ++ ee) rest) = apart (depth + 1) q1 bb ee rest (block_shallow body q1 (onto q2 ee rest) (omega arith) third) in
      apart depth place first (bb ++ ee) rest (lined depth depth place (head_pieces pc) (onto q1 (bb ++ ee) rest)
      (limit, apart depth s1 pc curly (onto q1 (bb ++ ee) rest) (held_shallow c s1 (onto (place_after s1 pc) curly (onto q1 (bb ++ ee) rest)) limit (omega arith, second))))

  pub block_shallow : {depth : ℕ} {ss : List Stmt} (h : HeldBlock depth ss) (place : ℕ) (rest : List Token) → depth ≤ 32 → Shallow depth rest → Shallow depth (onto place (block_pieces h) rest)
  block_shallow stmts.done place rest limit h = h
  block_shallow (stmts.more {depth = depth} s ss) place rest limit h =
      apart depth place (stmt_pieces s) (block_pieces ss) rest (stmt_shallow s place (onto (place_after place (stmt_pieces s)) (block_pieces ss) rest) limit (block_shallow ss (place_after place (stmt_pieces s)) rest limit h))

-- ---- declarations

small_shallow : {value : ℤ} (h : Small value) (place : ℕ) (rest : List Token) → Shallow 0 rest → Shallow 0 (onto place (small_pieces h) rest)
small_shallow (stmts.plain small) place rest h = (omega arith, h)
small_shallow (stmts.negative small) place rest h = (omega arith, (omega arith, h))

none : 0 ≤ 32
none = omega arith

decl_shallow : {d : Decl} (h : HeldDecl d) (place : ℕ) (rest : List Token) → Shallow 0 rest → Shallow 0 (onto place (decl_pieces h) rest)
decl_shallow (stmts.epi limit name named) place rest h = (none, (none, (none, (none, (none, (none, (none, h)))))))
decl_shallow (stmts.epj limit name named) place rest h = (none, (none, (none, (none, (none, (none, (none, h)))))))
decl_shallow (stmts.force limit name) place rest h = (none, (none, (none, (none, (none, (none, h))))))
decl_shallow (stmts.param {bits = bits} {called = n} limit name value) place rest h =
    let q : ℕ = place + length (word_of words.Param).bytes + length gap.bytes + length (scale_of bits).bytes + length gap.bytes + length (name_of n).bytes + length gap.bytes + 1 + 1 in
    (none, (none, (none, (none, apart 0 q (small_pieces value) last_pieces rest (small_shallow value q (onto (place_after q (small_pieces value)) last_pieces rest) (none, h))))))

pub decls_shallow : {ds : List Decl} (h : HeldDecls ds) (place : ℕ) (rest : List Token) → Shallow 0 rest → Shallow 0 (onto place (decls_pieces h) rest)
decls_shallow stmts.done_decls place rest h = h
decls_shallow (stmts.more_decls d ds) place rest h =
    apart 0 place (decl_pieces d) (decls_pieces ds) rest (decl_shallow d place (onto (place_after place (decl_pieces d)) (decls_pieces ds) rest) (decls_shallow ds (place_after place (decl_pieces d)) rest h))
