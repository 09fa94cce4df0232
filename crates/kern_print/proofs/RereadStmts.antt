-- The pieces of held statements read as these statements again, but for places.
use Rattle.std.proofs.Common.{◌≡◌, ℕ, zero, suc, ◌+◌, ◌*◌, ◌≤◌, inl, inr, refl, sym, ap, ◌∙◌, subst, List, [], ◌∷◌, ◌++◌, length, arith}
use Rattle.kern_token.specs.declared.token.Symbol.TheVariants as symbols
use Rattle.kern_token.specs.declared.token.Token.{Token}
use Rattle.kern_token.specs.declared.token.TokenKind.{TokenKind}
use Rattle.kern_token.specs.declared.token.TokenKind.TheVariants as kinds
use Rattle.kern_token.specs.declared.token.Word.TheVariants as words
use Rattle.kern_token.specs.Pieces.{Piece}
use Rattle.kern_token.specs.Reading.{place_after}
use Rattle.kern_tree.specs.declared.expr.Expr.{Expr}
use Rattle.kern_tree.specs.declared.stmt.Act.TheVariants as acts
use Rattle.kern_tree.specs.declared.stmt.Stmt.{Stmt}
use Rattle.kern_tree.specs.Grammar.{stmt_node, expr, block, stmt_over, stmt_within}
use Rattle.kern_tree.specs.Rules.{Rule, ◌>>◌, ◌or◌, pure, many, never, symbol, word}
use Rattle.kern_tree.specs.Unrolled.{TreesByForm}
use Rattle.kern_print.proofs.Alike.{Alike}
use Rattle.kern_print.proofs.AlikeStmts.{AlikeStmt, AlikeBlock, alike_set, alike_give, alike_if, alike_none, alike_more}
use Rattle.kern_print.proofs.Held.{Held}
use Rattle.kern_print.proofs.HeldStmts as held
use Rattle.kern_print.proofs.HeldStmts.{HeldStmt, HeldBlock}
use Rattle.kern_print.proofs.Lines.{spaces, line_end, line_pieces, assignment_pieces, head_pieces, else_head, close_pieces, else_pieces, stmt_pieces, block_pieces}
use Rattle.kern_print.proofs.Reread.{onto, onto-append, held_reads, within_of}
use Rattle.kern_print.proofs.Spelled.{held_pieces}
use Rattle.kern_print.proofs.Stops.{sym_of, gap}

abbrev tok : TokenKind → ℕ → ℕ → Token
tok kind place end = record { kind = kind; place = place; end = end }

-- ---- lines

onto_spaces : (n place : ℕ) (rest : List Token) → onto place (spaces n) rest ≡ rest
onto_spaces zero place rest = refl
onto_spaces (suc n) place rest = onto_spaces n (place + 1) rest

-- where a line's text begins
abbrev pub start : ℕ → ℕ → ℕ
start depth place = place_after place (spaces (2 * depth))

pub onto_line : (depth place : ℕ) (ps : List Piece) (rest : List Token) → onto place (line_pieces depth ps) rest ≡ onto (start depth place) ps rest
onto_line depth place ps rest =
    onto-append place (spaces (2 * depth)) (ps ++ line_end) rest ∙ onto_spaces (2 * depth) place (onto (start depth place) (ps ++ line_end) rest)
    ∙ onto-append (start depth place) ps line_end rest

-- ---- expressions in statements

record ExprAgain (tokens : List Token) (e : Expr) (rest : List Token) : Type 0 where
  pub read : Expr
  pub alike : Alike e read
  pub reads : expr tokens read rest

expr_again : TreesByForm → {depth : ℕ} {e : Expr} (h : Held depth 1 e) (place : ℕ) (rest : List Token) → ExprAgain (onto place (held_pieces h) rest) e rest
expr_again tree h place rest =
    let a = held_reads tree h 32 (omega arith) place rest in
    record { read = a.read; alike = a.alike; reads = (32, within_of 32 _ a.read rest (a.reads [] rest refl)) }

-- ---- statements

abbrev pub within : ℕ → Rule Stmt
within zero = never
within (suc k) = stmt_within k

stmt_within_of : (k : ℕ) (tokens : List Token) (s : Stmt) (rest : List Token) → stmt_over (within k) tokens s rest → stmt_within k tokens s rest
stmt_within_of zero tokens s rest h = h
stmt_within_of (suc k) tokens s rest h = h

pub record StmtAgain (inside : Rule Stmt) (tokens : List Token) (s : Stmt) (rest : List Token) : Type 0 where
  pub read : Stmt
  pub alike : AlikeStmt s read
  pub reads : stmt_over inside tokens read rest

pub record BlockAgain (rule : Rule Stmt) (tokens : List Token) (ss : List Stmt) (rest : List Token) : Type 0 where
  pub read : List Stmt
  pub alike : AlikeBlock ss read
  pub reads : many rule tokens read rest

-- the end of a block, and the block of `else` behind it
record ElseAgain (inside : Rule Stmt) (tokens : List Token) (others : List Stmt) (rest : List Token) : Type 0 where
  pub read : List Stmt
  pub alike : AlikeBlock others read
  pub place : ℕ
  pub between : List Token
  pub closes : symbol symbols.CloseCurly tokens place between
  pub reads : ((word words.Else >> block inside) or pure []) between read rest

moved_stmt : {inside : Rule Stmt} {tokens other : List Token} {s : Stmt} {rest : List Token} → other ≡ tokens → StmtAgain inside tokens s rest → StmtAgain inside other s rest
moved_stmt {inside = inside} {rest = rest} e h = record { read = h.read; alike = h.alike; reads = subst (λ (ts : List Token). stmt_over inside ts h.read rest) (sym e) h.reads }

set_again : TreesByForm → {depth : ℕ} {e : Expr} (inside : Rule Stmt) (p : ℕ) (n : List ℕ) (h : Held depth 1 e) (place : ℕ) (rest : List Token)
    → StmtAgain inside (onto place (assignment_pieces n symbols.Assign (held_pieces h)) rest) (stmt_node p (acts.Set n e)) rest
set_again tree inside p n h place rest =
    let q : ℕ = place + length n + 1 in
    let r : ℕ = q + 1 + 1 in
    let tail : List Piece = sym_of symbols.Semicolon ∷ [] in
    let a = expr_again tree h r (onto (place_after r (held_pieces h)) tail rest) in
    record {
      read = stmt_node place (acts.Set n a.read);
      alike = alike_set tree p place n a.alike;
      reads = inl (
        record { place = place; held = n },
        _,
        (_, refl),
        (
          acts.Set,
          _,
          inl (q, _, (q + 1, ap (λ (x : List Token). tok (kinds.Symbol symbols.Assign) q (q + 1) ∷ x) (onto-append r (held_pieces h) tail rest)), (refl, refl)),
          (a.read, _, a.reads, (_, rest, (_, refl), (refl, refl))),
        ),
      );
    }

give_again : TreesByForm → {depth : ℕ} {e : Expr} (inside : Rule Stmt) (p : ℕ) (n : List ℕ) (h : Held depth 1 e) (place : ℕ) (rest : List Token)
    → StmtAgain inside (onto place (assignment_pieces n symbols.Add (held_pieces h)) rest) (stmt_node p (acts.Give n e)) rest
give_again tree inside p n h place rest =
    let q : ℕ = place + length n + 1 in
    let r : ℕ = q + 2 + 1 in
    let tail : List Piece = sym_of symbols.Semicolon ∷ [] in
    let a = expr_again tree h r (onto (place_after r (held_pieces h)) tail rest) in
    record {
      read = stmt_node place (acts.Give n a.read);
      alike = alike_give tree p place n a.alike;
      reads = inl (
        record { place = place; held = n },
        _,
        (_, refl),
        (
          acts.Give,
          _,
          inr (q, _, (q + 2, ap (λ (x : List Token). tok (kinds.Symbol symbols.Add) q (q + 2) ∷ x) (onto-append r (held_pieces h) tail rest)), (refl, refl)),
          (a.read, _, a.reads, (_, rest, (_, refl), (refl, refl))),
        ),
      );
    }

else_again : {inner : ℕ} {others : List Stmt} (k depth : ℕ) (h : HeldBlock inner others) → ((place : ℕ) (rest : List Token) → BlockAgain (stmt_within k) (onto place (block_pieces h) rest) others rest)
    → (place : ℕ) (rest : List Token) → ElseAgain (within (suc k)) (onto place (else_pieces depth others (block_pieces h) ++ line_pieces depth close_pieces) rest) others rest
else_again k depth held.done again place rest = record {
  read = [];
  alike = alike_none;
  place = start depth place;
  between = rest;
  closes = (start depth place + 1, onto_line depth place close_pieces rest);
  reads = inr (refl, refl);
}
else_again k depth (held.more {s = s} {ss = ss} h hs) again place rest =
    let ps : List Piece = stmt_pieces h ++ block_pieces hs in
    let last : List Piece = line_pieces depth close_pieces in
    let first : List Piece = line_pieces depth else_head in
    let q : ℕ = place_after place first in
    let r : ℕ = place_after place (first ++ ps) in
    let s0 : ℕ = start depth place in
    let a = again q (onto r last rest) in
    record {
      read = a.read;
      alike = a.alike;
      place = s0;
      between = _;
      closes = (s0 + 1, onto-append place (first ++ ps) last rest ∙ onto-append place first ps (onto r last rest) ∙ onto_line depth place else_head (onto q ps (onto r last rest)));
      reads = inl (_, _, (_, refl), (_, _, (_, refl), (a.read, _, a.reads, (start depth r, rest, (start depth r + 1, onto_line depth r close_pieces rest), (refl, refl)))));
    }

module _ (tree : TreesByForm) where
  mutual
    pub stmt_again : {depth : ℕ} {s : Stmt} (h : HeldStmt depth s) (k : ℕ) → 32 ≤ depth + k → (place : ℕ) (rest : List Token) → StmtAgain (within k) (onto place (stmt_pieces h) rest) s rest
    stmt_again (held.set {depth = depth} {place = p} {n = n} name h) k deep place rest =
        moved_stmt (onto_line depth place (assignment_pieces n symbols.Assign (held_pieces h)) rest) (set_again tree (within k) p n h (start depth place) rest)
    stmt_again (held.give {depth = depth} {place = p} {n = n} name h) k deep place rest =
        moved_stmt (onto_line depth place (assignment_pieces n symbols.Add (held_pieces h)) rest) (give_again tree (within k) p n h (start depth place) rest)
    stmt_again (held.conditional c d body other) zero deep place rest = absurd (omega arith)
    stmt_again (held.conditional {depth = depth} {place = p} {others = others} h d body other) (suc k) deep place rest =
        let pc : List Piece = held_pieces h in
        let bb : List Piece = block_pieces body in
        let ee : List Piece = else_pieces depth others (block_pieces other) ++ line_pieces depth close_pieces in
        let first : List Piece = line_pieces depth (head_pieces pc) in
        let q1 : ℕ = place_after place first in
        let q2 : ℕ = place_after q1 bb in
        let s0 : ℕ = start depth place in
        let s1 : ℕ = s0 + 2 + 1 in
        let s2 : ℕ = place_after s1 pc + 1 in
        let e = else_again k depth other (λ x y. block_again other k (omega arith) x y) q2 rest in
        let b = block_again body k (omega arith) q1 (onto q2 ee rest) in
        let a = expr_again tree h s1 (tok (kinds.Symbol symbols.OpenCurly) s2 (s2 + 1) ∷ onto q1 (bb ++ ee) rest) in
        moved_stmt (onto-append place first (bb ++ ee) rest ∙ onto_line depth place (head_pieces pc) (onto q1 (bb ++ ee) rest))
        record {
          read = stmt_node s0 (acts.If a.read b.read e.read);
          alike = alike_if tree p s0 a.alike b.alike e.alike;
          reads = inr (
            s0,
            _,
            (s0 + 2, ap (λ (x : List Token). tok (kinds.Word words.If) s0 (s0 + 2) ∷ x) (onto-append s1 pc (gap ∷ sym_of symbols.OpenCurly ∷ []) (onto q1 (bb ++ ee) rest))),
            (
              a.read,
              _,
              a.reads,
              (
                b.read,
                _,
                (s2, _, (s2 + 1, ap (λ (x : List Token). tok (kinds.Symbol symbols.OpenCurly) s2 (s2 + 1) ∷ x) (onto-append q1 bb ee rest)), (b.read, _, b.reads, (e.place, e.between, e.closes, (refl, refl)))),
                (e.read, rest, e.reads, (refl, refl)),
              ),
            ),
          );
        }

    pub block_again : {depth : ℕ} {ss : List Stmt} (h : HeldBlock depth ss) (k : ℕ) → 32 ≤ depth + k → (place : ℕ) (rest : List Token) → BlockAgain (stmt_within k) (onto place (block_pieces h) rest) ss rest
    block_again held.done k deep place rest = record { read = []; alike = alike_none; reads = refl }
    block_again (held.more {s = s} {ss = ss} h hs) k deep place rest =
        let q : ℕ = place_after place (stmt_pieces h) in
        let a = stmt_again h k deep place (onto q (block_pieces hs) rest) in
        let b = block_again hs k deep q rest in
        record {
          read = a.read ∷ b.read;
          alike = alike_more a.alike b.alike;
          reads = (
            onto q (block_pieces hs) rest,
            subst (λ (ts : List Token). stmt_within k ts a.read (onto q (block_pieces hs) rest)) (sym (onto-append place (stmt_pieces h) (block_pieces hs) rest))
                (stmt_within_of k _ a.read (onto q (block_pieces hs) rest) a.reads),
            b.reads,
          );
        }
