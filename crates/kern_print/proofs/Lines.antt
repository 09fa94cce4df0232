-- The pieces of held statements and declarations: they stop, and their bytes are the canonical text.
use Rattle.std.proofs.Common.{◌≡◌, ℕ, zero, suc, ◌+◌, ◌*◌, refl, sym, ap, ◌∙◌, List, [], ◌∷◌, ◌++◌, inl, map, replicate, codes, append_assoc, arith}
use Rattle.std.specs.List.{flat_map}
use Rattle.kern_token.specs.declared.token.Symbol.{Symbol}
use Rattle.kern_token.specs.declared.token.Symbol.TheVariants as symbols
use Rattle.kern_token.specs.declared.token.Word.TheVariants as words
use Rattle.kern_token.specs.Pieces.{Piece, IsPiece}
use Rattle.kern_tree.specs.declared.expr.Expr.{Expr}
use Rattle.kern_tree.specs.declared.stmt.Stmt.{Stmt}
use Rattle.kern_tree.proofs.Layers.{set_layer, give_layer, if_layer}
use Rattle.kern_print.specs.Canonical.{act_lines, stmt_lines, stmt_text, else_lines, line}
use Rattle.kern_print.specs.Expressions.{expr_text}
use Rattle.kern_print.proofs.Held.{Held}
use Rattle.kern_print.proofs.HeldStmts as held
use Rattle.kern_print.proofs.HeldStmts.{HeldStmt, HeldBlock, HeldDecl, HeldDecls, Small}
use Rattle.kern_print.proofs.Ifs.{block_by_statements, else_shown}
use Rattle.kern_print.proofs.Spelled.{held_pieces, held_stops, gap_before, sym_before, word_before, name_before, edge_32, edge_59}
use Rattle.kern_print.proofs.Stops.{sym_of, word_of, name_of, blank, gap, bytes_of, bytes_of-append, Calm, Stops, Stops-append, blank_stops}
use Rattle.kern_print.proofs.Texts.{held_text, behind}

-- ---- lines

abbrev pub spaces : ℕ → List Piece
spaces zero = []
spaces (suc n) = gap ∷ spaces n

abbrev pub line_end : List Piece
line_end = blank 10 ∷ []

abbrev pub line_pieces : ℕ → List Piece → List Piece
line_pieces depth ps = spaces (2 * depth) ++ (ps ++ line_end)

pub calm_10 : Calm 10
calm_10 = (λ e. omega arith, λ e. omega arith, λ e. omega arith)

pub calm_32 : Calm 32
calm_32 = edge_32.1

pub end_stops : (rest : List ℕ) → Stops line_end rest
end_stops rest = (inl (refl, refl), tt, blank_stops 10 rest (λ e. omega arith), tt)

spaces_stop : (n : ℕ) (rest : List ℕ) → Stops (spaces n) rest
spaces_stop zero rest = tt
spaces_stop (suc n) rest = gap_before (spaces n) rest (spaces_stop n rest)

line_stops : (depth : ℕ) (ps : List Piece) (rest : List ℕ) → Stops ps (10 ∷ rest) → Stops (line_pieces depth ps) rest
line_stops depth ps rest h = Stops-append (spaces (2 * depth)) (ps ++ line_end) rest (spaces_stop (2 * depth) (bytes_of (ps ++ line_end) ++ rest)) (Stops-append ps line_end rest h (end_stops rest))

spaces_bytes : (n : ℕ) → replicate n 32 ≡ bytes_of (spaces n)
spaces_bytes zero = refl
spaces_bytes (suc n) = ap (λ x. 32 ∷ x) (spaces_bytes n)

line_bytes : (depth : ℕ) (ps : List Piece) (text : List ℕ) → text ≡ bytes_of ps → line depth text ≡ bytes_of (line_pieces depth ps)
line_bytes depth ps text e =
    append_assoc (replicate (2 * depth) 32) text (codes "\n")
    ∙ ap (λ x. replicate (2 * depth) 32 ++ x) (behind ps line_end text e)
    ∙ behind (spaces (2 * depth)) (ps ++ line_end) (replicate (2 * depth) 32) (spaces_bytes (2 * depth))

-- ---- statements

abbrev pub assignment_pieces : List ℕ → Symbol → List Piece → List Piece
assignment_pieces n s ps = name_of n ∷ gap ∷ sym_of s ∷ gap ∷ (ps ++ (sym_of symbols.Semicolon ∷ []))

abbrev pub head_pieces : List Piece → List Piece
head_pieces ps = word_of words.If ∷ gap ∷ (ps ++ (gap ∷ sym_of symbols.OpenCurly ∷ []))

abbrev pub else_head : List Piece
else_head = sym_of symbols.CloseCurly ∷ gap ∷ word_of words.Else ∷ gap ∷ sym_of symbols.OpenCurly ∷ []

abbrev pub close_pieces : List Piece
close_pieces = sym_of symbols.CloseCurly ∷ []

-- what stands between the lines of a block and its last bracket
abbrev pub else_pieces : ℕ → List Stmt → List Piece → List Piece
else_pieces depth [] ps = []
else_pieces depth (s ∷ ss) ps = line_pieces depth else_head ++ ps

abbrev mutual
  pub stmt_pieces : {depth : ℕ} {s : Stmt} → HeldStmt depth s → List Piece
  stmt_pieces (held.set {depth = depth} {n = n} name e) = line_pieces depth (assignment_pieces n symbols.Assign (held_pieces e))
  stmt_pieces (held.give {depth = depth} {n = n} name e) = line_pieces depth (assignment_pieces n symbols.Add (held_pieces e))
  stmt_pieces (held.conditional {depth = depth} {others = others} c d body other) =
      line_pieces depth (head_pieces (held_pieces c)) ++ (block_pieces body ++ (else_pieces depth others (block_pieces other) ++ line_pieces depth close_pieces))

  pub block_pieces : {depth : ℕ} {ss : List Stmt} → HeldBlock depth ss → List Piece
  block_pieces held.done = []
  block_pieces (held.more s ss) = stmt_pieces s ++ block_pieces ss

assignment_stops : {depth needed : ℕ} {e : Expr} (n : List ℕ) (s : Symbol) (h : Held depth needed e) (rest : List ℕ) → IsPiece (name_of n) → Stops (assignment_pieces n s (held_pieces h)) (10 ∷ rest)
assignment_stops n s h rest name =
    name_before n (gap ∷ sym_of s ∷ gap ∷ (held_pieces h ++ (sym_of symbols.Semicolon ∷ []))) (10 ∷ rest) name.1 edge_32
    (gap_before (sym_of s ∷ gap ∷ (held_pieces h ++ (sym_of symbols.Semicolon ∷ []))) (10 ∷ rest)
    (sym_before s (gap ∷ (held_pieces h ++ (sym_of symbols.Semicolon ∷ []))) (10 ∷ rest) calm_32
    (gap_before (held_pieces h ++ (sym_of symbols.Semicolon ∷ [])) (10 ∷ rest)
    (Stops-append (held_pieces h) (sym_of symbols.Semicolon ∷ []) (10 ∷ rest) (held_stops h (59 ∷ 10 ∷ rest) edge_59) (sym_before symbols.Semicolon [] (10 ∷ rest) calm_10 tt)))))

head_stops : {depth needed : ℕ} {e : Expr} (h : Held depth needed e) (rest : List ℕ) → Stops (head_pieces (held_pieces h)) (10 ∷ rest)
head_stops h rest =
    word_before words.If (gap ∷ (held_pieces h ++ (gap ∷ sym_of symbols.OpenCurly ∷ []))) (10 ∷ rest) edge_32
    (gap_before (held_pieces h ++ (gap ∷ sym_of symbols.OpenCurly ∷ [])) (10 ∷ rest)
    (Stops-append (held_pieces h) (gap ∷ sym_of symbols.OpenCurly ∷ []) (10 ∷ rest) (held_stops h (32 ∷ 123 ∷ 10 ∷ rest) edge_32)
    (gap_before (sym_of symbols.OpenCurly ∷ []) (10 ∷ rest) (sym_before symbols.OpenCurly [] (10 ∷ rest) calm_10 tt))))

else_head_stops : (rest : List ℕ) → Stops else_head (10 ∷ rest)
else_head_stops rest =
    sym_before symbols.CloseCurly (gap ∷ word_of words.Else ∷ gap ∷ sym_of symbols.OpenCurly ∷ []) (10 ∷ rest) calm_32
    (gap_before (word_of words.Else ∷ gap ∷ sym_of symbols.OpenCurly ∷ []) (10 ∷ rest)
    (word_before words.Else (gap ∷ sym_of symbols.OpenCurly ∷ []) (10 ∷ rest) edge_32
    (gap_before (sym_of symbols.OpenCurly ∷ []) (10 ∷ rest) (sym_before symbols.OpenCurly [] (10 ∷ rest) calm_10 tt))))

else_stops : (depth : ℕ) (ss : List Stmt) (ps : List Piece) (rest : List ℕ) → Stops ps rest → Stops (else_pieces depth ss ps) rest
else_stops depth [] ps rest h = tt
else_stops depth (s ∷ ss) ps rest h = Stops-append (line_pieces depth else_head) ps rest (line_stops depth else_head (bytes_of ps ++ rest) (else_head_stops (bytes_of ps ++ rest))) h

mutual
  pub stmt_stops : {depth : ℕ} {s : Stmt} (h : HeldStmt depth s) (rest : List ℕ) → Stops (stmt_pieces h) rest
  stmt_stops (held.set {depth = depth} {n = n} name e) rest = line_stops depth (assignment_pieces n symbols.Assign (held_pieces e)) rest (assignment_stops n symbols.Assign e rest (refl, name))
  stmt_stops (held.give {depth = depth} {n = n} name e) rest = line_stops depth (assignment_pieces n symbols.Add (held_pieces e)) rest (assignment_stops n symbols.Add e rest (refl, name))
  stmt_stops (held.conditional {depth = depth} {others = others} c d body other) rest =
      let last : List Piece = line_pieces depth close_pieces in
      let middle : List Piece = else_pieces depth others (block_pieces other) ++ last in
      let inner : List Piece = block_pieces body ++ middle in
      Stops-append (line_pieces depth (head_pieces (held_pieces c))) inner rest (line_stops depth (head_pieces (held_pieces c)) (bytes_of inner ++ rest) (head_stops c (bytes_of inner ++ rest)))
      (Stops-append (block_pieces body) middle rest (block_stops body (bytes_of middle ++ rest))
      (Stops-append (else_pieces depth others (block_pieces other)) last rest (else_stops depth others (block_pieces other) (bytes_of last ++ rest) (block_stops other (bytes_of last ++ rest)))
      (line_stops depth close_pieces rest (sym_before symbols.CloseCurly [] (10 ∷ rest) calm_10 tt))))

  pub block_stops : {depth : ℕ} {ss : List Stmt} (h : HeldBlock depth ss) (rest : List ℕ) → Stops (block_pieces h) rest
  block_stops held.done rest = tt
  block_stops (held.more s ss) rest = Stops-append (stmt_pieces s) (block_pieces ss) rest (stmt_stops s (bytes_of (block_pieces ss) ++ rest)) (block_stops ss rest)

assignment_bytes : {depth : ℕ} {e : Expr} (n : List ℕ) (s : Symbol) (sign : List ℕ) (h : Held depth 1 e) → sign ≡ 32 ∷ ((sym_of s).bytes ++ 32 ∷ []) → n ++ sign ++ expr_text e ++ codes ";" ≡ bytes_of (assignment_pieces n s (held_pieces h))
assignment_bytes {e = e} n s sign h is =
    ap (λ x. n ++ x ++ expr_text e ++ codes ";") is
    ∙ append_assoc (n ++ (32 ∷ ((sym_of s).bytes ++ 32 ∷ []))) (expr_text e) (codes ";")
    ∙ ap (λ x. n ++ (32 ∷ ((sym_of s).bytes ++ 32 ∷ [])) ++ x) (behind (held_pieces h) (sym_of symbols.Semicolon ∷ []) (expr_text e) (held_text h))
    ∙ append_assoc n (32 ∷ ((sym_of s).bytes ++ 32 ∷ [])) (bytes_of (held_pieces h ++ (sym_of symbols.Semicolon ∷ [])))
    ∙ ap (λ x. n ++ (32 ∷ x)) (append_assoc (sym_of s).bytes (32 ∷ []) (bytes_of (held_pieces h ++ (sym_of symbols.Semicolon ∷ []))))

head_bytes : {depth : ℕ} {e : Expr} (h : Held depth 1 e) → codes "if " ++ expr_text e ++ codes " {" ≡ bytes_of (head_pieces (held_pieces h))
head_bytes {e = e} h = append_assoc (codes "if ") (expr_text e) (codes " {") ∙ ap (λ x. codes "if " ++ x) (behind (held_pieces h) (gap ∷ sym_of symbols.OpenCurly ∷ []) (expr_text e) (held_text h))

else_bytes : (depth : ℕ) (others : List Stmt) (ps : List Piece) → flat_map (λ stmt. stmt_text stmt (depth + 1)) others ≡ bytes_of ps → else_lines (map stmt_text others) depth ≡ bytes_of (else_pieces depth others ps)
else_bytes depth [] ps e = refl
else_bytes depth (s ∷ ss) ps e =
    else_shown (s ∷ ss) depth (omega arith)
    ∙ ap (λ x. line depth (codes "} else {") ++ x) e
    ∙ behind (line_pieces depth else_head) ps (line depth (codes "} else {")) (line_bytes depth else_head (codes "} else {") refl)

mutual
  pub stmt_bytes : {depth : ℕ} {s : Stmt} (h : HeldStmt depth s) → stmt_text s depth ≡ bytes_of (stmt_pieces h)
  stmt_bytes (held.set {depth = depth} {n = n} {e = e} name h) =
      ap (λ f. f depth) (set_layer act_lines stmt_lines n e) ∙ line_bytes depth (assignment_pieces n symbols.Assign (held_pieces h)) (n ++ codes " = " ++ expr_text e ++ codes ";") (assignment_bytes n symbols.Assign (codes " = ") h refl)
  stmt_bytes (held.give {depth = depth} {n = n} {e = e} name h) =
      ap (λ f. f depth) (give_layer act_lines stmt_lines n e) ∙ line_bytes depth (assignment_pieces n symbols.Add (held_pieces h)) (n ++ codes " += " ++ expr_text e ++ codes ";") (assignment_bytes n symbols.Add (codes " += ") h refl)
  stmt_bytes (held.conditional {depth = depth} {c = c} {body = ss} {others = others} h d body other) =
      let last : List Piece = line_pieces depth close_pieces in
      let rest : List Piece = else_pieces depth others (block_pieces other) in
      let first : List ℕ = line depth (codes "if " ++ expr_text c ++ codes " {") in
      let e1 : flat_map (λ stmt. stmt_text stmt (depth + 1)) ss ≡ bytes_of (block_pieces body) = block_bytes body in
      let e2 : else_lines (map stmt_text others) depth ≡ bytes_of rest = else_bytes depth others (block_pieces other) (block_bytes other) in
      let e3 : line depth (codes "}") ≡ bytes_of last = line_bytes depth close_pieces (codes "}") refl in
      let e0 : first ≡ bytes_of (line_pieces depth (head_pieces (held_pieces h))) = line_bytes depth (head_pieces (held_pieces h)) (codes "if " ++ expr_text c ++ codes " {") (head_bytes h) in
      ap (λ f. f depth) (if_layer act_lines stmt_lines c ss others)
      ∙ ap (λ x. first ++ x ++ else_lines (map stmt_text others) depth ++ line depth (codes "}")) (block_by_statements ss (depth + 1) ∙ e1)
      ∙ ap (λ x. first ++ bytes_of (block_pieces body) ++ x ++ line depth (codes "}")) e2
      ∙ ap (λ x. first ++ bytes_of (block_pieces body) ++ bytes_of rest ++ x) e3
      ∙ append_assoc (first ++ bytes_of (block_pieces body)) (bytes_of rest) (bytes_of last)
      ∙ append_assoc first (bytes_of (block_pieces body)) (bytes_of rest ++ bytes_of last)
      ∙ ap (λ x. first ++ (bytes_of (block_pieces body) ++ x)) (sym (bytes_of-append rest last))
      ∙ ap (λ x. first ++ x) (sym (bytes_of-append (block_pieces body) (rest ++ last)))
      ∙ behind (line_pieces depth (head_pieces (held_pieces h))) (block_pieces body ++ (rest ++ last)) first e0

  pub block_bytes : {depth : ℕ} {ss : List Stmt} (h : HeldBlock depth ss) → flat_map (λ stmt. stmt_text stmt depth) ss ≡ bytes_of (block_pieces h)
  block_bytes held.done = refl
  block_bytes (held.more {depth = depth} {s = s} {ss = ss} h hs) = ap (λ x. stmt_text s depth ++ x) (block_bytes hs) ∙ behind (stmt_pieces h) (block_pieces hs) (stmt_text s depth) (stmt_bytes h)
