-- The canonical text of a kernel reads as the kernel again.
use Rattle.std.proofs.Common.{◌≡◌, ℕ, suc, ◌+◌, ◌≤◌, refl, sym, ap, ◌∙◌, subst, List, [], ◌∷◌, ◌++◌, length, map, take, fold, length-append, append-nil, arith}
use Rattle.std.specs.List.{AllByRecursion, flat_map}
use Rattle.kern_token.specs.declared.token.Token.{Token}
use Rattle.kern_token.specs.Pieces.{Piece, IsPiece, Begins}
use Rattle.kern_token.specs.Reading.{Spells, Splits, StandsIn, token_of, tokens_of, place_after}
use Rattle.kern_token.specs.Stopping.{StopsBefore}
use Rattle.kern_tree.specs.declared.kernel.Decl.{Decl}
use Rattle.kern_tree.specs.declared.kernel.Kernel.{Kernel}
use Rattle.kern_tree.specs.declared.stmt.Stmt.{Stmt}
use Rattle.kern_tree.specs.FirstFault.{brackets_after}
use Rattle.kern_tree.specs.Grammar.{stmt, stmt_within}
use Rattle.kern_tree.specs.Nodes.{kernel_nodes, stmt_nodes}
use Rattle.kern_tree.specs.Rules.{many}
use Rattle.kern_tree.specs.Unrolled.{TreesByForm}
use Rattle.kern_print.specs.Canonical.{canonical_text, decl_text}
use Rattle.kern_print.specs.ReadingBack.{ReadsAs, CanonicalReadsBack}
use Rattle.kern_print.specs.Places.{decl_without_places, stmt_without_places}
use Rattle.kern_print.proofs.Decls.{decls_pieces, decls_stop, decls_bytes, decls_read}
use Rattle.kern_print.proofs.HeldStmts.{HeldBlock, HeldDecls}
use Rattle.kern_print.proofs.Lines.{block_pieces, block_stops, block_bytes}
use Rattle.kern_print.proofs.Reread.{onto, onto-append}
use Rattle.kern_print.proofs.RereadStmts.{block_again}
use Rattle.kern_print.proofs.Shallow.{shallow_tokens, decls_shallow, block_shallow}
use Rattle.kern_print.proofs.Stops.{bytes_of, Stops, Stops-append, Splits-stopped}
use Rattle.kern_print.proofs.Texts.{behind}
use Rattle.kern_print.proofs.Walk.{Fit}
use Rattle.kern_print.proofs.WalkStmts.{kernel_held}

-- the tokens of a text are whole, and what is shallow is fit
fit_of : (text : List ℕ) (tokens : List Token) (depth : ℕ) → AllByRecursion (StandsIn text) tokens → ((n : ℕ) → fold (λ (d : ℕ) (t : Token). brackets_after d t.kind) depth (take n tokens) ≤ 32) → Fit depth tokens
fit_of text [] depth stand shallow = tt
fit_of text (t ∷ tokens) depth stand shallow =
    (record { bytes = _; spelled = stand.0.spelled; in_limit = stand.0.in_limit }, shallow 1, fit_of text tokens (brackets_after depth t.kind) stand.1 (λ n. shallow (suc n)))

alone : (place : ℕ) (ps : List Piece) → onto place ps [] ≡ tokens_of place ps
alone place [] = refl
alone place (p ∷ ps) = ap (λ x. token_of place (place + length p.bytes) p.kind ++ x) (alone (place + length p.bytes) ps)

some_within : (n : ℕ) (ss : List Stmt) (tokens rest : List Token) → many (stmt_within n) tokens ss rest → many stmt tokens ss rest
some_within n [] tokens rest h = h
some_within n (s ∷ ss) tokens rest (between, read, others) = (between, (n, read), some_within n ss between rest others)

module _ (tree : TreesByForm) (stopped : (piece : Piece) (rest : List ℕ) → IsPiece piece → StopsBefore piece rest → Begins (piece.bytes ++ rest) piece rest) where
  held_reads_back : (k : Kernel) → HeldDecls k.decls → HeldBlock 0 k.body → length (kernel_nodes k) ≤ 512 → ReadsAs k (canonical_text k)
  held_reads_back k ds body few =
      let dp : List Piece = decls_pieces ds in
      let bp : List Piece = block_pieces body in
      let q : ℕ = place_after 0 dp in
      let text_is : canonical_text k ≡ bytes_of (dp ++ bp) =
      ap (λ x. flat_map decl_text k.decls ++ x) (block_bytes body) ∙ behind dp bp (flat_map decl_text k.decls) (decls_bytes ds) in
      let stops : Stops (dp ++ bp) [] = Stops-append dp bp [] (decls_stop ds (bytes_of bp ++ [])) (block_stops body []) in
      let d = decls_read ds 0 (onto q bp []) in
      let b = block_again tree body 32 (omega arith) q [] in
      let again : Kernel = record { decls = d.read; body = b.read } in
      let tokens : List Token = onto 0 dp (onto q bp []) in
      let same_tokens : tokens ≡ tokens_of 0 (dp ++ bp) = sym (onto-append 0 dp bp []) ∙ alone 0 (dp ++ bp) in
      let counted : length (kernel_nodes again) ≡ length (kernel_nodes k) =
      length-append (flat_map (λ (x : Decl). x.place ∷ []) d.read) (flat_map stmt_nodes b.read)
      ∙ ap (λ n. n + length (flat_map stmt_nodes b.read)) (sym d.count) ∙ ap (λ n. length (flat_map (λ (x : Decl). x.place ∷ []) k.decls) + n) (sym b.alike.nodes)
      ∙ sym (length-append (flat_map (λ (x : Decl). x.place ∷ []) k.decls) (flat_map stmt_nodes k.body)) in
      record {
        tokens = tokens;
        again = again;
        spelled = record {
          pieces = dp ++ bp;
          whole = subst (λ (text : List ℕ). Splits text (dp ++ bp) []) (append-nil (bytes_of (dp ++ bp)) ∙ sym text_is) (Splits-stopped stopped (dp ++ bp) [] stops);
          tokens_are = same_tokens;
        };
        parsed = record {
          spelled = (d.read, onto q bp [], d.reads, (b.read, [], some_within 32 b.read (onto q bp []) [] b.reads, (refl, refl)));
          shallow = shallow_tokens tokens (decls_shallow ds 0 (onto q bp []) (block_shallow body q [] (omega arith) tt));
          few = omega (arith, counted, few);
        };
        same = ap (λ (x : List Decl). record { decls = x; body = map stmt_without_places b.read }) (sym d.same) ∙ ap (λ (x : List Stmt). record { decls = map decl_without_places k.decls; body = x }) (sym b.alike.same);
      }

  pub reads_back : ((text : List ℕ) (tokens : List Token) → Spells text tokens → AllByRecursion (StandsIn text) tokens) → CanonicalReadsBack
  reads_back stand text tokens k spells parses =
      let h = kernel_held tokens k parses.spelled (fit_of text tokens 0 (stand text tokens spells) parses.shallow) in
      held_reads_back k h.0 h.1 parses.few
