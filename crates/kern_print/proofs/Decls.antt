-- The pieces of held declarations: they stop, their bytes are the canonical text, and they read again.
use Rattle.std.proofs.Common.{◌≡◌, ℕ, suc, ◌+◌, ◌≤◌, ℤ, refl, sym, ap, ◌∙◌, subst, List, [], ◌∷◌, ◌++◌, inl, inr, length, map, codes, append_assoc, append-nil}
use Rattle.std.specs.Fmt.{decimal, signed_decimal}
use Rattle.std.specs.List.{flat_map}
use Rattle.kern_token.specs.declared.token.Symbol.TheVariants as symbols
use Rattle.kern_token.specs.declared.token.Token.{Token}
use Rattle.kern_token.specs.declared.token.TokenKind.TheVariants as kinds
use Rattle.kern_token.specs.declared.token.Word.{Word}
use Rattle.kern_token.specs.declared.token.Word.TheVariants as words
use Rattle.kern_token.specs.Pieces.{Piece, IsName}
use Rattle.kern_token.specs.Reading.{place_after}
use Rattle.kern_token.specs.Spelling.{word_text}
use Rattle.kern_tree.specs.declared.kernel.Combine.{Combine}
use Rattle.kern_tree.specs.declared.kernel.Combine.TheVariants as combines
use Rattle.kern_tree.specs.declared.kernel.Decl.{Decl}
use Rattle.kern_tree.specs.declared.kernel.DeclKind.{DeclKind}
use Rattle.kern_tree.specs.declared.kernel.DeclKind.TheVariants as declared_as
use Rattle.kern_tree.specs.declared.kernel.Kind.{Kind}
use Rattle.kern_tree.specs.declared.kernel.Kind.TheVariants as kinds_of
use Rattle.kern_tree.specs.Grammar.{kind, combine, field_of, signed, decl, decl_node}
use Rattle.kern_tree.specs.Rules.{many}
use Rattle.kern_print.specs.Canonical.{kind_text, combine_text, typed_name, decl_text}
use Rattle.kern_print.specs.Places.{decl_without_places}
use Rattle.kern_print.proofs.HeldStmts as held
use Rattle.kern_print.proofs.HeldStmts.{HeldDecl, HeldDecls, Small}
use Rattle.kern_print.proofs.Lines.{line_end, end_stops, calm_10, calm_32}
use Rattle.kern_print.proofs.Reread.{onto, onto-append}
use Rattle.kern_print.proofs.Spelled.{gap_before, sym_before, word_before, name_before, number_before, scale_before, edge_32, edge_59, starts_calm, number_starts}
use Rattle.kern_print.proofs.Stops.{sym_of, word_of, name_of, number_of, scale_of, gap, bytes_of, Edge, Stops, Stops-append}
use Rattle.kern_print.proofs.Texts.{behind}

abbrev kind_word : Kind → Word
kind_word kinds_of.Num = words.Num
kind_word kinds_of.Vec3 = words.Vec

abbrev combine_word : Combine → Word
combine_word combines.Sum = words.Sum
combine_word combines.Max = words.Max
combine_word combines.Min = words.Min

kind_same : (k : Kind) → kind_text k ≡ word_text (kind_word k)
kind_same kinds_of.Num = refl
kind_same kinds_of.Vec3 = refl

combine_same : (c : Combine) → combine_text c ≡ word_text (combine_word c)
combine_same combines.Sum = refl
combine_same combines.Max = refl
combine_same combines.Min = refl

-- ---- pieces

abbrev pub last_pieces : List Piece
last_pieces = sym_of symbols.Semicolon ∷ line_end

-- the kind, the scale and the name, before other pieces
abbrev typed_pieces : Kind → ℕ → List ℕ → List Piece → List Piece
typed_pieces k bits n ps = word_of (kind_word k) ∷ gap ∷ scale_of bits ∷ gap ∷ name_of n ∷ gap ∷ ps

abbrev field_pieces : Word → Kind → ℕ → List ℕ → List ℕ → List Piece
field_pieces w k bits n field = word_of w ∷ gap ∷ typed_pieces k bits n (sym_of symbols.Colon ∷ gap ∷ name_of field ∷ last_pieces)

abbrev pub small_pieces : {value : ℤ} → Small value → List Piece
small_pieces (held.plain {n = n} small) = number_of n ∷ []
small_pieces (held.negative {n = n} small) = sym_of symbols.Minus ∷ number_of (suc n) ∷ []

abbrev pub decl_pieces : {d : Decl} → HeldDecl d → List Piece
decl_pieces (held.epi {bits = bits} {called = n} {field = field} {kind = k} limit name named) = field_pieces words.Epi k bits n field
decl_pieces (held.epj {bits = bits} {called = n} {field = field} {kind = k} limit name named) = field_pieces words.Epj k bits n field
decl_pieces (held.force {bits = bits} {called = n} {kind = k} {combine = c} limit name) = word_of words.Force ∷ gap ∷ typed_pieces k bits n (word_of (combine_word c) ∷ last_pieces)
decl_pieces (held.param {bits = bits} {called = n} limit name value) = word_of words.Param ∷ gap ∷ scale_of bits ∷ gap ∷ name_of n ∷ gap ∷ sym_of symbols.Assign ∷ gap ∷ (small_pieces value ++ last_pieces)

abbrev pub decls_pieces : {ds : List Decl} → HeldDecls ds → List Piece
decls_pieces held.done_decls = []
decls_pieces (held.more_decls d ds) = decl_pieces d ++ decls_pieces ds

-- ---- where they stop

last_stops : (rest : List ℕ) → Stops last_pieces rest
last_stops rest = sym_before symbols.Semicolon line_end rest calm_10 (end_stops rest)

typed_stops : (k : Kind) (bits : ℕ) (n : List ℕ) (ps : List Piece) (rest : List ℕ) → bits ≤ 62 → IsName n → Stops ps rest → Stops (typed_pieces k bits n ps) rest
typed_stops k bits n ps rest limit name h =
    word_before (kind_word k) (gap ∷ scale_of bits ∷ gap ∷ name_of n ∷ gap ∷ ps) rest edge_32
    (gap_before (scale_of bits ∷ gap ∷ name_of n ∷ gap ∷ ps) rest (scale_before bits (gap ∷ name_of n ∷ gap ∷ ps) rest limit edge_32
    (gap_before (name_of n ∷ gap ∷ ps) rest (name_before n (gap ∷ ps) rest name edge_32 (gap_before ps rest h)))))

field_stops : (w : Word) (k : Kind) (bits : ℕ) (n field : List ℕ) (rest : List ℕ) → bits ≤ 62 → IsName n → IsName field → Stops (field_pieces w k bits n field) rest
field_stops w k bits n field rest limit name named =
    let tail : List Piece = sym_of symbols.Colon ∷ gap ∷ name_of field ∷ last_pieces in
    word_before w (gap ∷ typed_pieces k bits n tail) rest edge_32 (gap_before (typed_pieces k bits n tail) rest (typed_stops k bits n tail rest limit name
    (sym_before symbols.Colon (gap ∷ name_of field ∷ last_pieces) rest calm_32 (gap_before (name_of field ∷ last_pieces) rest (name_before field last_pieces rest named edge_59 (last_stops rest))))))

small_stops : {value : ℤ} (h : Small value) (rest : List ℕ) → Edge rest → Stops (small_pieces h) rest
small_stops (held.plain {n = n} small) rest edge = number_before n [] rest small edge tt
small_stops (held.negative {n = n} small) rest edge =
    sym_before symbols.Minus (number_of (suc n) ∷ []) rest
    (let e : decimal (suc n) ++ rest ≡ (decimal (suc n) ++ []) ++ rest = ap (λ x. x ++ rest) (sym (append-nil (decimal (suc n)))) in
    rw (append-nil (decimal (suc n))) (starts_calm (decimal (suc n)) rest (number_starts (suc n) small)))
    (number_before (suc n) [] rest small edge tt)

decl_stops : {d : Decl} (h : HeldDecl d) (rest : List ℕ) → Stops (decl_pieces h) rest
decl_stops (held.epi {bits = bits} {called = n} {field = field} {kind = k} limit name named) rest = field_stops words.Epi k bits n field rest limit name named
decl_stops (held.epj {bits = bits} {called = n} {field = field} {kind = k} limit name named) rest = field_stops words.Epj k bits n field rest limit name named
decl_stops (held.force {bits = bits} {called = n} {kind = k} {combine = c} limit name) rest =
    let tail : List Piece = word_of (combine_word c) ∷ last_pieces in
    word_before words.Force (gap ∷ typed_pieces k bits n tail) rest edge_32 (gap_before (typed_pieces k bits n tail) rest (typed_stops k bits n tail rest limit name
    (word_before (combine_word c) last_pieces rest edge_59 (last_stops rest))))
decl_stops (held.param {bits = bits} {called = n} limit name value) rest =
    let p0 : List Piece = small_pieces value ++ last_pieces in
    let p1 : List Piece = gap ∷ sym_of symbols.Assign ∷ gap ∷ p0 in
    let p2 : List Piece = gap ∷ name_of n ∷ p1 in
    word_before words.Param (gap ∷ scale_of bits ∷ p2) rest edge_32 (gap_before (scale_of bits ∷ p2) rest (scale_before bits p2 rest limit edge_32
    (gap_before (name_of n ∷ p1) rest (name_before n p1 rest name edge_32 (gap_before (sym_of symbols.Assign ∷ gap ∷ p0) rest
    (sym_before symbols.Assign (gap ∷ p0) rest calm_32 (gap_before p0 rest (Stops-append (small_pieces value) last_pieces rest (small_stops value (bytes_of last_pieces ++ rest) edge_59) (last_stops rest)))))))))

pub decls_stop : {ds : List Decl} (h : HeldDecls ds) (rest : List ℕ) → Stops (decls_pieces h) rest
decls_stop held.done_decls rest = tt
decls_stop (held.more_decls d ds) rest = Stops-append (decl_pieces d) (decls_pieces ds) rest (decl_stops d (bytes_of (decls_pieces ds) ++ rest)) (decls_stop ds rest)

-- ---- their bytes

field_bytes : (w : Word) (head : List ℕ) (k : Kind) (bits : ℕ) (n field : List ℕ) → head ≡ word_text w ++ codes " " → (head ++ typed_name k bits n ++ codes " : " ++ field) ++ codes ";\n" ≡ bytes_of (field_pieces w k bits n field)
field_bytes w head k bits n field is = rw (is, kind_same k) (simp append_assoc)

small_bytes : {value : ℤ} (h : Small value) → signed_decimal value ≡ bytes_of (small_pieces h)
small_bytes (held.plain {n = n} small) = sym (append-nil (decimal n))
small_bytes (held.negative {n = n} small) = ap (λ x. 45 ∷ x) (sym (append-nil (decimal (suc n))))

force_regrouped : (k b n c : List ℕ) → (codes "FORCE " ++ (k ++ codes " S" ++ b ++ codes " " ++ n) ++ codes " " ++ c) ++ codes ";\n" ≡ codes "FORCE" ++ (32 ∷ (k ++ (32 ∷ 83 ∷ (b ++ (32 ∷ (n ++ (32 ∷ (c ++ (59 ∷ 10 ∷ [])))))))))
force_regrouped k b n c = simp append_assoc

param_regrouped : (b n tail : List ℕ) → codes "PARAM S" ++ b ++ codes " " ++ n ++ codes " = " ++ tail ≡ codes "PARAM" ++ (32 ∷ 83 ∷ (b ++ (32 ∷ (n ++ (32 ∷ 61 ∷ 32 ∷ tail)))))
param_regrouped b n tail = simp append_assoc

decl_bytes : {d : Decl} (h : HeldDecl d) → decl_text d ≡ bytes_of (decl_pieces h)
decl_bytes (held.epi {bits = bits} {called = n} {field = field} {kind = k} limit name named) = field_bytes words.Epi (codes "EPI ") k bits n field refl
decl_bytes (held.epj {bits = bits} {called = n} {field = field} {kind = k} limit name named) = field_bytes words.Epj (codes "EPJ ") k bits n field refl
decl_bytes (held.force {bits = bits} {called = n} {kind = k} {combine = c} limit name) =
    force_regrouped (kind_text k) (decimal bits) n (combine_text c)
    ∙ ap (λ x. codes "FORCE" ++ (32 ∷ (x ++ (32 ∷ 83 ∷ (decimal bits ++ (32 ∷ (n ++ (32 ∷ (combine_text c ++ (59 ∷ 10 ∷ [])))))))))) (kind_same k)
    ∙ ap (λ x. codes "FORCE" ++ (32 ∷ (word_text (kind_word k) ++ (32 ∷ 83 ∷ (decimal bits ++ (32 ∷ (n ++ (32 ∷ (x ++ (59 ∷ 10 ∷ [])))))))))) (combine_same c)
decl_bytes (held.param {bits = bits} {called = n} {value = v} limit name value) =
    let before : List ℕ = codes "PARAM S" ++ decimal bits ++ codes " " ++ n ++ codes " = " in
    append_assoc before (signed_decimal v) (codes ";\n") ∙ ap (λ x. codes "PARAM S" ++ decimal bits ++ codes " " ++ n ++ codes " = " ++ x) (behind (small_pieces value) last_pieces (signed_decimal v) (small_bytes value))
    ∙ param_regrouped (decimal bits) n (bytes_of (small_pieces value ++ last_pieces))

pub decls_bytes : {ds : List Decl} (h : HeldDecls ds) → flat_map decl_text ds ≡ bytes_of (decls_pieces h)
decls_bytes held.done_decls = refl
decls_bytes (held.more_decls {d = d} {ds = ds} h hs) = ap (λ x. decl_text d ++ x) (decls_bytes hs) ∙ behind (decl_pieces h) (decls_pieces hs) (decl_text d) (decl_bytes h)

-- ---- they read again

kind_reads : (k : Kind) (place end : ℕ) (rest : List Token) → kind (record { kind = kinds.Word (kind_word k); place = place; end = end } ∷ rest) k rest
kind_reads kinds_of.Num place end rest = inl (place, rest, (end, refl), (refl, refl))
kind_reads kinds_of.Vec3 place end rest = inr (place, rest, (end, refl), (refl, refl))

combine_reads : (c : Combine) (place end : ℕ) (rest : List Token) → combine (record { kind = kinds.Word (combine_word c); place = place; end = end } ∷ rest) c rest
combine_reads combines.Sum place end rest = inl (inl (place, rest, (end, refl), (refl, refl)))
combine_reads combines.Max place end rest = inl (inr (place, rest, (end, refl), (refl, refl)))
combine_reads combines.Min place end rest = inr (place, rest, (end, refl), (refl, refl))

field_reads : (w : Word) (what : Kind → ℕ → List ℕ → DeclKind) (k : Kind) (bits : ℕ) (n field : List ℕ) (place : ℕ) (rest : List Token)
    → field_of w what (onto place (field_pieces w k bits n field) rest) (decl_node place n (what k bits field)) rest
field_reads w what k bits n field place rest =
    (place, _, (_, refl), (k, _, kind_reads k _ _ _, (record { place = _; held = bits }, _, (_, refl), (record { place = _; held = n }, _, (_, refl), (_, _, (_, refl), (record { place = _; held = field }, _, (_, refl), (_, rest, (_, refl), (refl, refl))))))))

small_reads : {value : ℤ} (h : Small value) (place : ℕ) (rest : List Token) → signed (onto place (small_pieces h) rest) value rest
small_reads (held.plain {n = n} small) place rest = inl (record { place = place; held = n }, rest, (_, refl), (refl, refl))
small_reads (held.negative {n = n} small) place rest = inr (place, _, (_, refl), (record { place = _; held = suc n }, rest, (_, refl), (refl, refl)))

pub record DeclAgain (tokens : List Token) (d : Decl) (rest : List Token) : Type 0 where
  pub read : Decl
  pub same : decl_without_places d ≡ decl_without_places read
  pub reads : decl tokens read rest

decl_reads : {d : Decl} (h : HeldDecl d) (place : ℕ) (rest : List Token) → DeclAgain (onto place (decl_pieces h) rest) d rest
decl_reads (held.epi {bits = bits} {called = n} {field = field} {kind = k} limit name named) place rest = record {
  read = decl_node place n (declared_as.Epi k bits field);
  same = refl;
  reads = inl (inl (inl (field_reads words.Epi declared_as.Epi k bits n field place rest)));
}
decl_reads (held.epj {bits = bits} {called = n} {field = field} {kind = k} limit name named) place rest = record {
  read = decl_node place n (declared_as.Epj k bits field);
  same = refl;
  reads = inl (inl (inr (field_reads words.Epj declared_as.Epj k bits n field place rest)));
}
decl_reads (held.force {bits = bits} {called = n} {kind = k} {combine = c} limit name) place rest = record {
  read = decl_node place n (declared_as.Force k bits c);
  same = refl;
  reads = inl (inr (place, _, (_, refl), (k, _, kind_reads k _ _ _, (record { place = _; held = bits }, _, (_, refl), (record { place = _; held = n }, _, (_, refl), (c, _, combine_reads c _ _ _, (_, rest, (_, refl), (refl, refl))))))));
}
decl_reads (held.param {bits = bits} {called = n} {value = v} limit name value) place rest =
    let q : ℕ = place + length (word_of words.Param).bytes + length gap.bytes + length (scale_of bits).bytes + length gap.bytes + length (name_of n).bytes + length gap.bytes in
    let r : ℕ = q + 1 + 1 in
    record {
      read = decl_node place n (declared_as.Param bits v);
      same = refl;
      reads = inr (
        place,
        _,
        (_, refl),
        (
          record { place = _; held = bits },
          _,
          (_, refl),
          (
            record { place = _; held = n },
            _,
            (_, refl),
            (
              q,
              _,
              (q + 1, ap (λ (x : List Token). record { kind = kinds.Symbol symbols.Assign; place = q; end = q + 1 } ∷ x) (onto-append r (small_pieces value) last_pieces rest)),
              (v, _, small_reads value r (onto (place_after r (small_pieces value)) last_pieces rest), (_, rest, (_, refl), (refl, refl))),
            ),
          ),
        ),
      );
    }

pub record DeclsAgain (tokens : List Token) (ds : List Decl) (rest : List Token) : Type 0 where
  pub read : List Decl
  pub same : map decl_without_places ds ≡ map decl_without_places read
  pub count : length (flat_map (λ (d : Decl). d.place ∷ []) ds) ≡ length (flat_map (λ (d : Decl). d.place ∷ []) read)
  pub reads : many decl tokens read rest

pub decls_read : {ds : List Decl} (h : HeldDecls ds) (place : ℕ) (rest : List Token) → DeclsAgain (onto place (decls_pieces h) rest) ds rest
decls_read held.done_decls place rest = record { read = []; same = refl; count = refl; reads = refl }
decls_read (held.more_decls {d = d} {ds = ds} h hs) place rest =
    let q : ℕ = place_after place (decl_pieces h) in
    let first = decl_reads h place (onto q (decls_pieces hs) rest) in
    let others = decls_read hs q rest in
    record {
      read = first.read ∷ others.read;
      same = ap (λ x. x ∷ map decl_without_places ds) first.same ∙ ap (λ x. decl_without_places first.read ∷ x) others.same;
      count = ap suc others.count;
      reads = (onto q (decls_pieces hs) rest, subst (λ (ts : List Token). decl ts first.read (onto q (decls_pieces hs) rest)) (sym (onto-append place (decl_pieces h) (decls_pieces hs) rest)) first.reads, others.reads);
    }
