-- Declarations made of what was read.
use Rattle.std.proofs.Common.{◌≡◌, ℕ, List, [], ◌∷◌, ◌++◌, Option, Some, None, ℤ, pos, refl, sym, ap, ◌∙◌, subst, inl, inr, arith}
use Rattle.std.specs.Prelude.{neg_ℤ}
use Rattle.kern_token.specs.declared.fault.KernFault.{KernFault}
use Rattle.kern_token.specs.declared.token.Symbol.TheVariants as symbols
use Rattle.kern_token.specs.declared.token.Token.{Token}
use Rattle.kern_token.specs.declared.token.TokenKind.{TokenKind}
use Rattle.kern_token.specs.declared.token.TokenKind.TheVariants as kinds
use Rattle.kern_token.specs.declared.token.Word.{Word}
use Rattle.kern_token.specs.declared.token.Word.TheVariants as words
use Rattle.kern_tree.specs.declared.kernel.Combine.{Combine}
use Rattle.kern_tree.specs.declared.kernel.Decl.{Decl}
use Rattle.kern_tree.specs.declared.kernel.DeclKind.TheVariants as declared_as
use Rattle.kern_tree.specs.declared.kernel.Kind.{Kind}
use Rattle.kern_tree.specs.Grammar.{kind, combine, signed, decl, decl_node}
use Rattle.kern_tree.specs.Rules.{Rule, many, token}
use Rattle.kern_parse.specs.declared.declaration.Side.{Side}
use Rattle.kern_parse.specs.declared.declaration.Side.TheVariants as sides
use Rattle.kern_parse.specs.declared.declaration.Start.{Start}
use Rattle.kern_parse.specs.declared.declaration.Start.TheVariants as starts
use Rattle.kern_parse.specs.inner.Decls.{ReadsDecl, Declares, start_of, word_of, kind_of, combine_of}
use Rattle.kern_parse.specs.inner.Found.{ReadsRule, ReadsToken}
use Rattle.kern_parse.specs.inner.Leading.{Leads, Halts}
use Rattle.kern_parse.specs.inner.Reading.{Reading, next_kind, Takes, TakesNode, IsFull}
use Rattle.kern_parse.specs.Required.{Part, Refuses, move, plain_move, node_move}
use Rattle.kern_parse.proofs.Expanding.{stands_for, and_then_nothing}
use Rattle.kern_parse.proofs.Expressions.{many_snoc}
use Rattle.kern_parse.proofs.Following.{leads_then, leads_first, shorter_by_token, strictly_shorter, node_token}
use Rattle.kern_parse.proofs.Steps.{passes}
use Rattle.kern_parse.proofs.Taking.{reads_token, takes_plain, takes_node, full_halts, kind_is}

some_is : {A : Type 0} {x y : A} → Some x ≡ Some y → x ≡ y
some_is h = cc

-- ---- kinds and ways to combine

-- the next token is a word that the part is read as
pub record TellsWord {A : Type 0} (part : Part) (rule : Rule A) (next : Option TokenKind) (value : A) : Type 0 where
  pub word : Word
  pub next_is : next ≡ Some (kinds.Word word)
  pub moves : move part (kinds.Word word) ≡ plain_move []
  pub spelled : (tokens : List Token) (place : ℕ) (rest : List Token) → token (kinds.Word word) tokens place rest → rule tokens value rest

kind_tells : (next : Option TokenKind) (k : Kind) → kind_of next ≡ Some k → TellsWord Part.KindWord kind next k
kind_tells (Some (kinds.Word words.Num)) k is = subst (λ v. TellsWord Part.KindWord kind (Some (kinds.Word words.Num)) v) (some_is is)
    (record { word = words.Num; next_is = refl; moves = refl; spelled = λ tokens place rest found. inl (place, rest, found, (refl, refl)) })
kind_tells (Some (kinds.Word words.Vec)) k is = subst (λ v. TellsWord Part.KindWord kind (Some (kinds.Word words.Vec)) v) (some_is is)
    (record { word = words.Vec; next_is = refl; moves = refl; spelled = λ tokens place rest found. inr (place, rest, found, (refl, refl)) })
kind_tells _ k is = cc

pub no_kind : (next : Option TokenKind) → kind_of next ≡ None → Refuses Part.KindWord next
no_kind None none = tt
no_kind (Some (kinds.Word words.Num)) none = cc
no_kind (Some (kinds.Word words.Vec)) none = cc
no_kind (Some _) none = refl

combine_tells : (next : Option TokenKind) (way : Combine) → combine_of next ≡ Some way → TellsWord Part.CombineWord combine next way
combine_tells (Some (kinds.Word words.Sum)) way is = subst (λ v. TellsWord Part.CombineWord combine (Some (kinds.Word words.Sum)) v) (some_is is)
    (record { word = words.Sum; next_is = refl; moves = refl; spelled = λ tokens place rest found. inl (inl (place, rest, found, (refl, refl))) })
combine_tells (Some (kinds.Word words.Max)) way is = subst (λ v. TellsWord Part.CombineWord combine (Some (kinds.Word words.Max)) v) (some_is is)
    (record { word = words.Max; next_is = refl; moves = refl; spelled = λ tokens place rest found. inl (inr (place, rest, found, (refl, refl))) })
combine_tells (Some (kinds.Word words.Min)) way is = subst (λ v. TellsWord Part.CombineWord combine (Some (kinds.Word words.Min)) v) (some_is is)
    (record { word = words.Min; next_is = refl; moves = refl; spelled = λ tokens place rest found. inr (place, rest, found, (refl, refl)) })
combine_tells _ way is = cc

pub no_combine : (next : Option TokenKind) → combine_of next ≡ None → Refuses Part.CombineWord next
no_combine None none = tt
no_combine (Some (kinds.Word words.Sum)) none = cc
no_combine (Some (kinds.Word words.Max)) none = cc
no_combine (Some (kinds.Word words.Min)) none = cc
no_combine (Some _) none = refl

reads_word : {A : Type 0} (part : Part) (rule : Rule A) (value : A) (old : Reading) (place : ℕ) (new : Reading) → TellsWord part rule (next_kind old) value → Takes old place new → ReadsRule rule (part ∷ []) old value new
reads_word part rule value old place new told t =
    let found = reads_token part (kinds.Word told.word) old place new t told.next_is told.moves (λ depth. refl) in
    record {
      spelled = told.spelled old.rest found.place new.rest found.spelled;
      leads = found.leads;
      depth = t.depth;
      shorter = shorter_by_token _ old.rest found.place new.rest found.spelled;
    }

pub kind_read : (k : Kind) (old : Reading) (place : ℕ) (new : Reading) → kind_of (next_kind old) ≡ Some k → Takes old place new → ReadsRule kind (Part.KindWord ∷ []) old k new
kind_read k old place new is t = reads_word Part.KindWord kind k old place new (kind_tells (next_kind old) k is) t

pub combine_read : (way : Combine) (old : Reading) (place : ℕ) (new : Reading) → combine_of (next_kind old) ≡ Some way → Takes old place new → ReadsRule combine (Part.CombineWord ∷ []) old way new
combine_read way old place new is t = reads_word Part.CombineWord combine way old place new (combine_tells (next_kind old) way is) t

-- ---- signed numbers

no_minus : (kind : TokenKind) → (kind ≡ kinds.Symbol symbols.Minus → ⊥) → move Part.Signed kind ≡ move Part.Number kind
no_minus (kinds.Symbol symbols.Minus) other = absurd (other refl)
no_minus (kinds.Number n) other = refl
no_minus _ other = refl

pub signed_is_number : (old : Reading) → (next_kind old ≡ Some (kinds.Symbol symbols.Minus) → ⊥) → Leads (Part.Signed ∷ []) old (Part.Number ∷ []) old
signed_is_number old other = stands_for Part.Signed Part.Number [] old refl refl
    (λ kind next. no_minus kind (λ e. other (next ∙ ap Some e)) ∙ sym (and_then_nothing (move Part.Number kind)))

pub plain_signed : (n : ℕ) (value : ℤ) (old new : Reading) → (next_kind old ≡ Some (kinds.Symbol symbols.Minus) → ⊥) → value ≡ pos n → ReadsToken Part.Number (kinds.Number n) old new
    → ReadsRule signed (Part.Signed ∷ []) old value new
plain_signed n value old new other is read = record {
  spelled = inl (record { place = read.place; held = n }, new.rest, read.spelled, (is, refl));
  leads = leads_then (signed_is_number old other) read.leads;
  depth = read.depth;
  shorter = shorter_by_token _ old.rest read.place new.rest read.spelled;
}

pub minus_leads : (old : Reading) (place : ℕ) (mid : Reading) → next_kind old ≡ Some (kinds.Symbol symbols.Minus) → Takes old place mid → Leads (Part.Signed ∷ []) old (Part.Number ∷ []) mid
minus_leads old place mid next t = takes_plain Part.Signed (Part.Number ∷ []) (kinds.Symbol symbols.Minus) old place mid t next refl refl

pub minus_signed : (n : ℕ) (value : ℤ) (place : ℕ) (old mid new : Reading) → next_kind old ≡ Some (kinds.Symbol symbols.Minus) → Takes old place mid → value ≡ neg_ℤ (pos n)
    → ReadsToken Part.Number (kinds.Number n) mid new → ReadsRule signed (Part.Signed ∷ []) old value new
minus_signed n value place old mid new next t is read =
    let first = kind_is old.rest mid.rest t.token (kinds.Symbol symbols.Minus) t.rest next in
    record {
      spelled = inr (
        t.token.place,
        mid.rest,
        (t.token.end, t.rest ∙ ap (λ k. record { kind = k; place = t.token.place; end = t.token.end } ∷ mid.rest) first),
        (record { place = read.place; held = n }, new.rest, read.spelled, (is, refl)),
      );
      leads = leads_then (minus_leads old place mid next t) read.leads;
      depth = read.depth ∙ t.depth;
      shorter = omega (arith, strictly_shorter old.rest t.token mid.rest new.rest t.rest (shorter_by_token _ mid.rest read.place new.rest read.spelled));
    }

-- ---- what the first word requires

abbrev pub thens : Start → List Part
thens (starts.Field side) = Part.KindWord ∷ Part.Scale ∷ Part.Name ∷ Part.Exactly symbols.Colon ∷ Part.Name ∷ Part.Exactly symbols.Semicolon ∷ Part.Decls ∷ []
thens starts.Force = Part.KindWord ∷ Part.Scale ∷ Part.Name ∷ Part.CombineWord ∷ Part.Exactly symbols.Semicolon ∷ Part.Decls ∷ []
thens starts.Constant = Part.Scale ∷ Part.Name ∷ Part.Exactly symbols.Assign ∷ Part.Signed ∷ Part.Exactly symbols.Semicolon ∷ Part.Decls ∷ []

decl_moves : (start : Start) → move Part.Decls (kinds.Word (word_of start)) ≡ node_move (thens start)
decl_moves (starts.Field sides.Epi) = refl
decl_moves (starts.Field sides.Epj) = refl
decl_moves starts.Force = refl
decl_moves starts.Constant = refl

pub decl_leads : (start : Start) (old : Reading) (place : ℕ) (new : Reading) → next_kind old ≡ Some (kinds.Word (word_of start)) → TakesNode old place new → Leads (Part.Decls ∷ []) old (thens start) new
decl_leads start old place new next t = takes_node Part.Decls (thens start) (kinds.Word (word_of start)) old place new t next (decl_moves start) refl

pub decl_full : (start : Start) (old : Reading) (fault : KernFault) → next_kind old ≡ Some (kinds.Word (word_of start)) → IsFull old fault → Halts (Part.Decls ∷ []) old fault
decl_full start old fault next full = full_halts Part.Decls (thens start) (kinds.Word (word_of start)) old fault full next (decl_moves start) refl

pub start_tells : (next : Option TokenKind) (start : Start) → start_of next ≡ Some start → next ≡ Some (kinds.Word (word_of start))
start_tells (Some (kinds.Word words.Epi)) start is = ap (λ s. Some (kinds.Word (word_of s))) (some_is is)
start_tells (Some (kinds.Word words.Epj)) start is = ap (λ s. Some (kinds.Word (word_of s))) (some_is is)
start_tells (Some (kinds.Word words.Force)) start is = ap (λ s. Some (kinds.Word (word_of s))) (some_is is)
start_tells (Some (kinds.Word words.Param)) start is = ap (λ s. Some (kinds.Word (word_of s))) (some_is is)
start_tells _ start is = cc

no_start : (next : Option TokenKind) → start_of next ≡ None → Refuses Part.Decls next
no_start None none = tt
no_start (Some (kinds.Word words.Epi)) none = cc
no_start (Some (kinds.Word words.Epj)) none = cc
no_start (Some (kinds.Word words.Force)) none = cc
no_start (Some (kinds.Word words.Param)) none = cc
no_start (Some _) none = refl

-- ---- whole declarations

abbrev pub field_decl : Side → ℕ → List ℕ → Kind → ℕ → List ℕ → Decl
field_decl sides.Epi place called k bits field = decl_node place called (declared_as.Epi k bits field)
field_decl sides.Epj place called k bits field = decl_node place called (declared_as.Epj k bits field)

abbrev some_token : TokenKind → List Token → List Token → Type 0
some_token of tokens rest = (place : ℕ) × token of tokens place rest

field_spelled : (side : Side) (k : Kind) (bits : ℕ) (called field : List ℕ) (place : ℕ) (t0 t1 t2 t3 t4 t5 t6 t7 : List Token) (read : Decl) → token (kinds.Word (word_of (starts.Field side))) t0 place t1 → kind t1 k t2
    → some_token (kinds.Scale bits) t2 t3 → some_token (kinds.Name called) t3 t4 → some_token (kinds.Symbol symbols.Colon) t4 t5 → some_token (kinds.Name field) t5 t6 → some_token (kinds.Symbol symbols.Semicolon) t6 t7
    → read ≡ field_decl side place called k bits field → decl t0 read t7
field_spelled sides.Epi k bits called field place t0 t1 t2 t3 t4 t5 t6 t7 read first of_kind scaled named colon told semicolon is =
    inl (inl (inl (place, t1, first, (k, t2, of_kind, (record { place = scaled.0; held = bits }, t3, scaled.1, (record { place = named.0; held = called }, t4, named.1, (colon.0, t5, colon.1, (record { place = told.0; held = field }, t6, told.1, (semicolon.0, t7, semicolon.1, (is, refl))))))))))
field_spelled sides.Epj k bits called field place t0 t1 t2 t3 t4 t5 t6 t7 read first of_kind scaled named colon told semicolon is =
    inl (inl (inr (place, t1, first, (k, t2, of_kind, (record { place = scaled.0; held = bits }, t3, scaled.1, (record { place = named.0; held = called }, t4, named.1, (colon.0, t5, colon.1, (record { place = told.0; held = field }, t6, told.1, (semicolon.0, t7, semicolon.1, (is, refl))))))))))

pub field_read : (side : Side) (k : Kind) (bits : ℕ) (called field : List ℕ) (place : ℕ) (old r0 r1 r2 r3 r4 r5 new : Reading) → next_kind old ≡ Some (kinds.Word (word_of (starts.Field side))) → TakesNode old place r0
    → ReadsRule kind (Part.KindWord ∷ []) r0 k r1 → ReadsToken Part.Scale (kinds.Scale bits) r1 r2 → ReadsToken Part.Name (kinds.Name called) r2 r3
    → ReadsToken (Part.Exactly symbols.Colon) (kinds.Symbol symbols.Colon) r3 r4 → ReadsToken Part.Name (kinds.Name field) r4 r5
    → ReadsToken (Part.Exactly symbols.Semicolon) (kinds.Symbol symbols.Semicolon) r5 new → (read : Decl) → read ≡ field_decl side place called k bits field → ReadsDecl old read new
field_read side k bits called field place old r0 r1 r2 r3 r4 r5 new next t of_kind scaled named colon told semicolon read is =
    let first = node_token (kinds.Word (word_of (starts.Field side))) old place r0 t next in
    record {
      spelled = field_spelled side k bits called field place old.rest r0.rest r1.rest r2.rest r3.rest r4.rest r5.rest new.rest read first of_kind.spelled (scaled.place, scaled.spelled) (named.place, named.spelled) (colon.place, colon.spelled) (told.place, told.spelled) (semicolon.place, semicolon.spelled) is;
      leads = leads_then (decl_leads (starts.Field side) old place r0 next t) (leads_then (leads_first _ _ of_kind.leads) (leads_then (leads_first _ _ scaled.leads) (leads_then (leads_first _ _ named.leads)
          (leads_then (leads_first _ _ colon.leads) (leads_then (leads_first _ _ told.leads) (leads_first _ _ semicolon.leads))))));
      depth = semicolon.depth ∙ told.depth ∙ colon.depth ∙ named.depth ∙ scaled.depth ∙ of_kind.depth ∙ t.depth;
      shorter = strictly_shorter old.rest t.token r0.rest new.rest t.rest (omega (
        arith,
        of_kind.shorter,
        shorter_by_token _ r1.rest scaled.place r2.rest scaled.spelled,
        shorter_by_token _ r2.rest named.place r3.rest named.spelled,
        shorter_by_token _ r3.rest colon.place r4.rest colon.spelled,
        shorter_by_token _ r4.rest told.place r5.rest told.spelled,
        shorter_by_token _ r5.rest semicolon.place new.rest semicolon.spelled,
      ));
    }

pub force_read : (k : Kind) (bits : ℕ) (called : List ℕ) (way : Combine) (place : ℕ) (old r0 r1 r2 r3 r4 new : Reading) → next_kind old ≡ Some (kinds.Word words.Force) → TakesNode old place r0
    → ReadsRule kind (Part.KindWord ∷ []) r0 k r1 → ReadsToken Part.Scale (kinds.Scale bits) r1 r2 → ReadsToken Part.Name (kinds.Name called) r2 r3
    → ReadsRule combine (Part.CombineWord ∷ []) r3 way r4 → ReadsToken (Part.Exactly symbols.Semicolon) (kinds.Symbol symbols.Semicolon) r4 new
    → ReadsDecl old (decl_node place called (declared_as.Force k bits way)) new
force_read k bits called way place old r0 r1 r2 r3 r4 new next t of_kind scaled named combined semicolon =
    let first = node_token (kinds.Word words.Force) old place r0 t next in
    record {
      spelled = inl (inr (
        place,
        r0.rest,
        first,
        (
          k,
          r1.rest,
          of_kind.spelled,
          (
            record { place = scaled.place; held = bits },
            r2.rest,
            scaled.spelled,
            (
              record { place = named.place; held = called },
              r3.rest,
              named.spelled,
              (way, r4.rest, combined.spelled, (semicolon.place, new.rest, semicolon.spelled, (refl, refl))),
            ),
          ),
        ),
      ));
      leads = leads_then (decl_leads starts.Force old place r0 next t) (leads_then (leads_first _ _ of_kind.leads) (leads_then (leads_first _ _ scaled.leads) (leads_then (leads_first _ _ named.leads)
          (leads_then (leads_first _ _ combined.leads) (leads_first _ _ semicolon.leads)))));
      depth = semicolon.depth ∙ combined.depth ∙ named.depth ∙ scaled.depth ∙ of_kind.depth ∙ t.depth;
      shorter = strictly_shorter old.rest t.token r0.rest new.rest t.rest (omega (
        arith,
        of_kind.shorter,
        shorter_by_token _ r1.rest scaled.place r2.rest scaled.spelled,
        shorter_by_token _ r2.rest named.place r3.rest named.spelled,
        combined.shorter,
        shorter_by_token _ r4.rest semicolon.place new.rest semicolon.spelled,
      ));
    }

pub constant_read : (bits : ℕ) (called : List ℕ) (value : ℤ) (place : ℕ) (old r0 r1 r2 r3 r4 new : Reading) → next_kind old ≡ Some (kinds.Word words.Param) → TakesNode old place r0
    → ReadsToken Part.Scale (kinds.Scale bits) r0 r1 → ReadsToken Part.Name (kinds.Name called) r1 r2
    → ReadsToken (Part.Exactly symbols.Assign) (kinds.Symbol symbols.Assign) r2 r3 → ReadsRule signed (Part.Signed ∷ []) r3 value r4
    → ReadsToken (Part.Exactly symbols.Semicolon) (kinds.Symbol symbols.Semicolon) r4 new → ReadsDecl old (decl_node place called (declared_as.Param bits value)) new
constant_read bits called value place old r0 r1 r2 r3 r4 new next t scaled named equals valued semicolon =
    let first = node_token (kinds.Word words.Param) old place r0 t next in
    record {
      spelled = inr (
        place,
        r0.rest,
        first,
        (
          record { place = scaled.place; held = bits },
          r1.rest,
          scaled.spelled,
          (
            record { place = named.place; held = called },
            r2.rest,
            named.spelled,
            (equals.place, r3.rest, equals.spelled, (value, r4.rest, valued.spelled, (semicolon.place, new.rest, semicolon.spelled, (refl, refl)))),
          ),
        ),
      );
      leads = leads_then (decl_leads starts.Constant old place r0 next t) (leads_then (leads_first _ _ scaled.leads) (leads_then (leads_first _ _ named.leads)
          (leads_then (leads_first _ _ equals.leads) (leads_then (leads_first _ _ valued.leads) (leads_first _ _ semicolon.leads)))));
      depth = semicolon.depth ∙ valued.depth ∙ equals.depth ∙ named.depth ∙ scaled.depth ∙ t.depth;
      shorter = strictly_shorter old.rest t.token r0.rest new.rest t.rest (omega (
        arith,
        valued.shorter,
        shorter_by_token _ r0.rest scaled.place r1.rest scaled.spelled,
        shorter_by_token _ r1.rest named.place r2.rest named.spelled,
        shorter_by_token _ r2.rest equals.place r3.rest equals.spelled,
        shorter_by_token _ r4.rest semicolon.place new.rest semicolon.spelled,
      ));
    }

-- ---- lists of declarations

pub decls_more : (old now new : Reading) (decls : List Decl) (read : Decl) → Declares old decls now → ReadsDecl now read new → Declares old (decls ++ read ∷ []) new
decls_more old now new decls read found one = record {
  spelled = many_snoc decl old.rest decls now.rest read new.rest found.spelled one.spelled;
  leads = leads_then found.leads one.leads;
  depth = one.depth ∙ found.depth;
  shorter = omega (arith, found.shorter, one.shorter);
}

pub decls_all : (old now : Reading) (decls : List Decl) → Declares old decls now → start_of (next_kind now) ≡ None → ReadsRule (many decl) (Part.Decls ∷ []) old decls now
decls_all old now decls found none = record {
  spelled = found.spelled;
  leads = leads_then found.leads (passes Part.Decls now refl (no_start (next_kind now) none));
  depth = found.depth;
  shorter = found.shorter;
}
