-- Expressions made of those that were read.
use Rattle.std.proofs.Common.{◌≡◌, ℕ, zero, suc, ◌+◌, ◌-◌, ◌≤◌, List, [], ◌∷◌, ◌++◌, fold, Option, Some, None, refl, sym, ap, ◌∙◌, subst, inl, inr, Result, Ok, Err, MatchResult, arith}
use Rattle.kern_token.specs.declared.fault.KernFault.{KernFault}
use Rattle.kern_token.specs.declared.fault.KernFault.TheVariants as faults
use Rattle.std.proofs.lemmas.List.Sums.{fold-append}
use Rattle.std.proofs.lemmas.Result.{MatchResult-weaker}
use Rattle.kern_token.specs.declared.token.Symbol.{Symbol}
use Rattle.kern_token.specs.declared.token.Symbol.TheVariants as symbols
use Rattle.kern_token.specs.declared.token.Token.{Token}
use Rattle.kern_token.specs.declared.token.TokenKind.{TokenKind}
use Rattle.kern_token.specs.declared.token.TokenKind.TheVariants as kinds
use Rattle.kern_token.specs.declared.token.Word.{Word}
use Rattle.kern_token.specs.declared.token.Word.TheVariants as words
use Rattle.kern_tree.specs.declared.expr.Expr.{Expr}
use Rattle.kern_tree.specs.declared.expr.Form.TheVariants as forms
use Rattle.kern_tree.specs.declared.expr.Op1.{Op1}
use Rattle.kern_tree.specs.declared.expr.Op1.TheVariants as op1s
use Rattle.kern_tree.specs.declared.expr.Op2.{Op2}
use Rattle.kern_tree.specs.declared.expr.Op2.TheVariants as op2s
use Rattle.kern_tree.specs.declared.expr.Op3.{Op3}
use Rattle.kern_tree.specs.declared.expr.Op3.TheVariants as op3s
use Rattle.kern_tree.specs.Grammar.{node, two, part, component, axis, call, expr_over, to_scale}
use Rattle.kern_tree.specs.Rules.{Rule, At, many, token}
use Rattle.pf_geom.specs.declared.axis.Axis.{Axis}
use Rattle.kern_parse.specs.declared.operators.Call.{Call}
use Rattle.kern_parse.specs.declared.operators.Call.TheVariants as calls
use Rattle.kern_parse.specs.declared.operators.Level.{Level}
use Rattle.kern_parse.specs.declared.operators.Level.TheVariants as levels
use Rattle.kern_parse.specs.inner.Found.{inside, rule_of, next_of, ReadsRule, ReadsToken, ReadsExpr, ReadsCall, ReadsBracketed, Joins, Picks, IsCalled, arguments, after_word}
use Rattle.kern_parse.specs.inner.Leading.{Leads, Halts, Fails}
use Rattle.kern_parse.specs.inner.Operators.{binary_of, relation_of, prefix_of, call_of}
use Rattle.kern_parse.specs.inner.Reading.{Reading, next_kind, TakesNode, IsFull}
use Rattle.kern_parse.specs.Required.{Part, Refuses, move, operand, and_then, prim_move, exactly_move, same_symbol}
use Rattle.kern_parse.proofs.Expanding.{stands_for, and_then_nothing, chain_expands, rel_expands, post_expands}
use Rattle.kern_parse.proofs.Following.{leads_then, leads_first, fault_then, shorter_by_token, shorter_by_one, node_token}
use Rattle.kern_parse.proofs.Steps.{passes}
use Rattle.kern_parse.proofs.Taking.{takes_node, full_halts}
use Rattle.kern_parse.proofs.Telling.{binary_tells, no_binary, relation_tells, no_relation, prefix_tells, no_prefix, call_moves, no_call}

-- a node that was made, or no memory for it
pub made : {P : Expr → Type 0} {whole : Expr} (parts : List Part) (reading : Reading) (result : Result Expr KernFault) → MatchResult result (λ e. e ≡ whole) (λ fault. fault ≡ faults.Memory)
    → ((e : Expr) → e ≡ whole → P e) → MatchResult result P (λ fault. Fails parts reading fault)
made parts reading (Ok e) is good = good e is
made parts reading (Err fault) is good = inl is

-- ---- in brackets

pub within_more : (m : ℕ) (tokens : List Token) (e : Expr) (rest : List Token) → expr_over (inside m) tokens e rest → inside (suc m) tokens e rest
within_more zero tokens e rest h = h
within_more (suc m) tokens e rest h = h

pub less_by_one : (d d1 : ℕ) → d1 ≡ d + 1 → d1 ≤ 32 → suc (32 - d1) ≡ 32 - d
less_by_one d d1 is shallow = omega arith

-- an expression that was read behind a bracket, for the reading before it
pub inner : (d : ℕ) (a b : Reading) (e : Expr) → a.depth ≡ d + 1 → a.depth ≤ 32 → ReadsExpr (Part.Chain levels.Or) a e b → inside (32 - d) a.rest e b.rest
inner d a b e is shallow read =
    let W : ℕ → Type 0 = λ n. inside n a.rest e b.rest in
    subst W (less_by_one d a.depth is shallow) (within_more (32 - a.depth) a.rest e b.rest read.reads.spelled)

pub bracketed_read : (old a b new : Reading) (e : Expr) → ReadsToken (Part.Exactly symbols.OpenRound) (kinds.Symbol symbols.OpenRound) old a
    → ReadsExpr (Part.Chain levels.Or) a e b → ReadsToken (Part.Exactly symbols.CloseRound) (kinds.Symbol symbols.CloseRound) b new → ReadsBracketed old e new
bracketed_read old a b new e opened read closed = record {
  reads = record {
    spelled = (opened.place, a.rest, opened.spelled, (e, b.rest, inner old.depth a b e opened.depth opened.shallow read, (closed.place, new.rest, closed.spelled, (refl, refl))));
    leads = leads_then (leads_first _ _ opened.leads) (leads_then (leads_first _ _ read.reads.leads) closed.leads);
    depth = omega (arith, opened.depth, read.reads.depth, closed.depth);
    shorter = omega (arith, read.reads.shorter, shorter_by_token _ old.rest opened.place a.rest opened.spelled, shorter_by_token _ b.rest closed.place new.rest closed.spelled);
  };
}

-- ---- calls

pub two_read : (op : Op2) (place : ℕ) (old r1 r2 r3 r4 new : Reading) (a b : Expr) → ReadsToken (Part.Exactly symbols.OpenRound) (kinds.Symbol symbols.OpenRound) old r1
    → ReadsExpr (Part.Chain levels.Or) r1 a r2 → ReadsToken (Part.Exactly symbols.Comma) (kinds.Symbol symbols.Comma) r2 r3
    → ReadsExpr (Part.Chain levels.Or) r3 b r4 → ReadsToken (Part.Exactly symbols.CloseRound) (kinds.Symbol symbols.CloseRound) r4 new
    → ReadsCall (calls.Two op) place old (node place (forms.Two op a b)) new
two_read op place old r1 r2 r3 r4 new a b opened first comma second closed =
    let level : r3.depth ≡ old.depth + 1 = comma.depth ∙ first.reads.depth ∙ opened.depth in
    record {
      reads = record {
        spelled = (
          opened.place,
          r1.rest,
          opened.spelled,
          (
            a,
            r2.rest,
            inner old.depth r1 r2 a opened.depth opened.shallow first,
            (
              comma.place,
              r3.rest,
              comma.spelled,
              (b, r4.rest, inner old.depth r3 r4 b level comma.shallow second, (closed.place, new.rest, closed.spelled, (refl, refl))),
            ),
          ),
        );
        leads = leads_then (leads_first _ _ opened.leads) (leads_then (leads_first _ _ first.reads.leads) (leads_then (leads_first _ _ comma.leads) (leads_then (leads_first _ _ second.reads.leads) closed.leads)));
        depth = omega (arith, level, second.reads.depth, closed.depth);
        shorter = omega (
          arith,
          first.reads.shorter,
          second.reads.shorter,
          shorter_by_token _ old.rest opened.place r1.rest opened.spelled,
          shorter_by_token _ r2.rest comma.place r3.rest comma.spelled,
          shorter_by_token _ r4.rest closed.place new.rest closed.spelled,
        );
      };
    }

pub three_read : (op : Op3) (place : ℕ) (old r1 r2 r3 r4 r5 r6 new : Reading) (a b c : Expr) → ReadsToken (Part.Exactly symbols.OpenRound) (kinds.Symbol symbols.OpenRound) old r1
    → ReadsExpr (Part.Chain levels.Or) r1 a r2 → ReadsToken (Part.Exactly symbols.Comma) (kinds.Symbol symbols.Comma) r2 r3
    → ReadsExpr (Part.Chain levels.Or) r3 b r4 → ReadsToken (Part.Exactly symbols.Comma) (kinds.Symbol symbols.Comma) r4 r5
    → ReadsExpr (Part.Chain levels.Or) r5 c r6 → ReadsToken (Part.Exactly symbols.CloseRound) (kinds.Symbol symbols.CloseRound) r6 new
    → ReadsCall (calls.Three op) place old (node place (forms.Three op a b c)) new
three_read op place old r1 r2 r3 r4 r5 r6 new a b c opened first comma second comma2 third closed =
    let level : r3.depth ≡ old.depth + 1 = comma.depth ∙ first.reads.depth ∙ opened.depth in
    let level2 : r5.depth ≡ old.depth + 1 = comma2.depth ∙ second.reads.depth ∙ level in
    record {
      reads = record {
        spelled = (
          opened.place,
          r1.rest,
          opened.spelled,
          (
            a,
            r2.rest,
            inner old.depth r1 r2 a opened.depth opened.shallow first,
            (
              comma.place,
              r3.rest,
              comma.spelled,
              (
                b,
                r4.rest,
                inner old.depth r3 r4 b level comma.shallow second,
                (
                  comma2.place,
                  r5.rest,
                  comma2.spelled,
                  (c, r6.rest, inner old.depth r5 r6 c level2 comma2.shallow third, (closed.place, new.rest, closed.spelled, (refl, refl))),
                ),
              ),
            ),
          ),
        );
        leads = leads_then (leads_first _ _ opened.leads) (leads_then (leads_first _ _ first.reads.leads) (leads_then (leads_first _ _ comma.leads) (leads_then (leads_first _ _ second.reads.leads)
            (leads_then (leads_first _ _ comma2.leads) (leads_then (leads_first _ _ third.reads.leads) closed.leads)))));
        depth = omega (arith, level2, third.reads.depth, closed.depth);
        shorter = omega (
          arith,
          first.reads.shorter,
          second.reads.shorter,
          third.reads.shorter,
          shorter_by_token _ old.rest opened.place r1.rest opened.spelled,
          shorter_by_token _ r2.rest comma.place r3.rest comma.spelled,
          shorter_by_token _ r4.rest comma2.place r5.rest comma2.spelled,
          shorter_by_token _ r6.rest closed.place new.rest closed.spelled,
        );
      };
    }

pub to_read : (n place scale : ℕ) (old r1 r2 r3 r4 new : Reading) (a : Expr) → ReadsToken (Part.Exactly symbols.OpenRound) (kinds.Symbol symbols.OpenRound) old r1
    → ReadsToken Part.Number (kinds.Number n) r1 r2 → scale ≡ to_scale n → ReadsToken (Part.Exactly symbols.Comma) (kinds.Symbol symbols.Comma) r2 r3
    → ReadsExpr (Part.Chain levels.Or) r3 a r4 → ReadsToken (Part.Exactly symbols.CloseRound) (kinds.Symbol symbols.CloseRound) r4 new
    → ReadsCall calls.To place old (node place (forms.To scale a)) new
to_read n place scale old r1 r2 r3 r4 new a opened digits scale_is comma read closed =
    let level : r3.depth ≡ old.depth + 1 = comma.depth ∙ digits.depth ∙ opened.depth in
    record {
      reads = record {
        spelled = (
          opened.place,
          r1.rest,
          opened.spelled,
          (
            record { place = digits.place; held = n },
            r2.rest,
            digits.spelled,
            (
              comma.place,
              r3.rest,
              comma.spelled,
              (a, r4.rest, inner old.depth r3 r4 a level comma.shallow read, (closed.place, new.rest, closed.spelled, (ap (λ s. node place (forms.To s a)) scale_is, refl))),
            ),
          ),
        );
        leads = leads_then (leads_first _ _ opened.leads) (leads_then (leads_first _ _ digits.leads) (leads_then (leads_first _ _ comma.leads) (leads_then (leads_first _ _ read.reads.leads) closed.leads)));
        depth = omega (arith, level, read.reads.depth, closed.depth);
        shorter = omega (
          arith,
          read.reads.shorter,
          shorter_by_token _ old.rest opened.place r1.rest opened.spelled,
          shorter_by_token _ r1.rest digits.place r2.rest digits.spelled,
          shorter_by_token _ r2.rest comma.place r3.rest comma.spelled,
          shorter_by_token _ r4.rest closed.place new.rest closed.spelled,
        );
      };
    }

pub one_read : (op : Op1) (place : ℕ) (old new : Reading) (a : Expr) → ReadsBracketed old a new → ReadsCall (calls.One op) place old (node place (forms.One op a)) new
one_read op place old new a read =
    let whole = read.reads.spelled in
    let last = whole.3.3 in
    record {
      reads = record {
        spelled = (whole.0, whole.1, whole.2, (whole.3.0, whole.3.1, whole.3.2, (last.0, last.1, last.2, (ap (λ e. node place (forms.One op e)) last.3.0, last.3.1))));
        leads = read.reads.leads;
        depth = read.reads.depth;
        shorter = read.reads.shorter;
      };
    }

-- a word and the rest of its call are a call
called : (word : Word) (of : Call) (within : Rule Expr) (tokens : List Token) (place : ℕ) (mid : List Token) (e : Expr) (rest : List Token) → call_of word ≡ Some of
    → token (kinds.Word word) tokens place mid → after_word of place within mid e rest → call within tokens e rest
called words.Isqrt (calls.One op1s.Isqrt) within tokens place mid e rest is first after = inl (inl (inl (inl (inl (inl (place, mid, first, after))))))
called words.Abs (calls.One op1s.Abs) within tokens place mid e rest is first after = inl (inl (inl (inl (inl (inr (place, mid, first, after))))))
called words.To calls.To within tokens place mid e rest is first after = inl (inl (inl (inl (inr (place, mid, first, after)))))
called words.Min (calls.Two op2s.Least) within tokens place mid e rest is first after = inl (inl (inl (inr (place, mid, first, after))))
called words.Max (calls.Two op2s.Most) within tokens place mid e rest is first after = inl (inl (inr (place, mid, first, after)))
called words.Muldiv (calls.Three op3s.Muldiv) within tokens place mid e rest is first after = inl (inr (place, mid, first, after))
called words.Vec (calls.Three op3s.Build) within tokens place mid e rest is first after = inr (place, mid, first, after)
called _ _ within tokens place mid e rest is first after = cc

pub call_leads : (of : Call) (place : ℕ) (old mid : Reading) → IsCalled (next_kind old) of → TakesNode old place mid → Leads (Part.Prim ∷ []) old (arguments of) mid
call_leads of place old mid is t = takes_node Part.Prim (arguments of) (kinds.Word is.word) old place mid t is.next_is (call_moves is.word of is.call_is) refl

pub call_read : (of : Call) (place : ℕ) (old mid new : Reading) (e : Expr) → IsCalled (next_kind old) of → TakesNode old place mid → ReadsCall of place mid e new → ReadsExpr Part.Prim old e new
call_read of place old mid new e is t read =
    let first = node_token (kinds.Word is.word) old place mid t is.next_is in
    let W : ℕ → Type 0 = λ d. after_word of place (inside (32 - d)) mid.rest e new.rest in
    record {
      reads = record {
        spelled = inr (called is.word of (inside (32 - old.depth)) old.rest place mid.rest e new.rest is.call_is first (subst W t.depth read.reads.spelled));
        leads = leads_then (takes_node Part.Prim (arguments of) (kinds.Word is.word) old place mid t is.next_is (call_moves is.word of is.call_is) refl) read.reads.leads;
        depth = read.reads.depth ∙ t.depth;
        shorter = omega (arith, read.reads.shorter, shorter_by_one old.rest t.token mid.rest t.rest);
      };
    }

-- ---- lists of operators and operands

pub many_snoc : {A : Type 0} (rule : Rule A) (tokens : List Token) (values : List A) (mid : List Token) (value : A) (rest : List Token)
    → many rule tokens values mid → rule mid value rest → many rule tokens (values ++ value ∷ []) rest
many_snoc rule tokens [] mid value rest all one = (rest, rw all one, refl)
many_snoc rule tokens (v ∷ values) mid value rest all one = (all.0, all.1, many_snoc rule all.0 values mid value rest all.2 one)

pub joins_first : (level : Level) (old : Reading) (e : Expr) (now : Reading) → ReadsExpr (operand level) old e now → Joins level old e now
joins_first level old e now read = record {
  first = e;
  between = now.rest;
  more = [];
  first_is = read.reads.spelled;
  more_are = refl;
  left_is = refl;
  leads = leads_then (chain_expands level old) (leads_first _ _ read.reads.leads);
  depth = read.reads.depth;
  shorter = read.reads.shorter;
}

pub joins_leads : (level : Level) (old now mid : Reading) (left : Expr) (op : Op2) (place : ℕ) → Joins level old left now → binary_of level (next_kind now) ≡ Some op
    → TakesNode now place mid → Leads (Part.Chain level ∷ []) old (operand level ∷ Part.More level ∷ []) mid
joins_leads level old now mid left op place joins is t =
    let told = binary_tells level (next_kind now) op is in
    leads_then joins.leads (takes_node (Part.More level) (operand level ∷ Part.More level ∷ []) (kinds.Symbol told.symbol) now place mid t told.next_is told.moves (told.no_bracket now.depth))

pub joins_more : (level : Level) (old now mid new : Reading) (left e : Expr) (op : Op2) (place : ℕ) → Joins level old left now → binary_of level (next_kind now) ≡ Some op
    → TakesNode now place mid → ReadsExpr (operand level) mid e new → Joins level old (node place (forms.Two op left e)) new
joins_more level old now mid new left e op place joins is t read =
    let told = binary_tells level (next_kind now) op is in
    let at = node_token (kinds.Symbol told.symbol) now place mid t told.next_is in
    let W : ℕ → Type 0 = λ d. rule_of (operand level) (inside (32 - d)) mid.rest e new.rest in
    let right : W old.depth = subst W (t.depth ∙ joins.depth) read.reads.spelled in
    record {
      first = joins.first;
      between = joins.between;
      more = joins.more ++ (record { place = place; held = op }, e) ∷ [];
      first_is = joins.first_is;
      more_are = many_snoc (next_of level (inside (32 - old.depth))) joins.between joins.more now.rest (record { place = place; held = op }, e) new.rest joins.more_are
          (record { place = place; held = op }, mid.rest, told.spelled now.rest place mid.rest at, (e, new.rest, right, (refl, refl)));
      left_is = ap (λ l. node place (forms.Two op l e)) joins.left_is ∙ sym (fold-append two joins.first joins.more ((record { place = place; held = op }, e) ∷ []));
      leads = leads_then (joins_leads level old now mid left op place joins is t) (leads_first _ _ read.reads.leads);
      depth = read.reads.depth ∙ t.depth ∙ joins.depth;
      shorter = omega (arith, joins.shorter, read.reads.shorter, shorter_by_one now.rest t.token mid.rest t.rest);
    }

joined : (level : Level) (within : Rule Expr) (tokens : List Token) (first : Expr) (between : List Token) (more : List (At Op2 × Expr)) (left : Expr) (rest : List Token)
    → rule_of (operand level) within tokens first between → many (next_of level within) between more rest → left ≡ fold two first more → rule_of (Part.Chain level) within tokens left rest
joined levels.Or within tokens first between more left rest one others is = (first, between, one, (more, rest, others, (is, refl)))
joined levels.And within tokens first between more left rest one others is = (first, between, one, (more, rest, others, (is, refl)))
joined levels.Sum within tokens first between more left rest one others is = (first, between, one, (more, rest, others, (is, refl)))
joined levels.Product within tokens first between more left rest one others is = (first, between, one, (more, rest, others, (is, refl)))

pub joins_all : (level : Level) (old now : Reading) (left : Expr) → Joins level old left now → binary_of level (next_kind now) ≡ None → ReadsExpr (Part.Chain level) old left now
joins_all level old now left joins none = record {
  reads = record {
    spelled = joined level (inside (32 - old.depth)) old.rest joins.first joins.between joins.more left now.rest joins.first_is joins.more_are joins.left_is;
    leads = leads_then joins.leads (passes (Part.More level) now refl (no_binary level (next_kind now) none));
    depth = joins.depth;
    shorter = joins.shorter;
  };
}

-- ---- relations

pub rel_leads : (old now : Reading) (e : Expr) → ReadsExpr (Part.Chain levels.Sum) old e now → Leads (Part.Rel ∷ []) old (Part.MoreRel ∷ []) now
rel_leads old now e read = leads_then (rel_expands old) (leads_first _ _ read.reads.leads)

pub rel_alone : (old now : Reading) (e : Expr) → ReadsExpr (Part.Chain levels.Sum) old e now → relation_of (next_kind now) ≡ None → ReadsExpr Part.Rel old e now
rel_alone old now e read none = record {
  reads = record {
    spelled = (e, now.rest, read.reads.spelled, inl (refl, refl));
    leads = leads_then (rel_leads old now e read) (passes Part.MoreRel now refl (no_relation (next_kind now) none));
    depth = read.reads.depth;
    shorter = read.reads.shorter;
  };
}

pub rel_leads_on : (old now mid : Reading) (e : Expr) (op : Op2) (place : ℕ) → ReadsExpr (Part.Chain levels.Sum) old e now → relation_of (next_kind now) ≡ Some op → TakesNode now place mid
    → Leads (Part.Rel ∷ []) old (Part.Chain levels.Sum ∷ []) mid
rel_leads_on old now mid e op place read is t =
    let told = relation_tells (next_kind now) op is in
    leads_then (rel_leads old now e read) (takes_node Part.MoreRel (Part.Chain levels.Sum ∷ []) (kinds.Symbol told.symbol) now place mid t told.next_is told.moves (told.no_bracket now.depth))

pub rel_both : (old now mid new : Reading) (e f : Expr) (op : Op2) (place : ℕ) → ReadsExpr (Part.Chain levels.Sum) old e now → relation_of (next_kind now) ≡ Some op → TakesNode now place mid
    → ReadsExpr (Part.Chain levels.Sum) mid f new → ReadsExpr Part.Rel old (node place (forms.Two op e f)) new
rel_both old now mid new e f op place read is t right =
    let told = relation_tells (next_kind now) op is in
    let at = node_token (kinds.Symbol told.symbol) now place mid t told.next_is in
    let W : ℕ → Type 0 = λ d. rule_of (Part.Chain levels.Sum) (inside (32 - d)) mid.rest f new.rest in
    record {
      reads = record {
        spelled = (e, now.rest, read.reads.spelled, inr (record { place = place; held = op }, mid.rest, told.spelled now.rest place mid.rest at, (f, new.rest, subst W (t.depth ∙ read.reads.depth) right.reads.spelled, (refl, refl))));
        leads = leads_then (rel_leads_on old now mid e op place read is t) right.reads.leads;
        depth = right.reads.depth ∙ t.depth ∙ read.reads.depth;
        shorter = omega (arith, read.reads.shorter, right.reads.shorter, shorter_by_one now.rest t.token mid.rest t.rest);
      };
    }

-- ---- prefixes

pub stands_for_post : (old : Reading) → prefix_of (next_kind old) ≡ None → Leads (Part.Unary ∷ []) old (Part.Post ∷ []) old
stands_for_post old none = stands_for Part.Unary Part.Post [] old refl refl (λ kind next. no_prefix (next_kind old) kind next none ∙ sym (and_then_nothing (move Part.Post kind)))

pub unary_plain : (old new : Reading) (e : Expr) → prefix_of (next_kind old) ≡ None → ReadsExpr Part.Post old e new → ReadsExpr Part.Unary old e new
unary_plain old new e none read = record {
  reads = record {
    spelled = inl read.reads.spelled;
    leads = leads_then (stands_for_post old none) read.reads.leads;
    depth = read.reads.depth;
    shorter = read.reads.shorter;
  };
}

pub unary_leads : (old mid : Reading) (op : Op1) (place : ℕ) → prefix_of (next_kind old) ≡ Some op → TakesNode old place mid → Leads (Part.Unary ∷ []) old (Part.Post ∷ []) mid
unary_leads old mid op place is t =
    let told = prefix_tells (next_kind old) op is in
    takes_node Part.Unary (Part.Post ∷ []) (kinds.Symbol told.symbol) old place mid t told.next_is told.moves (told.no_bracket old.depth)

pub unary_prefixed : (old mid new : Reading) (e : Expr) (op : Op1) (place : ℕ) → prefix_of (next_kind old) ≡ Some op → TakesNode old place mid → ReadsExpr Part.Post mid e new
    → ReadsExpr Part.Unary old (node place (forms.One op e)) new
unary_prefixed old mid new e op place is t read =
    let told = prefix_tells (next_kind old) op is in
    let at = node_token (kinds.Symbol told.symbol) old place mid t told.next_is in
    let W : ℕ → Type 0 = λ d. rule_of Part.Post (inside (32 - d)) mid.rest e new.rest in
    record {
      reads = record {
        spelled = inr (record { place = place; held = op }, mid.rest, told.spelled old.rest place mid.rest at, (e, new.rest, subst W t.depth read.reads.spelled, (refl, refl)));
        leads = leads_then (unary_leads old mid op place is t) read.reads.leads;
        depth = read.reads.depth ∙ t.depth;
        shorter = omega (arith, read.reads.shorter, shorter_by_one old.rest t.token mid.rest t.rest);
      };
    }

-- ---- components

pub picks_first : (old : Reading) (e : Expr) (now : Reading) → ReadsExpr Part.Prim old e now → Picks old e now
picks_first old e now read = record {
  whole = e;
  between = now.rest;
  parts = [];
  whole_is = read.reads.spelled;
  parts_are = refl;
  expr_is = refl;
  leads = leads_then (post_expands old) (leads_first _ _ read.reads.leads);
  depth = read.reads.depth;
  shorter = read.reads.shorter;
}

pub picks_leads : (old now mid : Reading) (e : Expr) (place : ℕ) → Picks old e now → next_kind now ≡ Some (kinds.Symbol symbols.Dot) → TakesNode now place mid
    → Leads (Part.Post ∷ []) old (Part.AxisName ∷ Part.MorePost ∷ []) mid
picks_leads old now mid e place picks is t = leads_then picks.leads (takes_node Part.MorePost (Part.AxisName ∷ Part.MorePost ∷ []) (kinds.Symbol symbols.Dot) now place mid t is refl refl)

pub picks_more : (old now mid new : Reading) (e : Expr) (along : Axis) (place : ℕ) → Picks old e now → next_kind now ≡ Some (kinds.Symbol symbols.Dot) → TakesNode now place mid
    → ReadsRule axis (Part.AxisName ∷ []) mid along new → Picks old (node place (forms.Part e along)) new
picks_more old now mid new e along place picks is t read =
    let at = node_token (kinds.Symbol symbols.Dot) now place mid t is in
    record {
      whole = picks.whole;
      between = picks.between;
      parts = picks.parts ++ record { place = place; held = along } ∷ [];
      whole_is = picks.whole_is;
      parts_are = many_snoc component picks.between picks.parts now.rest (record { place = place; held = along }) new.rest picks.parts_are
          (place, mid.rest, at, (along, new.rest, read.spelled, (refl, refl)));
      expr_is = ap (λ l. node place (forms.Part l along)) picks.expr_is ∙ sym (fold-append part picks.whole picks.parts (record { place = place; held = along } ∷ []));
      leads = leads_then (picks_leads old now mid e place picks is t) (leads_first _ _ read.leads);
      depth = read.depth ∙ t.depth ∙ picks.depth;
      shorter = omega (arith, picks.shorter, read.shorter, shorter_by_one now.rest t.token mid.rest t.rest);
    }

no_dot : (next : Option TokenKind) → (next ≡ Some (kinds.Symbol symbols.Dot) → ⊥) → Refuses Part.MorePost next
no_dot None other = tt
no_dot (Some (kinds.Symbol symbols.Dot)) other = absurd (other refl)
no_dot (Some _) other = refl

pub picks_all : (old now : Reading) (e : Expr) → Picks old e now → (next_kind now ≡ Some (kinds.Symbol symbols.Dot) → ⊥) → ReadsExpr Part.Post old e now
picks_all old now e picks other = record {
  reads = record {
    spelled = (picks.whole, picks.between, picks.whole_is, (picks.parts, now.rest, picks.parts_are, (picks.expr_is, refl)));
    leads = leads_then picks.leads (passes Part.MorePost now refl (no_dot (next_kind now) other));
    depth = picks.depth;
    shorter = picks.shorter;
  };
}

-- ---- brackets among the primary expressions

symbol_bracket : (s : Symbol) → prim_move (kinds.Symbol s) ≡ and_then (exactly_move (same_symbol symbols.OpenRound s)) (Part.Chain levels.Or ∷ Part.Exactly symbols.CloseRound ∷ [])
symbol_bracket symbols.OpenRound = refl
symbol_bracket _ = refl

bracket_move : (kind : TokenKind) → ((n : ℕ) → kind ≡ kinds.Number n → ⊥) → ((called : List ℕ) → kind ≡ kinds.Name called → ⊥) → ((word : Word) → kind ≡ kinds.Word word → ⊥)
    → move Part.Prim kind ≡ and_then (move (Part.Exactly symbols.OpenRound) kind) (Part.Chain levels.Or ∷ Part.Exactly symbols.CloseRound ∷ [])
bracket_move (kinds.Number n) no_number no_name no_word = absurd (no_number n refl)
bracket_move (kinds.Name called) no_number no_name no_word = absurd (no_name called refl)
bracket_move (kinds.Word word) no_number no_name no_word = absurd (no_word word refl)
bracket_move (kinds.Scale bits) no_number no_name no_word = refl
bracket_move (kinds.Symbol s) no_number no_name no_word = symbol_bracket s

same_kind : (old : Reading) (kind k : TokenKind) → next_kind old ≡ Some kind → next_kind old ≡ Some k → kind ≡ k
same_kind old kind k is next = cc

bracket_expands : (kind : TokenKind) (old : Reading) → next_kind old ≡ Some kind
    → ((n : ℕ) → kind ≡ kinds.Number n → ⊥) → ((called : List ℕ) → kind ≡ kinds.Name called → ⊥) → ((word : Word) → kind ≡ kinds.Word word → ⊥)
    → Leads (Part.Prim ∷ []) old (Part.Exactly symbols.OpenRound ∷ Part.Chain levels.Or ∷ Part.Exactly symbols.CloseRound ∷ []) old
bracket_expands kind old is no_number no_name no_word =
    stands_for Part.Prim (Part.Exactly symbols.OpenRound) (Part.Chain levels.Or ∷ Part.Exactly symbols.CloseRound ∷ []) old refl refl
    (λ k next. subst (λ k1. move Part.Prim k1 ≡ and_then (move (Part.Exactly symbols.OpenRound) k1) (Part.Chain levels.Or ∷ Part.Exactly symbols.CloseRound ∷ [])) (same_kind old kind k is next) (bracket_move kind no_number no_name no_word))

pub bracket_done : (kind : TokenKind) (old new : Reading) (result : Result Expr KernFault) → next_kind old ≡ Some kind
    → ((n : ℕ) → kind ≡ kinds.Number n → ⊥) → ((called : List ℕ) → kind ≡ kinds.Name called → ⊥) → ((word : Word) → kind ≡ kinds.Word word → ⊥)
    → MatchResult result (λ e. ReadsBracketed old e new) (λ fault. Fails (Part.Exactly symbols.OpenRound ∷ Part.Chain levels.Or ∷ Part.Exactly symbols.CloseRound ∷ []) old fault)
    → MatchResult result (λ e. ReadsExpr Part.Prim old e new) (λ fault. Fails (Part.Prim ∷ []) old fault)
bracket_done kind old new result is no_number no_name no_word done =
    let lead = bracket_expands kind old is no_number no_name no_word in
    MatchResult-weaker result done
    (λ e read. record { reads = record { spelled = inl (inr read.reads.spelled); leads = leads_then lead read.reads.leads; depth = read.reads.depth; shorter = read.reads.shorter } })
    (λ fault fails. fault_then lead fails)

pub call_done : (of : Call) (place : ℕ) (old mid new : Reading) (result : Result Expr KernFault) → IsCalled (next_kind old) of → TakesNode old place mid
    → MatchResult result (λ e. ReadsCall of place mid e new) (λ fault. Fails (arguments of) mid fault)
    → MatchResult result (λ e. ReadsExpr Part.Prim old e new) (λ fault. Fails (Part.Prim ∷ []) old fault)
call_done of place old mid new result is t done =
    MatchResult-weaker result done (λ e read. call_read of place old mid new e is t read) (λ fault fails. fault_then (call_leads of place old mid is t) fails)

pub no_call_refuses : (word : Word) (next : Option TokenKind) → next ≡ Some (kinds.Word word) → call_of word ≡ None → Refuses Part.Prim next
no_call_refuses word next is none = rw is (no_call word none)

-- ---- a node too many

pub binary_full : (level : Level) (now : Reading) (op : Op2) (fault : KernFault) → binary_of level (next_kind now) ≡ Some op → IsFull now fault → Halts (Part.More level ∷ []) now fault
binary_full level now op fault is full =
    let told = binary_tells level (next_kind now) op is in
    full_halts (Part.More level) (operand level ∷ Part.More level ∷ []) (kinds.Symbol told.symbol) now fault full told.next_is told.moves (told.no_bracket now.depth)

pub relation_full : (now : Reading) (op : Op2) (fault : KernFault) → relation_of (next_kind now) ≡ Some op → IsFull now fault → Halts (Part.MoreRel ∷ []) now fault
relation_full now op fault is full =
    let told = relation_tells (next_kind now) op is in
    full_halts Part.MoreRel (Part.Chain levels.Sum ∷ []) (kinds.Symbol told.symbol) now fault full told.next_is told.moves (told.no_bracket now.depth)

pub prefix_full : (now : Reading) (op : Op1) (fault : KernFault) → prefix_of (next_kind now) ≡ Some op → IsFull now fault → Halts (Part.Unary ∷ []) now fault
prefix_full now op fault is full =
    let told = prefix_tells (next_kind now) op is in
    full_halts Part.Unary (Part.Post ∷ []) (kinds.Symbol told.symbol) now fault full told.next_is told.moves (told.no_bracket now.depth)

pub component_full : (now : Reading) (fault : KernFault) → next_kind now ≡ Some (kinds.Symbol symbols.Dot) → IsFull now fault → Halts (Part.MorePost ∷ []) now fault
component_full now fault is full = full_halts Part.MorePost (Part.AxisName ∷ Part.MorePost ∷ []) (kinds.Symbol symbols.Dot) now fault full is refl refl

pub call_full : (of : Call) (now : Reading) (fault : KernFault) → IsCalled (next_kind now) of → IsFull now fault → Halts (Part.Prim ∷ []) now fault
call_full of now fault is full = full_halts Part.Prim (arguments of) (kinds.Word is.word) now fault full is.next_is (call_moves is.word of is.call_is) refl
