-- The statements of a typed kernel end, or meet a fault, and names have values of their types.
use Rattle.std.proofs.Common.{◌≡◌, ℕ, ◌+◌, ◌≤◌, Bool, true, false, ◌||◌, ◌&&◌, List, [], ◌∷◌, ◌++◌, Option, Some, None, Ok, Err, cond, bytes_eq, refl, sym, ap, ◌∙◌, subst, arith}
use Rattle.std.specs.Prelude.{◌==◌, slice_set}
use Rattle.std.specs.List.{AllByRecursion}
use Rattle.std.proofs.lemmas.Bool.Decides.{nat_tests}
use Rattle.std.proofs.lemmas.Slice.Eq.{bytes_eq-Decides}
use Rattle.pf_model.specs.Particle.{Particle}
use Rattle.pf_model.specs.Totals.{Source}
use Rattle.kern_token.specs.declared.limits.TheConstants.{MOST_SCALE}
use Rattle.kern_tree.specs.declared.expr.Expr.{Expr}
use Rattle.kern_tree.specs.declared.kernel.Decl.{Decl}
use Rattle.kern_tree.specs.declared.kernel.Kind.{Kind}
use Rattle.kern_tree.specs.declared.stmt.Stmt.{Stmt}
use Rattle.kern_tree.specs.Limits as limits
use Rattle.kern_tree.specs.Limits.{IsLimited, IsLimitedStmt, IsLimitedBlock}
use Rattle.kern_tree.proofs.Layers.{set_layer, give_layer, if_layer}
use Rattle.kern_types.specs.declared.expr_type.ExprType.{ExprType}
use Rattle.kern_types.specs.declared.expr_type.ExprType.TheVariants as types
use Rattle.kern_types.specs.Scopes.{Scope, Grows}
use Rattle.kern_types.specs.declared.scope.Variable.{Variable}
use Rattle.kern_types.specs.NameLists.{is_among}
use Rattle.kern_types.specs.Names.{declaration, earlier_assignment, name_type, named_type, undeclared_type, declared_type, type_of}
use Rattle.kern_types.specs.Statements.{act_after, at_stmt_place, stmt_after, stmts_after, with_assigned, assignment_after, contribution_check, if_check, condition_check}
use Rattle.kern_types.specs.Steps.{OrFault, ◌>>◌, pass}
use Rattle.kern_types.specs.TypingLaws.{ScopesOnlyGrow, GrowthIsAnOrder, IsAssignment, AssignmentsFit, HasTypeOf, HaveOneType, AreFitting, FitsIfTyped, ContributionsFit}
use Rattle.kern_types.proofs.Acts.{before_other, joined}
use Rattle.kern_types.proofs.Checks.{passed_first, passed_then, reached, find_kept}
use Rattle.kern_types.proofs.Paths.{among_both, among_common, or_false}
use Rattle.kern_meaning.specs.declared.stop.PairStop.TheVariants as pair_stops
use Rattle.kern_meaning.specs.declared.stop.Stop.TheVariants as stops
use Rattle.kern_meaning.specs.declared.value.Value.{Value}
use Rattle.kern_meaning.specs.declared.value.Value.TheVariants.{Num, Vec3, Condition}
use Rattle.kern_meaning.specs.Expressions.{value_of, number_value_of, truth_of, contribution_of}
use Rattle.kern_meaning.specs.Names.{Known, declared_value, name_value, with_value}
use Rattle.kern_meaning.specs.Operators.{number, truth, taken_by}
use Rattle.kern_meaning.specs.Pair.{OrPairStop, PairState, Statements, at_statement, force_type, act_statements, at_stmt, assign, give, choose, act_meaning, block_meaning}
use Rattle.kern_meaning.specs.Stops.{OrStop, ◌>>=◌, only_if}
use Rattle.kern_meaning.specs.Values.{type_of_value}
use Rattle.kern_meaning.proofs.DeclTyping.{DeclFits}
use Rattle.kern_meaning.proofs.ExprTyping.{expr_fits}
use Rattle.kern_meaning.proofs.Fits.{Fits, FitsAs}
use Rattle.kern_meaning.proofs.Meanings.{first_of, rest_of}

-- ---- names

among_earlier : (names : List (List ℕ)) (last name : List ℕ) → is_among (names ++ last ∷ []) name ≡ true → bytes_eq last name ≡ false → is_among names name ≡ true
among_earlier names last name e apart =
    sym (or_false (is_among names name)) ∙ ap (λ b. is_among names name || (b || false)) (sym apart) ∙ sym (among_both name names (last ∷ [])) ∙ e

both_hold : (a b : Bool) → (a && b) ≡ true → (a ≡ true) × (b ≡ true)
both_hold true true e = (refl, refl)
both_hold true false e = absurd (let no : ⊥ = cc in no)
both_hold false b e = absurd (let no : ⊥ = cc in no)

-- ---- answers

-- answers, but for faults
abbrev AnswerIs : {A : Type 0} → (A → Type 0) → OrStop A → Type 0
AnswerIs P (Ok a) = P a
AnswerIs P (Err (stops.Fault fault)) = Unit {0}
AnswerIs P (Err stops.NoResult) = ⊥

abbrev IsTypedAs : Kind → ℕ → Value → Type 0
IsTypedAs kind scale v = type_of_value v ≡ types.Scaled kind scale

number_answers : (kind : Kind) (scale : ℕ) (answer : OrStop Value) → FitsAs (types.Scaled kind scale) answer → AnswerIs (IsTypedAs kind scale) (answer >>= number)
number_answers kind scale (Ok (Num a s)) h = h
number_answers kind scale (Ok (Vec3 a s)) h = h
number_answers kind scale (Ok (Condition b)) h = absurd (let no : ⊥ = cc in no)
number_answers kind scale (Err (stops.Fault fault)) h = tt
number_answers kind scale (Err stops.NoResult) h = h

truth_answers : (answer : OrStop Value) → FitsAs types.Condition answer → AnswerIs (λ b. Unit {0}) (answer >>= truth)
truth_answers (Ok (Num a s)) h = absurd (let no : ⊥ = cc in no)
truth_answers (Ok (Vec3 a s)) h = absurd (let no : ⊥ = cc in no)
truth_answers (Ok (Condition b)) h = tt
truth_answers (Err (stops.Fault fault)) h = tt
truth_answers (Err stops.NoResult) h = h

same_scale : (a b : ℕ) → a ≡ b → (a == b) ≡ true
same_scale a b e = grind (arith, nat_tests)

self_taken : (test : Bool) (v : Value) → test ≡ true → AnswerIs (λ (w : Value). Unit {0}) (only_if test (Ok v))
self_taken true v e = tt
self_taken false v e = absurd (let no : ⊥ = cc in no)

own_taken : (kind : Kind) (scale : ℕ) (v : Value) → type_of_value v ≡ types.Scaled kind scale → AnswerIs (λ (w : Value). Unit {0}) (taken_by (Some (type_of_value v)) v)
own_taken kind scale (Num a s) e = self_taken (s == s) (Num a s) (same_scale s s refl)
own_taken kind scale (Vec3 a s) e = self_taken (s == s) (Vec3 a s) (same_scale s s refl)
own_taken kind scale (Condition b) e = absurd (let no : ⊥ = cc in no)

taken_answers : (kind : Kind) (scale : ℕ) (answer : OrStop Value) → FitsAs (types.Scaled kind scale) answer → AnswerIs (λ (w : Value). Unit {0}) (answer >>= taken_by (Some (types.Scaled kind scale)))
taken_answers kind scale (Ok v) h = subst (λ (t : ExprType). AnswerIs (λ (w : Value). Unit {0}) (taken_by (Some t) v)) h (own_taken kind scale v h)
taken_answers kind scale (Err (stops.Fault fault)) h = tt
taken_answers kind scale (Err stops.NoResult) h = h

-- the name has a value, of the type of its earliest assignment in a kernel that assigns all these
pub record HasValue (all : List Variable) (known : Known) (name : List ℕ) : Type 0 where
  pub variable : Variable
  pub is_variable : earlier_assignment all name ≡ Some variable
  pub value : Value
  pub is_value : known name ≡ Some value
  pub typed : type_of_value value ≡ types.Scaled variable.kind variable.scale

-- what is known of the assignments of a whole kernel
pub record AllAssigned (decls : List Decl) (all : List Variable) : Type 0 where
  pub one_type : HaveOneType all
  pub fitting : AreFitting all
  pub expressions : (scope : Scope) (e : Expr) → AreFitting scope.earlier → IsLimited e → FitsIfTyped (type_of decls scope e)

module _ (decls : List Decl) (i : Particle) (j : Source) (coincident : Bool) (declared_fits : (name : List ℕ) (decl : Decl) → declaration decls name ≡ Some decl → DeclFits i j decl)
    (all : List Variable) (assignments : AllAssigned decls all) where
  -- what holds between two statements
  pub record Agrees (scope : Scope) (known : Known) : Type 0 where
    pub declared : (name : List ℕ) (decl : Decl) → declaration decls name ≡ Some decl → known name ≡ declared_value i j decl.what
    pub assigned : (name : List ℕ) → is_among scope.certain name ≡ true → HasValue all known name

  -- ---- names in expressions

  module _ (scope : Scope) (known : Known) (agrees : Agrees scope known) (first : Grows scope.earlier all) where
    kept : (name : List ℕ) (v : Variable) → earlier_assignment scope.earlier name ≡ Some v → earlier_assignment all name ≡ Some v
    kept name v e = ap (λ l. earlier_assignment l name) first.is ∙ find_kept (λ (x : Variable). bytes_eq x.name name) scope.earlier first.more v e

    assigned_fits : (place : ℕ) (name : List ℕ) (earlier : Option Variable) (certain : Bool) → earlier_assignment scope.earlier name ≡ earlier → is_among scope.certain name ≡ certain
        → Fits (undeclared_type place earlier certain) (name_value (known name))
    assigned_fits place name None certain e f = tt
    assigned_fits place name (Some v) false e f = tt
    assigned_fits place name (Some v) true e f =
        let h : HasValue all known name = agrees.assigned name f in
        let e' = h.is_variable in
        let here = kept name v e in
        let same : h.variable ≡ v = cc in
        subst (λ (x : Option Value). FitsAs (types.Scaled v.kind v.scale) (name_value x)) (sym h.is_value)
        (subst (λ (w : Variable). type_of_value h.value ≡ types.Scaled w.kind w.scale) same h.typed)

    named_fits : (place : ℕ) (name : List ℕ) (decl : Option Decl) → declaration decls name ≡ decl
        → Fits (named_type place decl (undeclared_type place (earlier_assignment scope.earlier name) (is_among scope.certain name))) (name_value (known name))
    named_fits place name (Some decl) e =
        subst (λ (x : Option Value). Fits (declared_type place decl.what) (name_value x)) (sym (agrees.declared name decl e)) (declared_fits name decl e place)
    named_fits place name None e = assigned_fits place name _ _ refl refl

    names_fit : (place : ℕ) (name : List ℕ) → Fits (name_type decls scope place name) (name_value (known name))
    names_fit place name = named_fits place name _ refl

    fitting : AreFitting scope.earlier
    fitting = first_of (λ (v : Variable). v.scale ≤ MOST_SCALE) scope.earlier first.more (subst AreFitting first.is assignments.fitting)

    -- an expression of this type
    fits_as : {e : Expr} (type : ExprType) → IsLimited e → type_of decls scope e ≡ Ok type → FitsAs type (value_of known e)
    fits_as {e = e} type h is = subst (λ (t : OrFault ExprType). Fits t (value_of known e)) is (expr_fits decls scope known names_fit (λ a. assignments.expressions scope a fitting) h)

  -- ---- one state after another

  -- statements end in a state that agrees with this scope, or meet a fault
  abbrev pub Goes : Scope → OrPairStop PairState → Type 0
  Goes scope (Ok state) = Agrees scope state.known
  Goes scope (Err (pair_stops.Fault fault)) = Unit {0}
  Goes scope (Err pair_stops.NoResult) = ⊥

  abbrev pub IsTypedStep : Scope → Scope → Statements → Type 0
  IsTypedStep before after statements = (n slot : ℕ) (state : PairState) → Agrees before state.known → Goes after (statements.run n slot state)

  goes_then : (between after : Scope) (answer : OrPairStop PairState) (next : PairState → OrPairStop PairState) → Goes between answer → ((state : PairState) → Agrees between state.known → Goes after (next state)) → Goes after (answer >>= next)
  goes_then between after (Ok state) next h step = step state h
  goes_then between after (Err (pair_stops.Fault fault)) next h step = tt
  goes_then between after (Err pair_stops.NoResult) next h step = h

  goes_on : (between after : Scope) (answer : OrPairStop PairState) → Goes between answer → ((known : Known) → Agrees between known → Agrees after known) → Goes after answer
  goes_on between after (Ok state) h step = step state.known h
  goes_on between after (Err (pair_stops.Fault fault)) h step = tt
  goes_on between after (Err pair_stops.NoResult) h step = h

  own_goes : {A : Type 0} (n : ℕ) (after : Scope) (P : A → Type 0) (answer : OrStop A) (next : A → OrPairStop PairState) → AnswerIs P answer → ((a : A) → P a → Goes after (next a)) → Goes after (at_statement coincident n answer >>= next)
  own_goes n after P (Ok a) next h step = step a h
  own_goes n after P (Err (stops.Fault fault)) next h step = tt
  own_goes n after P (Err stops.NoResult) next h step = absurd h

  -- fewer names are certain
  weaker : (before after : Scope) → ((name : List ℕ) → is_among after.certain name ≡ true → is_among before.certain name ≡ true) → (known : Known) → Agrees before known → Agrees after known
  weaker before after fewer known agrees = record { declared = agrees.declared; assigned = λ name e. agrees.assigned name (fewer name e) }

  -- ---- name = value;

  module _ (scope : Scope) (name : List ℕ) (kind : Kind) (scale : ℕ) (undeclared : declaration decls name ≡ None) (known : Known) (agrees : Agrees scope known) (v : Value) (typed : IsTypedAs kind scale v) where
    abbrev new : Variable
    new = record { name = name; kind = kind; scale = scale }

    own_value : (earliest : Option Variable) → earlier_assignment all name ≡ earliest → HasTypeOf earliest new → HasValue all (with_value known name v) name
    own_value None e h = absurd h
    own_value (Some w) e h = record {
      variable = w;
      is_variable = e;
      value = v;
      is_value = ap (λ b. cond b (Some v) (known name)) ((bytes_eq-Decides name name).1 refl);
      typed = typed ∙ ap (λ k. types.Scaled k scale) (sym h.0) ∙ ap (λ s. types.Scaled w.kind s) (sym h.1);
    }

    module _ (later : Grows (scope.earlier ++ new ∷ []) all) where
      -- as each assignment
      new_type : HasTypeOf (earlier_assignment all name) new
      new_type =
          let P : Variable → Type 0 = λ x. HasTypeOf (earlier_assignment all x.name) x in
          let until : AllByRecursion P (scope.earlier ++ new ∷ []) = first_of P (scope.earlier ++ new ∷ []) later.more (subst (λ (l : List Variable). AllByRecursion P l) later.is assignments.one_type) in
          (rest_of P scope.earlier (new ∷ []) until).0

      set_assigned : (other : List ℕ) (b : Bool) → bytes_eq name other ≡ b → is_among (scope.certain ++ name ∷ []) other ≡ true → HasValue all (with_value known name v) other
      set_assigned other true e certain = subst (λ (n : List ℕ). HasValue all (with_value known name v) n) ((bytes_eq-Decides name other).0 e) (own_value (earlier_assignment all name) refl new_type)
      set_assigned other false e certain =
          let h : HasValue all known other = agrees.assigned other (among_earlier scope.certain name other certain e) in
          record {
            variable = h.variable;
            is_variable = h.is_variable;
            value = h.value;
            is_value = ap (λ b. cond b (Some v) (known other)) e ∙ h.is_value;
            typed = h.typed;
          }

      set_declared : (other : List ℕ) (b : Bool) → bytes_eq name other ≡ b → (decl : Decl) → declaration decls other ≡ Some decl → with_value known name v other ≡ declared_value i j decl.what
      set_declared other true e decl is =
          absurd (let f : declaration decls other ≡ None = subst (λ (n : List ℕ). declaration decls n ≡ None) ((bytes_eq-Decides name other).0 e) undeclared in let no : ⊥ = cc in no)
      set_declared other false e decl is = ap (λ b. cond b (Some v) (known other)) e ∙ agrees.declared other decl is

      set_agrees : Agrees (with_assigned scope name kind scale) (with_value known name v)
      set_agrees = record {
        declared = λ other decl is. set_declared other (bytes_eq name other) refl decl is;
        assigned = λ other certain. set_assigned other (bytes_eq name other) refl certain;
      }

  set_typed : (growth : GrowthIsAnOrder) (assignments_fit : AssignmentsFit) (place : ℕ) (name : List ℕ) (value : Expr) (scope after : Scope) → IsLimited value → assignment_after decls place name value scope ≡ Ok after → Grows after.earlier all → IsTypedStep scope after (record { count = 1; slots = 0; run = assign decls coincident name value })
  set_typed growth assignments_fit place name value scope after small e later =
      let is : IsAssignment decls name value scope after = assignments_fit decls place name value scope after e in
      let ends = with_assigned scope name is.kind is.scale in
      let grows : Grows ends.earlier all = subst (λ (s : Scope). Grows s.earlier all) is.ends later in
      let first : Grows scope.earlier all = growth.then scope.earlier ends.earlier all (record { more = record { name = name; kind = is.kind; scale = is.scale } ∷ []; is = refl }) grows in
      subst (λ (s : Scope). IsTypedStep scope s (record { count = 1; slots = 0; run = assign decls coincident name value })) (sym is.ends)
      (λ n slot state agrees.
      own_goes n ends (IsTypedAs is.kind is.scale) (number_value_of state.known value) (λ held. Ok (record { known = with_value state.known name held; given = state.given }))
      (number_answers is.kind is.scale (value_of state.known value) (fits_as scope state.known agrees first (types.Scaled is.kind is.scale) small is.typed))
      (λ v typed. set_agrees scope name is.kind is.scale is.undeclared state.known agrees v typed grows))

  -- ---- name += value;

  give_typed : (contributions_fit : ContributionsFit) (place : ℕ) (name : List ℕ) (value : Expr) (scope after : Scope) → IsLimited value → (contribution_check decls place name value scope >> Ok scope) ≡ Ok after → Grows after.earlier all → IsTypedStep scope after (record { count = 1; slots = 1; run = give decls coincident name value })
  give_typed contributions_fit place name value scope after small e later =
      let checked = passed_first (contribution_check decls place name value scope) (Ok scope) after e in
      let ends = passed_then (contribution_check decls place name value scope) (Ok scope) after e in
      let same : scope ≡ after = cc in
      let given = contributions_fit decls place name value scope checked in
      let first : Grows scope.earlier all = subst (λ (s : Scope). Grows s.earlier all) (sym same) later in
      subst (λ (s : Scope). IsTypedStep scope s (record { count = 1; slots = 1; run = give decls coincident name value })) same
      (λ n slot state agrees.
      own_goes n scope (λ (v : Value). Unit {0}) (contribution_of state.known (force_type (declaration decls name)) value) (λ g. Ok (record { known = state.known; given = slice_set state.given slot (Some g) }))
      (subst (λ (t : Option ExprType). AnswerIs (λ (v : Value). Unit {0}) (contribution_of state.known t value)) (sym given.3)
      (taken_answers given.0 given.1 (value_of state.known value) (fits_as scope state.known agrees first (types.Scaled given.0 given.1) small given.2)))
      (λ v h. agrees))

  -- ---- if

  condition_is : (place : ℕ) (type : ExprType) → condition_check place type ≡ pass → type ≡ types.Condition
  condition_is place types.Condition e = refl
  condition_is place (types.Scaled kind scale) e = absurd (let no : ⊥ = cc in no)

  module _ (condition : Expr) (scope first second : Scope) (body others : Statements) (small : IsLimited condition) (is : type_of decls scope condition ≡ Ok types.Condition)
      (begins : Grows scope.earlier all) (one : IsTypedStep scope first body) (two : IsTypedStep (before_other scope first) second others) where
    if_typed : IsTypedStep scope (joined first second) (record { count = 1 + body.count + others.count; slots = body.slots + others.slots; run = choose decls coincident condition body others })
    if_typed n slot state agrees =
        own_goes n (joined first second) (λ (b : Bool). Unit {0}) (truth_of state.known condition) (λ holds. cond holds (body.run (n + 1) slot state) (others.run (n + 1 + body.count) (slot + body.slots) state))
        (truth_answers (value_of state.known condition) (fits_as scope state.known agrees begins types.Condition small is))
        (λ b h. either b) where
          certain_in_both : (name : List ℕ) → is_among (joined first second).certain name ≡ true → (is_among first.certain name ≡ true) × (is_among second.certain name ≡ true)
          certain_in_both name e = both_hold (is_among first.certain name) (is_among second.certain name) (sym (among_common name first.certain second.certain) ∙ e)

          either : (b : Bool) → Goes (joined first second) (cond b (body.run (n + 1) slot state) (others.run (n + 1 + body.count) (slot + body.slots) state))
          either true = goes_on first (joined first second) (body.run (n + 1) slot state) (one (n + 1) slot state agrees) (weaker first (joined first second) (λ name e. (certain_in_both name e).0))
          either false = goes_on second (joined first second) (others.run (n + 1 + body.count) (slot + body.slots) state)
              (two (n + 1 + body.count) (slot + body.slots) state (weaker scope (before_other scope first) (λ name e. e) state.known agrees)) (weaker second (joined first second) (λ name e. (certain_in_both name e).1))

  -- ---- all

  module _ (only_grow : ScopesOnlyGrow) (growth : GrowthIsAnOrder) (assignments_fit : AssignmentsFit) (contributions_fit : ContributionsFit) where
    before : {ss : List Stmt} → IsLimitedBlock ss → (scope after : Scope) → stmts_after decls ss scope ≡ Ok after → Grows after.earlier all → Grows scope.earlier all
    before {ss = ss} small scope after e later = growth.then scope.earlier after.earlier all (only_grow decls ss scope after small e) later

    mutual
      stmt_typed : {s : Stmt} → IsLimitedStmt s → (scope after : Scope) → stmt_after decls s scope ≡ Ok after → Grows after.earlier all → IsTypedStep scope after (act_meaning decls coincident s.act)
      stmt_typed (limits.set {place = p} {name = n} {value = v} small) scope after e later =
          subst (λ (m : Statements). IsTypedStep scope after m) (sym (set_layer (act_statements decls coincident) at_stmt n v))
          (set_typed growth assignments_fit p n v scope after small (sym (ap (λ f. f p scope) (set_layer (act_after decls) at_stmt_place n v)) ∙ e) later)
      stmt_typed (limits.give {place = p} {name = n} {value = v} small) scope after e later =
          subst (λ (m : Statements). IsTypedStep scope after m) (sym (give_layer (act_statements decls coincident) at_stmt n v))
          (give_typed contributions_fit p n v scope after small (sym (ap (λ f. f p scope) (give_layer (act_after decls) at_stmt_place n v)) ∙ e) later)
      stmt_typed (limits.conditional {place = p} {condition = c} {body = body} {others = others} small one two) scope after e later =
          let e1 = sym (ap (λ f. f p scope) (if_layer (act_after decls) at_stmt_place c body others)) ∙ e in
          let checked = passed_first (if_check decls p c scope) (stmts_after decls body scope >>= (λ first. stmts_after decls others (before_other scope first) >>= (λ second. Ok (joined first second)))) after e1 in
          let e2 = passed_then (if_check decls p c scope) (stmts_after decls body scope >>= (λ first. stmts_after decls others (before_other scope first) >>= (λ second. Ok (joined first second)))) after e1 in
          let r = reached (type_of decls scope c) (condition_check p) tt checked in
          let is : type_of decls scope c ≡ Ok types.Condition = r.is ∙ ap Ok (condition_is p r.value r.then_is) in
          let f = reached (stmts_after decls body scope) _ after e2 in
          let g = reached (stmts_after decls others (before_other scope f.value)) _ after f.then_is in
          let ends = g.then_is in
          let same : joined f.value g.value ≡ after = cc in
          let until_second : Grows g.value.earlier all = subst (λ (s : Scope). Grows s.earlier all) (sym same) later in
          let until_first : Grows f.value.earlier all = before two (before_other scope f.value) g.value g.is until_second in
          subst (λ (m : Statements). IsTypedStep scope after m) (sym (if_layer (act_statements decls coincident) at_stmt c body others))
          (subst (λ (s : Scope). IsTypedStep scope s (record {
            count = 1 + (block_meaning decls coincident body).count + (block_meaning decls coincident others).count;
            slots = (block_meaning decls coincident body).slots + (block_meaning decls coincident others).slots;
            run = choose decls coincident c (block_meaning decls coincident body) (block_meaning decls coincident others);
          })) same
          (if_typed c scope f.value g.value (block_meaning decls coincident body) (block_meaning decls coincident others) small is (before one scope f.value f.is until_first)
          (block_typed one scope f.value f.is until_first) (block_typed two (before_other scope f.value) g.value g.is until_second)))

      pub block_typed : {ss : List Stmt} → IsLimitedBlock ss → (scope after : Scope) → stmts_after decls ss scope ≡ Ok after → Grows after.earlier all → IsTypedStep scope after (block_meaning decls coincident ss)
      block_typed limits.none scope after e later =
          let same : scope ≡ after = cc in
          subst (λ (s : Scope). IsTypedStep scope s (block_meaning decls coincident [])) same (λ n slot state agrees. agrees)
      block_typed (limits.more {stmt = s} {stmts = ss} one others) scope after e later =
          let r = reached (stmt_after decls s scope) (stmts_after decls ss) after e in
          let first = stmt_typed one scope r.value r.is (before others r.value after r.then_is later) in
          let more = block_typed others r.value after r.then_is later in
          λ n slot state agrees. goes_then r.value after ((act_meaning decls coincident s.act).run n slot state) _ (first n slot state agrees) (λ next h. more _ _ next h)
