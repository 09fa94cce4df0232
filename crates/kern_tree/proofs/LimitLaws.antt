-- What the grammar reads of a text's tokens is within the limits of numbers and scales.
use Rattle.std.proofs.Common.{ℕ, zero, suc, ◌<◌, ◌≤◌, ◌^◌, pos, inl, inr, sym, ap, subst, List, [], ◌∷◌, fold, arith}
use Rattle.std.specs.Prelude.{neg_ℤ, FitsSigned}
use Rattle.std.proofs.lemmas.Int.{ints}
use Rattle.std.specs.Int.{w64}
use Rattle.std.specs.List.{AllByRecursion}
use Rattle.kern_token.specs.declared.limits.TheConstants.{MOST_SCALE}
use Rattle.kern_token.specs.declared.token.Symbol.{Symbol}
use Rattle.kern_token.specs.declared.token.Token.{Token}
use Rattle.kern_token.specs.declared.token.TokenKind.{TokenKind}
use Rattle.kern_token.specs.declared.token.TokenKind.TheVariants as kinds
use Rattle.kern_token.specs.declared.token.Word.{Word}
use Rattle.kern_token.specs.declared.token.Word.TheVariants as words
use Rattle.kern_token.specs.Pieces.{IsToken}
use Rattle.kern_token.specs.Reading.{IsInLimit, Spells, StandsIn}
use Rattle.kern_tree.specs.declared.expr.Expr.{Expr}
use Rattle.kern_tree.specs.declared.expr.Form.TheVariants as forms
use Rattle.kern_tree.specs.declared.expr.Op1.{Op1}
use Rattle.kern_tree.specs.declared.expr.Op1.TheVariants as op1s
use Rattle.kern_tree.specs.declared.expr.Op2.{Op2}
use Rattle.kern_tree.specs.declared.expr.Op2.TheVariants as op2s
use Rattle.kern_tree.specs.declared.expr.Op3.{Op3}
use Rattle.kern_tree.specs.declared.expr.Op3.TheVariants as op3s
use Rattle.kern_tree.specs.declared.kernel.Decl.{Decl}
use Rattle.kern_tree.specs.declared.kernel.DeclKind.{DeclKind}
use Rattle.kern_tree.specs.declared.kernel.DeclKind.TheVariants as declared_as
use Rattle.kern_tree.specs.declared.kernel.Kernel.{Kernel}
use Rattle.kern_tree.specs.declared.kernel.Kind.{Kind}
use Rattle.kern_tree.specs.declared.stmt.Act.{Act}
use Rattle.kern_tree.specs.declared.stmt.Act.TheVariants as acts
use Rattle.kern_tree.specs.declared.stmt.Stmt.{Stmt}
use Rattle.pf_geom.specs.declared.axis.Axis.{Axis}
use Rattle.kern_tree.specs.Grammar.{two, part, stmt_node, operator, joined_from_left, axis, literal, variable, component, bracketed, call1, call2, call3, to_call, call, prim, post, unary, prod, sum, relation, rel, both, expr_over, expr_within, expr, assignment, block, conditional, stmt_over, stmt_within, stmt, kind, combine, field_of, force, signed, param, decl, decl_node, SpellsKernel}
use Rattle.kern_tree.specs.Rules.{Rule, At, ◌>>=◌, ◌>>◌, ◌or◌, pure, many, never, token, symbol, word, name, number, scale}
use Rattle.kern_tree.specs.Limits as limited
use Rattle.kern_tree.specs.Limits.{IsLimited, IsLimitedStmt, IsLimitedBlock, HasLimitedScale, HasLimitedValue, KeepsLimits, ParsedKernelsKeepLimits}

-- ---- rules

-- the number or the scale of a token is in its limit
abbrev TokenFits : TokenKind → Type 0
TokenFits (kinds.Number n) = n < 2 ^ 63
TokenFits (kinds.Scale s) = s ≤ MOST_SCALE
TokenFits _ = Unit {0}

abbrev Fit : List Token → Type 0
Fit = AllByRecursion (λ (t : Token). TokenFits t.kind)

-- the rule reads something of this kind from tokens that fit, and leaves such tokens
abbrev Keeps : {A : Type 0} → (A → Type 0) → Rule A → Type 0
Keeps {A} P rule = (tokens : List Token) (value : A) (rest : List Token) → rule tokens value rest → Fit tokens → P value × Fit rest

abbrev Any : {A : Type 0} → A → Type 0
Any value = Unit {0}

abbrev Fits : Expr → Type 0
Fits e = IsLimited e

abbrev StmtFits : Stmt → Type 0
StmtFits s = IsLimitedStmt s

keeps_then : {A B : Type 0} (P : A → Type 0) (Q : B → Type 0) {first : Rule A} {next : A → Rule B} → Keeps P first → ((a : A) → P a → Keeps Q (next a)) → Keeps Q (first >>= next)
keeps_then P Q f g tokens value rest h fit =
    let one = f tokens h.0 h.1 h.2 fit in
    g h.0 one.0 h.1 value rest h.3 one.1

keeps_or : {A : Type 0} (P : A → Type 0) {left right : Rule A} → Keeps P left → Keeps P right → Keeps P (left or right)
keeps_or P f g tokens value rest (inl h) fit = f tokens value rest h fit
keeps_or P f g tokens value rest (inr h) fit = g tokens value rest h fit

keeps_pure : {A : Type 0} (P : A → Type 0) (value : A) → P value → Keeps P (pure value)
keeps_pure P value holds tokens read rest h fit = (subst P (sym h.0) holds, subst Fit h.1 fit)

keeps_many : {A : Type 0} (P : A → Type 0) {rule : Rule A} → Keeps P rule → Keeps (AllByRecursion P) (many rule)
keeps_many P f tokens [] rest h fit = (tt, subst Fit h fit)
keeps_many P f tokens (value ∷ values) rest h fit =
    let one = f tokens value h.0 h.1 fit in
    let more = keeps_many P f h.0 values rest h.2 one.1 in
    ((one.0, more.0), more.1)

keeps_token : (of : TokenKind) → Keeps Any (token of)
keeps_token of tokens place rest h fit = (tt, (subst Fit h.1 fit).1)

keeps_name : Keeps Any name
keeps_name tokens found rest h fit = (tt, (subst Fit h.1 fit).1)

keeps_number : Keeps (λ (found : At ℕ). found.held < 2 ^ 63) number
keeps_number tokens found rest h fit = subst Fit h.1 fit

keeps_scale : Keeps (λ (found : At ℕ). found.held ≤ MOST_SCALE) scale
keeps_scale tokens found rest h fit = subst Fit h.1 fit

-- ---- expressions

keeps_literal : Keeps Fits literal
keeps_literal =
    keeps_then (λ (found : At ℕ). found.held < 2 ^ 63) Fits keeps_number (λ digits small.
    keeps_then (λ s. s ≤ MOST_SCALE) Fits (keeps_or (λ s. s ≤ MOST_SCALE) (keeps_then (λ (found : At ℕ). found.held ≤ MOST_SCALE) (λ s. s ≤ MOST_SCALE) keeps_scale (λ written limit. keeps_pure (λ s. s ≤ MOST_SCALE) written.held limit)) (keeps_pure (λ s. s ≤ MOST_SCALE) 0 (let e : 0 ≤ MOST_SCALE = omega arith in e))) (λ bits limit.
    keeps_pure Fits _ (limited.literal small limit)))

keeps_variable : Keeps Fits variable
keeps_variable = keeps_then Any Fits keeps_name (λ called any. keeps_pure Fits _ limited.name)

keeps_operator : {A : Type 0} (spelled : Symbol) (op : A) → Keeps Any (operator spelled op)
keeps_operator spelled op = keeps_then Any Any (keeps_token (kinds.Symbol spelled)) (λ place any. keeps_pure Any _ tt)

two_fits : (first : Expr) (more : At Op2 × Expr) → Fits first → Fits more.1 → Fits (two first more)
two_fits first more h k = limited.two h k

all_fit : (first : Expr) (more : List (At Op2 × Expr)) → Fits first → AllByRecursion (λ (m : At Op2 × Expr). Fits m.1) more → Fits (fold two first more)
all_fit first [] h k = h
all_fit first (m ∷ more) h k = all_fit (two first m) more (two_fits first m h k.0) k.1

keeps_joined : (operators : Rule (At Op2)) (operand : Rule Expr) → Keeps Any operators → Keeps Fits operand → Keeps Fits (joined_from_left operators operand)
keeps_joined operators operand f g =
    keeps_then Fits Fits g (λ first first_fits.
    keeps_then (AllByRecursion (λ (m : At Op2 × Expr). Fits m.1)) Fits (keeps_many (λ (m : At Op2 × Expr). Fits m.1) (keeps_then Any (λ (m : At Op2 × Expr). Fits m.1) f (λ op any.
    keeps_then Fits (λ (m : At Op2 × Expr). Fits m.1) g (λ right right_fits.
    keeps_pure (λ (m : At Op2 × Expr). Fits m.1) (op, right) right_fits)))) (λ more more_fit.
    keeps_pure Fits _ (all_fit first more first_fits more_fit)))

parts_fit : (whole : Expr) (parts : List (At Axis)) → Fits whole → Fits (fold part whole parts)
parts_fit whole [] h = h
parts_fit whole (p ∷ parts) h = parts_fit (part whole p) parts (limited.part h)

keeps_axis : Keeps Any axis
keeps_axis tokens along rest h fit = (tt, (subst Fit (h.1).1 fit).1)

keeps_component : Keeps Any component
keeps_component = keeps_then Any Any (keeps_token _) (λ place any. keeps_then Any Any keeps_axis (λ along any'. keeps_pure Any _ tt))

module _ (inside : Rule Expr) (g : Keeps Fits inside) where
  keeps_symbol : (s : Symbol) → Keeps Any (symbol s)
  keeps_symbol s = keeps_token (kinds.Symbol s)

  keeps_bracketed : Keeps Fits (bracketed inside)
  keeps_bracketed = keeps_then Any Fits (keeps_symbol _) (λ p any. keeps_then Fits Fits g (λ e fits. keeps_then Any Fits (keeps_symbol _) (λ q any'. keeps_pure Fits e fits)))

  keeps_call1 : (w : Word) (op : Op1) → Keeps Fits (call1 inside w (forms.One op))
  keeps_call1 w op =
      keeps_then Any Fits (keeps_token (kinds.Word w)) (λ place any. keeps_then Any Fits (keeps_symbol _) (λ p any'.
      keeps_then Fits Fits g (λ a fits. keeps_then Any Fits (keeps_symbol _) (λ q any''. keeps_pure Fits _ (limited.one fits)))))

  keeps_call2 : (w : Word) (op : Op2) → Keeps Fits (call2 inside w (forms.Two op))
  keeps_call2 w op =
      keeps_then Any Fits (keeps_token (kinds.Word w)) (λ place any. keeps_then Any Fits (keeps_symbol _) (λ p any'.
      keeps_then Fits Fits g (λ a fa. keeps_then Any Fits (keeps_symbol _) (λ q any''.
      keeps_then Fits Fits g (λ b fb. keeps_then Any Fits (keeps_symbol _) (λ r any'''. keeps_pure Fits _ (limited.two fa fb)))))))

  keeps_call3 : (w : Word) (op : Op3) → Keeps Fits (call3 inside w (forms.Three op))
  keeps_call3 w op =
      keeps_then Any Fits (keeps_token (kinds.Word w)) (λ place any. keeps_then Any Fits (keeps_symbol _) (λ p any'.
      keeps_then Fits Fits g (λ a fa. keeps_then Any Fits (keeps_symbol _) (λ q any''.
      keeps_then Fits Fits g (λ b fb. keeps_then Any Fits (keeps_symbol _) (λ r any'''.
      keeps_then Fits Fits g (λ c fc. keeps_then Any Fits (keeps_symbol _) (λ s any''''. keeps_pure Fits _ (limited.three fa fb fc)))))))))

  keeps_to : Keeps Fits (to_call inside)
  keeps_to =
      keeps_then Any Fits (keeps_token (kinds.Word words.To)) (λ place any. keeps_then Any Fits (keeps_symbol _) (λ p any'.
      keeps_then (λ (found : At ℕ). found.held < 2 ^ 63) Fits keeps_number (λ bits small. keeps_then Any Fits (keeps_symbol _) (λ q any''.
      keeps_then Fits Fits g (λ a fa. keeps_then Any Fits (keeps_symbol _) (λ r any'''. keeps_pure Fits _ (limited.to fa)))))))

  keeps_call : Keeps Fits (call inside)
  keeps_call =
      keeps_or Fits (keeps_or Fits (keeps_or Fits (keeps_or Fits (keeps_or Fits (keeps_or Fits (keeps_call1 words.Isqrt op1s.Isqrt) (keeps_call1 words.Abs op1s.Abs)) keeps_to)
      (keeps_call2 words.Min op2s.Least)) (keeps_call2 words.Max op2s.Most)) (keeps_call3 words.Muldiv op3s.Muldiv)) (keeps_call3 words.Vec op3s.Build)

  keeps_prim : Keeps Fits (prim inside)
  keeps_prim = keeps_or Fits (keeps_or Fits (keeps_or Fits keeps_literal keeps_variable) keeps_bracketed) keeps_call

  keeps_post : Keeps Fits (post inside)
  keeps_post = keeps_then Fits Fits keeps_prim (λ whole fits. keeps_then (AllByRecursion Any) Fits (keeps_many Any keeps_component) (λ parts any. keeps_pure Fits _ (parts_fit whole parts fits)))

  keeps_unary : Keeps Fits (unary inside)
  keeps_unary = keeps_or Fits keeps_post (keeps_then Any Fits (keeps_or Any (keeps_operator _ _) (keeps_operator _ _)) (λ op any. keeps_then Fits Fits keeps_post (λ a fits. keeps_pure Fits _ (limited.one fits))))

  keeps_prod : Keeps Fits (prod inside)
  keeps_prod = keeps_joined _ (unary inside) (keeps_or Any (keeps_operator _ _) (keeps_operator _ _)) keeps_unary

  keeps_sum : Keeps Fits (sum inside)
  keeps_sum = keeps_joined _ (prod inside) (keeps_or Any (keeps_operator _ _) (keeps_operator _ _)) keeps_prod

  keeps_relation : Keeps Any (relation inside)
  keeps_relation = keeps_or Any (keeps_or Any (keeps_or Any (keeps_or Any (keeps_or Any (keeps_operator _ _) (keeps_operator _ _)) (keeps_operator _ _)) (keeps_operator _ _)) (keeps_operator _ _)) (keeps_operator _ _)

  keeps_rel : Keeps Fits (rel inside)
  keeps_rel =
      keeps_then Fits Fits keeps_sum (λ left fits. keeps_or Fits (keeps_pure Fits left fits) (keeps_then Any Fits keeps_relation (λ op any.
      keeps_then Fits Fits keeps_sum (λ right fits'. keeps_pure Fits _ (two_fits left (op, right) fits fits')))))

  keeps_both : Keeps Fits (both inside)
  keeps_both = keeps_joined _ (rel inside) (keeps_operator _ _) keeps_rel

  keeps_over : Keeps Fits (expr_over inside)
  keeps_over = keeps_joined _ (both inside) (keeps_operator _ _) keeps_both

keeps_within : (n : ℕ) → Keeps Fits (expr_within n)
keeps_within zero = keeps_over never (λ tokens value rest h fit. absurd h)
keeps_within (suc n) = keeps_over (expr_within n) (keeps_within n)

keeps_expr : Keeps Fits expr
keeps_expr tokens value rest h fit = keeps_within h.0 tokens value rest h.1 fit

-- ---- statements

all_stmts_fit : (ss : List Stmt) → AllByRecursion StmtFits ss → IsLimitedBlock ss
all_stmts_fit [] h = limited.none
all_stmts_fit (s ∷ ss) h = limited.more h.0 (all_stmts_fit ss h.1)

-- an act makes a statement that fits, of any value that fits
abbrev Makes : (List ℕ → Expr → Act) → Type 0
Makes act = (place : ℕ) (target : List ℕ) (value : Expr) → Fits value → StmtFits (stmt_node place (act target value))

keeps_assignment : Keeps StmtFits assignment
keeps_assignment =
    keeps_then Any StmtFits keeps_name (λ target any.
    keeps_then Makes StmtFits (keeps_or Makes
    (keeps_then Any Makes (keeps_token _) (λ p any'. keeps_pure Makes acts.Set (λ place t e fits. limited.set fits)))
    (keeps_then Any Makes (keeps_token _) (λ p any'. keeps_pure Makes acts.Give (λ place t e fits. limited.give fits)))) (λ act makes.
    keeps_then Fits StmtFits keeps_expr (λ value fits. keeps_then Any StmtFits (keeps_token _) (λ q any'. keeps_pure StmtFits _ (makes target.place target.held value fits)))))

module _ (inside : Rule Stmt) (g : Keeps StmtFits inside) where
  keeps_block : Keeps (AllByRecursion StmtFits) (block inside)
  keeps_block =
      keeps_then Any (AllByRecursion StmtFits) (keeps_token _) (λ p any. keeps_then (AllByRecursion StmtFits) (AllByRecursion StmtFits) (keeps_many StmtFits g) (λ body fits.
      keeps_then Any (AllByRecursion StmtFits) (keeps_token _) (λ q any'. keeps_pure (AllByRecursion StmtFits) body fits)))

  keeps_else : Keeps (AllByRecursion StmtFits) ((word words.Else >> block inside) or pure [])
  keeps_else = keeps_or (AllByRecursion StmtFits) (keeps_then Any (AllByRecursion StmtFits) (keeps_token _) (λ p any. keeps_block)) (keeps_pure (AllByRecursion StmtFits) [] tt)

  keeps_conditional : Keeps StmtFits (conditional inside)
  keeps_conditional =
      keeps_then Any StmtFits (keeps_token _) (λ place any. keeps_then Fits StmtFits keeps_expr (λ condition fits.
      keeps_then (AllByRecursion StmtFits) StmtFits keeps_block (λ body first. keeps_then (AllByRecursion StmtFits) StmtFits keeps_else (λ others second.
      keeps_pure StmtFits _ (limited.conditional fits (all_stmts_fit body first) (all_stmts_fit others second))))))

  keeps_stmt_over : Keeps StmtFits (stmt_over inside)
  keeps_stmt_over = keeps_or StmtFits keeps_assignment keeps_conditional

keeps_stmt_within : (n : ℕ) → Keeps StmtFits (stmt_within n)
keeps_stmt_within zero = keeps_stmt_over never (λ tokens value rest h fit. absurd h)
keeps_stmt_within (suc n) = keeps_stmt_over (stmt_within n) (keeps_stmt_within n)

keeps_stmt : Keeps StmtFits stmt
keeps_stmt tokens value rest h fit = keeps_stmt_within h.0 tokens value rest h.1 fit

-- ---- declarations

abbrev WhatFits : Decl → Type 0
WhatFits d = HasLimitedScale d × HasLimitedValue d

keeps_kind : Keeps Any kind
keeps_kind = keeps_or Any (keeps_then Any Any (keeps_token _) (λ p any. keeps_pure Any _ tt)) (keeps_then Any Any (keeps_token _) (λ p any. keeps_pure Any _ tt))

keeps_combine : Keeps Any combine
keeps_combine = keeps_or Any (keeps_or Any (keeps_then Any Any (keeps_token _) (λ p any. keeps_pure Any _ tt)) (keeps_then Any Any (keeps_token _) (λ p any. keeps_pure Any _ tt))) (keeps_then Any Any (keeps_token _) (λ p any. keeps_pure Any _ tt))

abbrev Limited : At ℕ → Type 0
Limited found = found.held ≤ MOST_SCALE

keeps_field : (w : Word) (what : Kind → ℕ → List ℕ → DeclKind) → ((place : ℕ) (called : List ℕ) (of_kind : Kind) (s : ℕ) (field : List ℕ) → s ≤ MOST_SCALE → WhatFits (decl_node place called (what of_kind s field))) → Keeps WhatFits (field_of w what)
keeps_field w what makes =
    keeps_then Any WhatFits (keeps_token _) (λ place any. keeps_then Any WhatFits keeps_kind (λ of_kind any'. keeps_then Limited WhatFits keeps_scale (λ bits limit.
    keeps_then Any WhatFits keeps_name (λ called any''. keeps_then Any WhatFits (keeps_token _) (λ p any'''. keeps_then Any WhatFits keeps_name (λ field any''''.
    keeps_then Any WhatFits (keeps_token _) (λ q any'''''. keeps_pure WhatFits _ (makes place called.held of_kind bits.held field.held limit))))))))

keeps_force : Keeps WhatFits force
keeps_force =
    keeps_then Any WhatFits (keeps_token _) (λ place any. keeps_then Any WhatFits keeps_kind (λ of_kind any'. keeps_then Limited WhatFits keeps_scale (λ bits limit.
    keeps_then Any WhatFits keeps_name (λ called any''. keeps_then Any WhatFits keeps_combine (λ combined any'''. keeps_then Any WhatFits (keeps_token _) (λ q any''''. keeps_pure WhatFits _ (limit, tt)))))))

pos_fits : (n : ℕ) → n < 2 ^ 63 → FitsSigned w64 (pos n)
pos_fits n h = omega (arith, ints)

neg_fits : (n : ℕ) → n < 2 ^ 63 → FitsSigned w64 (neg_ℤ (pos n))
neg_fits zero h = pos_fits 0 h
neg_fits (suc n) h = omega (arith, ints)

keeps_signed : Keeps (FitsSigned w64) signed
keeps_signed =
    keeps_or (FitsSigned w64) (keeps_then (λ (found : At ℕ). found.held < 2 ^ 63) (FitsSigned w64) keeps_number (λ digits small. keeps_pure (FitsSigned w64) _ (pos_fits digits.held small)))
    (keeps_then Any (FitsSigned w64) (keeps_token _) (λ p any. keeps_then (λ (found : At ℕ). found.held < 2 ^ 63) (FitsSigned w64) keeps_number (λ digits small. keeps_pure (FitsSigned w64) _ (neg_fits digits.held small))))

keeps_param : Keeps WhatFits param
keeps_param =
    keeps_then Any WhatFits (keeps_token _) (λ place any. keeps_then Limited WhatFits keeps_scale (λ bits limit. keeps_then Any WhatFits keeps_name (λ called any'.
    keeps_then Any WhatFits (keeps_token _) (λ p any''. keeps_then (FitsSigned w64) WhatFits keeps_signed (λ value fits. keeps_then Any WhatFits (keeps_token _) (λ q any'''. keeps_pure WhatFits _ (limit, fits)))))))

keeps_decl : Keeps WhatFits decl
keeps_decl = keeps_or WhatFits (keeps_or WhatFits (keeps_or WhatFits (keeps_field words.Epi declared_as.Epi (λ p n k s f h. (h, tt))) (keeps_field words.Epj declared_as.Epj (λ p n k s f h. (h, tt)))) keeps_force) keeps_param

-- ---- kernels

token_fits : (of : TokenKind) (bytes : List ℕ) → IsToken of bytes → IsInLimit of → TokenFits of
token_fits (kinds.Name n) bytes h k = tt
token_fits (kinds.Word w) bytes h k = tt
token_fits (kinds.Scale s) bytes h k = h.limit
token_fits (kinds.Number n) bytes h k = k
token_fits (kinds.Symbol s) bytes h k = tt

tokens_fit : (text : List ℕ) (tokens : List Token) → AllByRecursion (StandsIn text) tokens → Fit tokens
tokens_fit text [] h = tt
tokens_fit text (t ∷ tokens) h = (token_fits t.kind _ h.0.spelled h.0.in_limit, tokens_fit text tokens h.1)

pub kernel_fits : (tokens : List Token) (k : Kernel) → SpellsKernel tokens k → Fit tokens → AllByRecursion WhatFits k.decls × IsLimitedBlock k.body
kernel_fits tokens k (ds, t1, read, (ss, t2, read', (same, stop))) fit =
    let first = keeps_many WhatFits keeps_decl tokens ds t1 read fit in
    let second = keeps_many StmtFits keeps_stmt t1 ss t2 read' first.1 in
    (subst (AllByRecursion WhatFits) (ap (λ (x : Kernel). x.decls) (sym same)) first.0, subst IsLimitedBlock (ap (λ (x : Kernel). x.body) (sym same)) (all_stmts_fit ss second.0))

each_first : (ds : List Decl) → AllByRecursion WhatFits ds → AllByRecursion HasLimitedScale ds
each_first [] h = tt
each_first (d ∷ ds) h = ((h.0).0, each_first ds h.1)

each_second : (ds : List Decl) → AllByRecursion WhatFits ds → AllByRecursion HasLimitedValue ds
each_second [] h = tt
each_second (d ∷ ds) h = ((h.0).1, each_second ds h.1)

-- from the law that a text's tokens stand in it
pub keep_limits : ((text : List ℕ) (tokens : List Token) → Spells text tokens → AllByRecursion (StandsIn text) tokens) → ParsedKernelsKeepLimits
keep_limits stand k h =
    let fits = kernel_fits h.tokens k h.parsed.spelled (tokens_fit h.text h.tokens (stand h.text h.tokens h.spelled)) in
    record { decls = each_first k.decls fits.0; values = each_second k.decls fits.0; body = fits.1; few = h.parsed.few }
