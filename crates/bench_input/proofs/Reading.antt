-- How the tokens of the benchmark's kernel spell its tree.
use Rattle.std.proofs.Common.{◌≡◌, ℕ, zero, suc, ◌≤◌, Bool, true, ◌&&◌, refl, inl, inr, List, [], ◌∷◌, ◌++◌, length, take, fold, flat_map, length-append, ap, ◌∙◌, pos, arith}
use Rattle.std.specs.Prelude.{codes}
use Rattle.std.proofs.Math.Dec.{leb}
use Rattle.std.proofs.lemmas.Bool.{leb-true}
use Rattle.kern_token.specs.declared.token.Symbol.TheVariants as symbols
use Rattle.kern_token.specs.declared.token.Token.{Token}
use Rattle.kern_token.specs.declared.token.TokenKind.{TokenKind}
use Rattle.kern_token.specs.declared.token.TokenKind.TheVariants as kinds
use Rattle.kern_token.specs.declared.token.Word.{Word}
use Rattle.kern_token.specs.declared.token.Word.TheVariants as words
use Rattle.kern_token.specs.Pieces.{Piece, IsPiece, Begins}
use Rattle.kern_token.specs.Reading.{tokens_of}
use Rattle.kern_token.specs.Stopping.{StopsBefore}
use Rattle.kern_tree.specs.declared.expr.Expr.{Expr}
use Rattle.kern_tree.specs.declared.expr.Form.TheVariants as forms
use Rattle.kern_tree.specs.declared.expr.Op1.TheVariants as op1s
use Rattle.kern_tree.specs.declared.expr.Op2.{Op2}
use Rattle.kern_tree.specs.declared.expr.Op2.TheVariants as op2s
use Rattle.kern_tree.specs.declared.expr.Op3.TheVariants as op3s
use Rattle.kern_tree.specs.declared.kernel.Combine.TheVariants as combines
use Rattle.kern_tree.specs.declared.kernel.DeclKind.{DeclKind}
use Rattle.kern_tree.specs.declared.kernel.DeclKind.TheVariants as declared_as
use Rattle.kern_tree.specs.declared.kernel.Kind.{Kind}
use Rattle.kern_tree.specs.declared.kernel.Kind.TheVariants as kinds_of
use Rattle.kern_tree.specs.declared.stmt.Act.TheVariants as acts
use Rattle.kern_tree.specs.FirstFault.{brackets_after, IsShallow}
use Rattle.kern_tree.specs.Grammar.{node, decl_node, stmt_node, kind, field_of, param, decl, stmt, operator, joined_from_left, two, prim, unary, prod, sum, rel, both, expr_over, expr_within, SpellsKernel}
use Rattle.kern_tree.specs.Rules.{Rule, At, ◌or◌, never}
use Rattle.kern_tree.specs.Nodes.{NodesByForm, kernel_nodes, stmt_nodes}
use Rattle.kern_tree.specs.declared.limits.TheConstants.{MOST_NODES}
use Rattle.bench_input.specs.Kernel.{IsBenchKernel}
use Rattle.bench_input.proofs.Pieces.{bench_pieces, all_pieces_stand, both_pass, splits}
use Rattle.bench_input.proofs.Pieces as lines
use Rattle.bench_input.proofs.Tree.{bench_kernel, name_node, acc_decl, d_value, d_squared, r2_value, r_value, over_r, acc_value, d_stmt, r2_stmt, r_stmt, acc_stmt}
use Rattle.bench_input.proofs.Types.{kernel_typed}

-- what a rule reads first, and the rest
told : {A B : Type 0} {P Q : A → B → Type 0} (a : A) (b : B) → P a b → Q a b → (x : A) × (y : B) × P x y × Q x y
told a b first next = (a, b, first, next)

abbrev at : {A : Type 0} → ℕ → A → At A
at place held = record { place = place; held = held }

abbrev token_at : TokenKind → ℕ → ℕ → Token
token_at kind place end = record { kind = kind; place = place; end = end }

-- ---- declarations

abbrev IsKindWord : Word → Kind → Type 0
IsKindWord spelled of_kind = (place end : ℕ) (rest : List Token) → kind (token_at (kinds.Word spelled) place end ∷ rest) of_kind rest

num_word : IsKindWord words.Num kinds_of.Num
num_word place end rest = inl (told place _ (end, refl) (refl, refl))

vec_word : IsKindWord words.Vec kinds_of.Vec3
vec_word place end rest = inr (told place _ (end, refl) (refl, refl))

field_read : (spelled of : Word) (what : Kind → ℕ → List ℕ → DeclKind) (of_kind : Kind) (place : ℕ) (called field : List ℕ) (rest : List Token) → IsKindWord of of_kind
    → field_of spelled what (tokens_of place (lines.field_line spelled of called field) ++ rest) (decl_node place called (what of_kind 0 field)) rest
field_read spelled of what of_kind place called field rest is =
    told place _ (_, refl) (told of_kind _ (is _ _ _) (told (at _ 0) _ (_, refl) (told (at _ called) _ (_, refl) (told _ _ (_, refl) (told (at _ field) _ (_, refl) (told _ _ (_, refl) (refl, refl)))))))

acc_read : (rest : List Token) → decl (tokens_of 64 lines.declare_acc ++ rest) acc_decl rest
acc_read rest =
    inl (inr (told 64 _ (_, refl) (told kinds_of.Vec3 _ (vec_word _ _ _) (told (at _ 16) _ (_, refl) (told (at _ (codes "acc")) _ (_, refl)
    (told combines.Sum _ (inl (inl (told _ _ (_, refl) (refl, refl)))) (told _ _ (_, refl) (refl, refl))))))))

param_read : (place bits value : ℕ) (bit_digits called value_digits : List ℕ) (rest : List Token)
    → param (tokens_of place (lines.param_line bits bit_digits called value value_digits) ++ rest) (decl_node place called (declared_as.Param bits (pos value))) rest
param_read place bits value bit_digits called value_digits rest =
    told place _ (_, refl) (told (at _ bits) _ (_, refl) (told (at _ called) _ (_, refl) (told _ _ (_, refl)
    (told (pos value) _ (inl (told (at _ value) _ (_, refl) (refl, refl))) (told _ _ (_, refl) (refl, refl))))))

-- ---- expressions

abbrev sums : Rule (At Op2)
sums = operator symbols.Plus op2s.Add or operator symbols.Minus op2s.Sub

abbrev products : Rule (At Op2)
products = operator symbols.Star op2s.Mul or operator symbols.Slash op2s.Div

-- one operand, and two
only : (ops : Rule (At Op2)) (operand : Rule Expr) (tokens : List Token) (e : Expr) (rest : List Token)
    → operand tokens e rest → joined_from_left ops operand tokens e rest
only ops operand tokens e rest h = (e, rest, h, ([], rest, refl, (refl, refl)))

pair : (ops : Rule (At Op2)) (operand : Rule Expr) (tokens : List Token) (a : Expr) (t : List Token) (op : At Op2) (u : List Token) (b : Expr) (rest : List Token)
    → operand tokens a t → ops t op u → operand u b rest → joined_from_left ops operand tokens (two a (op, b)) rest
pair ops operand tokens a t op u b rest h o k = (a, t, h, ((op, b) ∷ [], rest, (rest, (op, u, o, (b, rest, k, (refl, refl))), refl), (refl, refl)))

module _ (inside : Rule Expr) where
  unary_of : (tokens : List Token) (e : Expr) (rest : List Token) → prim inside tokens e rest → unary inside tokens e rest
  unary_of tokens e rest h = inl (e, rest, h, ([], rest, refl, (refl, refl)))

  prod_of : (tokens : List Token) (e : Expr) (rest : List Token) → prim inside tokens e rest → prod inside tokens e rest
  prod_of tokens e rest h = only products (unary inside) tokens e rest (unary_of tokens e rest h)

  expr_of : (tokens : List Token) (e : Expr) (rest : List Token) → sum inside tokens e rest → expr_over inside tokens e rest
  expr_of tokens e rest h =
      only (operator symbols.Or op2s.Or) (both inside) tokens e rest
      (only (operator symbols.And op2s.And) (rel inside) tokens e rest (e, rest, h, inl (refl, refl)))

  alone : (tokens : List Token) (e : Expr) (rest : List Token) → prim inside tokens e rest → expr_over inside tokens e rest
  alone tokens e rest h = expr_of tokens e rest (only sums (prod inside) tokens e rest (prod_of tokens e rest h))

  named : (place end : ℕ) (called : List ℕ) (rest : List Token) → prim inside (token_at (kinds.Name called) place end ∷ rest) (name_node place called) rest
  named place end called rest = inl (inl (inr (at place called, rest, (end, refl), (refl, refl))))

  name_alone : (place end : ℕ) (called : List ℕ) (rest : List Token) → expr_over inside (token_at (kinds.Name called) place end ∷ rest) (name_node place called) rest
  name_alone place end called rest = alone (token_at (kinds.Name called) place end ∷ rest) (name_node place called) rest (named place end called rest)

muldiv_read : (inside : Rule Expr) {place end p e q f r g s h : ℕ} {a b c : Expr} {ts us vs rest : List Token}
    → inside ts a (token_at (kinds.Symbol symbols.Comma) q f ∷ us) → inside us b (token_at (kinds.Symbol symbols.Comma) r g ∷ vs) → inside vs c (token_at (kinds.Symbol symbols.CloseRound) s h ∷ rest)
    → expr_over inside (token_at (kinds.Word words.Muldiv) place end ∷ token_at (kinds.Symbol symbols.OpenRound) p e ∷ ts) (node place (forms.Three op3s.Muldiv a b c)) rest
muldiv_read inside {place = place} {a = a} {b = b} {c = c} x y z =
    alone inside _ (node place (forms.Three op3s.Muldiv a b c)) _
    (inr (inl (inr (told place _ (_, refl) (told _ _ (_, refl) (told a _ x (told _ _ (_, refl) (told b _ y (told _ _ (_, refl) (told c _ z (told _ _ (_, refl) (refl, refl))))))))))))

-- ---- statements

-- an assignment of a value that stands so many brackets deep
set_read : (depth q f : ℕ) {place end p e : ℕ} {called : List ℕ} {value : Expr} {ts rest : List Token} → expr_within depth ts value (token_at (kinds.Symbol symbols.Semicolon) q f ∷ rest)
    → stmt (token_at (kinds.Name called) place end ∷ token_at (kinds.Symbol symbols.Assign) p e ∷ ts) (stmt_node place (acts.Set called value)) rest
set_read depth q f {place = place} {called = called} {value = value} h =
    (0, inl (told (at place called) _ (_, refl) (told acts.Set _ (inl (told _ _ (_, refl) (refl, refl))) (told value _ (depth, h) (told _ _ (_, refl) (refl, refl))))))

give_read : (depth q f : ℕ) {place end p e : ℕ} {called : List ℕ} {value : Expr} {ts rest : List Token} → expr_within depth ts value (token_at (kinds.Symbol symbols.Semicolon) q f ∷ rest)
    → stmt (token_at (kinds.Name called) place end ∷ token_at (kinds.Symbol symbols.Add) p e ∷ ts) (stmt_node place (acts.Give called value)) rest
give_read depth q f {place = place} {called = called} {value = value} h =
    (0, inl (told (at place called) _ (_, refl) (told acts.Give _ (inr (told _ _ (_, refl) (refl, refl))) (told value _ (depth, h) (told _ _ (_, refl) (refl, refl))))))

reads_d : (rest : List Token) → stmt (tokens_of 148 lines.assign_d ++ rest) d_stmt rest
reads_d rest =
    let xj = prod_of never _ _ _ (named never 152 154 (codes "xj") _) in
    let xi = prod_of never _ _ _ (named never 157 159 (codes "xi") _) in
    set_read 0 _ _ (expr_of never _ d_value _ (pair sums (prod never) _ _ _ (at 155 op2s.Sub) _ _ _ xj (inr (told 155 _ (_, refl) (refl, refl))) xi))

reads_r2 : (rest : List Token) → stmt (tokens_of 161 lines.assign_r2 ++ rest) r2_stmt rest
reads_r2 rest =
    let left = unary_of never _ _ _ (named never 166 167 (codes "d") _) in
    let right = unary_of never _ _ _ (named never 170 171 (codes "d") _) in
    let squared = pair products (unary never) _ _ _ (at 168 op2s.Mul) _ _ _ left (inl (told 168 _ (_, refl) (refl, refl))) right in
    let softening = prod_of never _ _ _ (named never 174 175 (codes "e") _) in
    set_read 0 _ _ (expr_of never _ r2_value _ (pair sums (prod never) _ d_squared _ (at 172 op2s.Add) _ _ _ squared (inl (told 172 _ (_, refl) (refl, refl))) softening))

reads_r : (rest : List Token) → stmt (tokens_of 177 lines.assign_r ++ rest) r_stmt rest
reads_r rest =
    set_read 1 _ _ (alone (expr_within 0) _ r_value _
    (inr (inl (inl (inl (inl (inl (inl (told 181 _ (_, refl) (told _ _ (_, refl) (told (name_node 187 (codes "r2")) _ (name_alone never 187 189 (codes "r2") _) (told _ _ (_, refl) (refl, refl)))))))))))))

gives_acc : (rest : List Token) → stmt (tokens_of 192 lines.give_acc ++ rest) acc_stmt rest
gives_acc rest =
    let inner = muldiv_read (expr_within 0) (name_alone never 213 214 (codes "g") _) (name_alone never 216 218 (codes "mj") _) (name_alone never 220 221 (codes "r") _) in
    give_read 2 _ _ (muldiv_read (expr_within 1) inner (name_alone (expr_within 0) 224 225 (codes "d") _) (name_alone (expr_within 0) 227 229 (codes "r2") _))

-- ---- the whole text

abbrev bench_tokens : List Token
bench_tokens = tokens_of 0 bench_pieces

spelled : SpellsKernel bench_tokens bench_kernel
spelled =
    let xi = inl (inl (inl (field_read words.Epi words.Vec declared_as.Epi kinds_of.Vec3 0 (codes "xi") (codes "pos") _ vec_word))) in
    let xj = inl (inl (inr (field_read words.Epj words.Vec declared_as.Epj kinds_of.Vec3 21 (codes "xj") (codes "pos") _ vec_word))) in
    let mj = inl (inl (inr (field_read words.Epj words.Num declared_as.Epj kinds_of.Num 42 (codes "mj") (codes "mass") _ num_word))) in
    let g = inr (param_read 87 16 72057594037927936 (codes "16") (codes "g") (codes "72057594037927936") _) in
    let e = inr (param_read 120 0 1099511627776 (codes "0") (codes "e") (codes "1099511627776") _) in
    told bench_kernel.decls _ (_, xi, (_, xj, (_, mj, (_, acc_read _, (_, g, (_, e, refl))))))
    (told bench_kernel.body _ (_, reads_d _, (_, reads_r2 _, (_, reads_r _, (_, gives_acc [], refl)))) (refl, refl))

-- ---- brackets

abbrev stays_shallow : ℕ → List Token → Bool
stays_shallow depth [] = true
stays_shallow depth (t ∷ ts) = leb (brackets_after depth t.kind) 32 && stays_shallow (brackets_after depth t.kind) ts

taken : (ts : List Token) (n depth : ℕ) → depth ≤ 32 → stays_shallow depth ts ≡ true → fold (λ (d : ℕ) (t : Token). brackets_after d t.kind) depth (take n ts) ≤ 32
taken [] zero depth limit h = limit
taken [] (suc n) depth limit h = limit
taken (t ∷ ts) zero depth limit h = limit
taken (t ∷ ts) (suc n) depth limit h =
    let next = brackets_after depth t.kind in
    let parts = both_pass (leb next 32) (stays_shallow next ts) h in
    taken ts n next (leb-true next 32 parts.0) parts.1

shallow : IsShallow bench_tokens
shallow n = taken bench_tokens n 0 (omega arith) refl

-- ---- nodes

module _ (nodes : NodesByForm) where
  d_nodes : stmt_nodes d_stmt ≡ 148 ∷ 152 ∷ 155 ∷ 157 ∷ []
  d_nodes =
      nodes.set 148 (codes "d") d_value
      ∙ (λ i. 148 ∷ (nodes.two 155 op2s.Sub (name_node 152 (codes "xj")) (name_node 157 (codes "xi"))
      ∙ (λ j. nodes.name 152 (codes "xj") j ++ 155 ∷ nodes.name 157 (codes "xi") j)) i)

  r2_nodes : stmt_nodes r2_stmt ≡ 161 ∷ 166 ∷ 168 ∷ 170 ∷ 172 ∷ 174 ∷ []
  r2_nodes =
      nodes.set 161 (codes "r2") r2_value
      ∙ (λ i. 161 ∷ (nodes.two 172 op2s.Add d_squared (name_node 174 (codes "e"))
      ∙ (λ j. (nodes.two 168 op2s.Mul (name_node 166 (codes "d")) (name_node 170 (codes "d"))
      ∙ (λ k. nodes.name 166 (codes "d") k ++ 168 ∷ nodes.name 170 (codes "d") k)) j ++ 172 ∷ nodes.name 174 (codes "e") j)) i)

  r_nodes : stmt_nodes r_stmt ≡ 177 ∷ 181 ∷ 187 ∷ []
  r_nodes =
      nodes.set 177 (codes "r") r_value
      ∙ (λ i. 177 ∷ (nodes.one 181 op1s.Isqrt (name_node 187 (codes "r2")) ∙ (λ j. 181 ∷ nodes.name 187 (codes "r2") j)) i)

  acc_nodes : stmt_nodes acc_stmt ≡ 192 ∷ 199 ∷ 206 ∷ 213 ∷ 216 ∷ 220 ∷ 224 ∷ 227 ∷ []
  acc_nodes =
      nodes.give 192 (codes "acc") acc_value
      ∙ (λ i. 192 ∷ (nodes.three 199 op3s.Muldiv over_r (name_node 224 (codes "d")) (name_node 227 (codes "r2"))
      ∙ (λ j. 199 ∷ ((nodes.three 206 op3s.Muldiv (name_node 213 (codes "g")) (name_node 216 (codes "mj")) (name_node 220 (codes "r"))
      ∙ (λ k. 206 ∷ (nodes.name 213 (codes "g") k ++ nodes.name 216 (codes "mj") k ++ nodes.name 220 (codes "r") k))) j
      ++ nodes.name 224 (codes "d") j ++ nodes.name 227 (codes "r2") j))) i)

  few_nodes : length (kernel_nodes bench_kernel) ≤ MOST_NODES
  few_nodes = omega (
    arith,
    ap length d_nodes,
    ap length r2_nodes,
    ap length r_nodes,
    ap length acc_nodes,
    length-append (stmt_nodes d_stmt) (flat_map stmt_nodes (r2_stmt ∷ r_stmt ∷ acc_stmt ∷ [])),
    length-append (stmt_nodes r2_stmt) (flat_map stmt_nodes (r_stmt ∷ acc_stmt ∷ [])),
    length-append (stmt_nodes r_stmt) (flat_map stmt_nodes (acc_stmt ∷ [])),
    length-append (stmt_nodes acc_stmt) [],
  )

-- ---- the kernel

module _ (stopped : (piece : Piece) (rest : List ℕ) → IsPiece piece → StopsBefore piece rest → Begins (piece.bytes ++ rest) piece rest) where
  pub kernel_stands : NodesByForm → IsBenchKernel bench_kernel
  kernel_stands nodes = (
    bench_tokens,
    record { pieces = bench_pieces; whole = splits stopped bench_pieces all_pieces_stand; tokens_are = refl },
    record { spelled = spelled; shallow = shallow; few = few_nodes nodes },
    kernel_typed,
  )
