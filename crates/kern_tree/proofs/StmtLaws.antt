-- The rules of statements and kernels keep the laws of rules.
use Rattle.std.proofs.Common.{◌≡◌, ℕ, zero, suc, List, [], ◌∷◌, ◌++◌, true, false, flat_map, sym, refl, ap, ◌∙◌, subst, inl, inr, append-nil}
use Rattle.kern_token.specs.declared.token.Symbol.TheVariants as symbols
use Rattle.kern_token.specs.declared.token.Token.{Token}
use Rattle.kern_token.specs.declared.token.Word.TheVariants as words
use Rattle.kern_tree.specs.declared.expr.Expr.{Expr}
use Rattle.kern_tree.specs.declared.kernel.Kernel.{Kernel}
use Rattle.kern_tree.specs.declared.stmt.Act.{Act}
use Rattle.kern_tree.specs.declared.stmt.Act.TheVariants as acts
use Rattle.kern_tree.specs.declared.stmt.Stmt.{Stmt}
use Rattle.kern_tree.specs.Rules.{Rule, ◌>>◌, ◌or◌, pure, never, symbol, word}
use Rattle.kern_tree.specs.Grammar.{stmt_node, assignment, block, conditional, stmt_over, stmt_within, stmt, kernel, SpellsKernel}
use Rattle.kern_tree.specs.Nodes.{expr_nodes, stmt_nodes, kernel_nodes}
use Rattle.kern_tree.proofs.DeclLaws.{none, solid, good_symbol, good_word, node_word, node_name, decl_nodes, good_decl}
use Rattle.kern_tree.proofs.ExprLaws.{good_expr}
use Rattle.kern_tree.proofs.NodeEquations.{nodes-set, nodes-give, nodes-if}
use Rattle.kern_tree.proofs.Shapes.{Shape, Good, Compared, same, longer, shorter, good_pure, good_then, good_when, good_or, good_many, good_any, never_good, good_never, sound_never}

abbrev pub stmt_shape : Shape
stmt_shape = record { nullable = false; first = 0 ∷ 12 ∷ []; cont = 13 ∷ [] }

-- how an assignment acts: by `=` or by `+=`
abbrev pub assigns : Rule (List ℕ → Expr → Act)
assigns = (symbol symbols.Assign >> pure acts.Set) or (symbol symbols.Add >> pure acts.Give)

abbrev pub HasValueNodes : (List ℕ → Expr → Act) → Type 0
HasValueNodes act = (place : ℕ) (target : List ℕ) (value : Expr) → stmt_nodes (stmt_node place (act target value)) ≡ place ∷ expr_nodes value

pub assigns_nodes : (tokens : List Token) (act : List ℕ → Expr → Act) (rest : List Token) → assigns tokens act rest → HasValueNodes act
assigns_nodes tokens act rest (inl h) = subst (λ a. HasValueNodes a) (sym h.3.0) nodes-set
assigns_nodes tokens act rest (inr h) = subst (λ a. HasValueNodes a) (sym h.3.0) nodes-give

pub good_assigns : Good assigns assigns (solid (30 ∷ 31 ∷ [])) none []
good_assigns =
    good_or (good_then (good_symbol symbols.Assign) (λ p.
    good_pure acts.Set none [] refl) refl) (good_then (good_symbol symbols.Add) (λ p.
    good_pure acts.Give none [] refl) refl) refl

pub good_assignment : Good assignment assignment (solid (0 ∷ [])) stmt_nodes []
good_assignment =
    good_then node_name (λ target.
    good_when HasValueNodes assigns_nodes assigns_nodes good_assigns (λ act n.
    good_then good_expr (λ value.
    good_then (good_symbol symbols.Semicolon) (λ q.
    good_pure (stmt_node target.place (act target.held value)) stmt_nodes (target.place ∷ (expr_nodes value ++ [])) (n target.place target.held value ∙ ap (λ ns. target.place ∷ ns) (sym (append-nil (expr_nodes value))))) refl) refl) refl) refl

module _ {inside inside' : Rule Stmt} (within : Good inside inside' stmt_shape stmt_nodes []) where
  pub good_block : Good (block inside) (block inside') (solid (24 ∷ [])) (flat_map stmt_nodes) []
  good_block =
      good_then (good_symbol symbols.OpenCurly) (λ p.
      good_then (good_many within refl) (λ body.
      good_then (good_symbol symbols.CloseCurly) (λ q.
      good_pure body (flat_map stmt_nodes) (flat_map stmt_nodes body ++ []) (sym (append-nil (flat_map stmt_nodes body)))) refl) refl) refl

  -- what may follow the block of an `if`
  pub good_others : Good ((word words.Else >> block inside) or pure []) ((word words.Else >> block inside') or pure []) (record { nullable = true; first = 13 ∷ []; cont = 13 ∷ [] }) (flat_map stmt_nodes) []
  good_others = good_or (good_then (good_word words.Else) (λ p. good_block) refl) (good_pure [] (flat_map stmt_nodes) [] refl) refl

  pub good_conditional : Good (conditional inside) (conditional inside') (record { nullable = false; first = 12 ∷ []; cont = 13 ∷ [] }) stmt_nodes []
  good_conditional =
      good_then (node_word words.If) (λ place.
      good_then good_expr (λ condition.
      good_then good_block (λ body.
      good_then good_others (λ others.
      good_pure (stmt_node place (acts.If condition body others)) stmt_nodes (place ∷ ((expr_nodes condition ++ flat_map stmt_nodes body) ++ flat_map stmt_nodes others)) (nodes-if place condition body others)) refl) refl) refl) refl

  pub good_stmt_over : Good (stmt_over inside) (stmt_over inside') stmt_shape stmt_nodes []
  good_stmt_over = good_or good_assignment good_conditional refl

good_never_itself : Good never never stmt_shape stmt_nodes []
good_never_itself = never_good never stmt_shape stmt_nodes [] (sound_never stmt_shape stmt_nodes [])

-- of one depth
good_depth : (n : ℕ) → Good (stmt_within n) (stmt_within n) stmt_shape stmt_nodes []
good_depth zero = good_stmt_over good_never_itself
good_depth (suc n) = good_stmt_over (good_depth n)

-- of two depths
pub good_within : (m n : ℕ) → Good (stmt_within m) (stmt_within n) stmt_shape stmt_nodes []
good_within zero zero = good_depth zero
good_within zero (suc n) = good_stmt_over (never_good (stmt_within n) stmt_shape stmt_nodes [] (good_depth n).sound_one)
good_within (suc m) zero = good_stmt_over (good_never (stmt_within m) stmt_shape stmt_nodes [] (good_depth m).sound_one)
good_within (suc m) (suc n) = good_stmt_over (good_within m n)

pub good_stmt : Good stmt stmt stmt_shape stmt_nodes []
good_stmt = good_any stmt_within stmt_within stmt_shape stmt_nodes [] good_within

abbrev pub kernel_shape : Shape
kernel_shape = record { nullable = true; first = 3 ∷ 4 ∷ 5 ∷ 6 ∷ 0 ∷ 12 ∷ []; cont = 3 ∷ 4 ∷ 5 ∷ 6 ∷ 13 ∷ 0 ∷ 12 ∷ [] }

pub good_kernel : Good kernel kernel kernel_shape kernel_nodes []
good_kernel =
    good_then (good_many good_decl refl) (λ decls.
    good_then (good_many good_stmt refl) (λ body.
    good_pure (record { decls = decls; body = body }) kernel_nodes (flat_map decl_nodes decls ++ flat_map stmt_nodes body) refl) refl) refl

-- ---- one tree

pub one_tree : (tokens : List Token) (a b : Kernel) → SpellsKernel tokens a → SpellsKernel tokens b → a ≡ b
one_tree tokens a b h k = either (good_kernel.alike tokens a b [] [] h k)
  where
    either : Compared kernel_shape.cont a b [] [] → a ≡ b
    either (same e m) = e
    either (longer l g) = absurd g
    either (shorter l g) = absurd g
