-- What a statement does, by its parts.
use Rattle.std.proofs.Common.{◌≡◌, ℕ, ◌+◌, List, map, min, Ok, Err, sym, ap, ◌∙◌, arith, rules, ◌<◌}
use Rattle.std.specs.Prelude.{sum}
use Rattle.kern_tree.specs.declared.expr.Expr.{Expr}
use Rattle.kern_tree.specs.declared.kernel.Decl.{Decl}
use Rattle.kern_tree.specs.declared.stmt.Act.{Act, the_lemmas}
use Rattle.kern_tree.specs.declared.stmt.Act.TheVariants as acts
use Rattle.kern_tree.specs.declared.stmt.Stmt.{Stmt}
use Rattle.kern_tree.proofs.Layers.{of_stmt, if_layer}
use Rattle.kern_tree.proofs.stmt.Act.TheLaws.{the_size as act_size}
use Rattle.kern_tree.proofs.stmt.Stmt.TheLaws.{the_size as stmt_size}
use denote.Param.Weighed.{most}
use Rattle.kern_types.specs.declared.fault.TypeFault.{TypeFault}
use Rattle.kern_types.specs.Scopes.{Scope}
use Rattle.kern_types.specs.NameLists.{common}
use Rattle.kern_types.specs.Statements.{act_after, act_scope, at_stmt_place, act_slots, stmt_slots, if_check, slots_in, slots_in_act, stmts_after}
use Rattle.kern_types.specs.Steps.{◌>>=◌, ◌>>◌}
use Rattle.kern_types.proofs.Nodes.{slots_of_all}

-- ---- the scope after a statement

-- the scope in which the second block begins
abbrev pub before_other : Scope → Scope → Scope
before_other scope first = record { earlier = first.earlier; certain = scope.certain }

abbrev pub joined : Scope → Scope → Scope
joined first second = record { earlier = second.earlier; certain = common first.certain second.certain }

-- an `if`, by its condition and its blocks
if_parts : (decls : List Decl) (condition : Expr) (block other : List Stmt) (act : Act) (place : ℕ) (scope : Scope) → act ≡ acts.If condition block other
    → act_scope decls act place scope ≡ (if_check decls place condition scope >> (stmts_after decls block scope >>= (λ first. stmts_after decls other (before_other scope first) >>= (λ second. Ok (joined first second)))))
if_parts decls condition block other act place scope is = ap (λ a. act_scope decls a place scope) is ∙ ap (λ f. f place scope) (if_layer (act_after decls) at_stmt_place condition block other)

module _ (decls : List Decl) (condition : Expr) (block other : List Stmt) (act : Act) (place : ℕ) (scope : Scope) (is : act ≡ acts.If condition block other) (holds : Ok tt ≡ if_check decls place condition scope) where
  after_condition : act_scope decls act place scope ≡ (stmts_after decls block scope >>= (λ first. stmts_after decls other (before_other scope first) >>= (λ second. Ok (joined first second))))
  after_condition =
      if_parts decls condition block other act place scope is
      ∙ ap (λ checked. checked >> (stmts_after decls block scope >>= (λ first. stmts_after decls other (before_other scope first) >>= (λ second. Ok (joined first second))))) (sym holds)

  pub first_fault : (read : List Stmt) (fault : TypeFault) → read ≡ block → stmts_after decls read scope ≡ Err fault → act_scope decls act place scope ≡ Err fault
  first_fault read fault same e =
      after_condition
      ∙ ap (λ first. first >>= (λ f. stmts_after decls other (before_other scope f) >>= (λ second. Ok (joined f second)))) (ap (λ b. stmts_after decls b scope) (sym same) ∙ e)

  -- after the first block, and with the names that were certain before it again
  module _ (read read_other : List Stmt) (first between : Scope) (names : List (List ℕ)) (same : read ≡ block) (same_other : read_other ≡ other) (ended : stmts_after decls read scope ≡ Ok first) (begun : between ≡ record { earlier = first.earlier; certain = names }) (certain : names ≡ scope.certain) where
    after_first : act_scope decls act place scope ≡ (stmts_after decls read_other between >>= (λ second. Ok (joined first second)))
    after_first =
        after_condition
        ∙ ap (λ r. r >>= (λ f. stmts_after decls other (before_other scope f) >>= (λ second. Ok (joined f second)))) (ap (λ b. stmts_after decls b scope) (sym same) ∙ ended)
        ∙ ap (λ o. stmts_after decls o (before_other scope first) >>= (λ second. Ok (joined first second))) (sym same_other)
        ∙ ap (λ b. stmts_after decls read_other b >>= (λ second. Ok (joined first second))) (sym (begun ∙ ap (λ ns. let scope : Scope = record { earlier = first.earlier; certain = ns } in scope) certain))

    pub second_fault : (fault : TypeFault) → stmts_after decls read_other between ≡ Err fault → act_scope decls act place scope ≡ Err fault
    second_fault fault e = after_first ∙ ap (λ r. r >>= (λ second. Ok (joined first second))) e

    pub both_ended : (second last : Scope) → stmts_after decls read_other between ≡ Ok second → last ≡ joined first second → act_scope decls act place scope ≡ Ok last
    both_ended second last e f = after_first ∙ ap (λ r. r >>= (λ second. Ok (joined first second))) e ∙ ap Ok (sym f)

-- ---- the depth of blocks

pub block_smaller : (condition : Expr) (block other read : List Stmt) (act : Act) → act ≡ acts.If condition block other → read ≡ block → most (λ s. stmt_size s) read < act_size act
block_smaller condition block other read act is same = rw (same, is) (search (rules, the_lemmas))

pub other_smaller : (condition : Expr) (block other read : List Stmt) (act : Act) → act ≡ acts.If condition block other → read ≡ other → most (λ s. stmt_size s) read < act_size act
other_smaller condition block other read act is same = rw (same, is) (search (rules, the_lemmas))

-- ---- contributions

pub if_slots : (condition : Expr) (block other : List Stmt) (act : Act) → act ≡ acts.If condition block other → slots_in_act act ≡ slots_in block + slots_in other
if_slots condition block other act is =
    ap slots_in_act is ∙ if_layer act_slots stmt_slots condition block other
    ∙ ap (λ n. n + sum (map (of_stmt act_slots stmt_slots) other)) (slots_of_all block) ∙ ap (λ n. slots_in block + n) (slots_of_all other)

-- a sum that stops at a limit, of parts that stop there
pub limited_sum : (r p q a b n limit : ℕ) → r ≡ min (p + q) limit → p ≡ min a limit → q ≡ min b limit → n ≡ a + b → r ≡ min n limit
limited_sum r p q a b n limit e f g h = omega arith
