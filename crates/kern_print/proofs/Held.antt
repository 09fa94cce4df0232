-- Expressions as they are written canonically: which operands stand in brackets, and that never more
-- than 32 brackets are open.
use Rattle.std.proofs.Common.{ℕ, suc, ◌+◌, ◌<◌, ◌≤◌, ◌^◌, ⊎_elim, List, arith}
use Rattle.std.proofs.lemmas.Bool.{cases_lt}
use Rattle.kern_token.specs.declared.token.Symbol.{Symbol}
use Rattle.kern_token.specs.declared.token.Symbol.TheVariants as symbols
use Rattle.kern_token.specs.declared.token.Word.{Word}
use Rattle.kern_token.specs.declared.token.Word.TheVariants as words
use Rattle.kern_token.specs.Pieces.{IsName}
use Rattle.kern_tree.specs.declared.expr.Expr.{Expr}
use Rattle.kern_tree.specs.declared.expr.Form.TheVariants as forms
use Rattle.kern_tree.specs.declared.expr.Op1.{Op1}
use Rattle.kern_tree.specs.declared.expr.Op1.TheVariants as ops1
use Rattle.kern_tree.specs.declared.expr.Op2.{Op2}
use Rattle.kern_tree.specs.declared.expr.Op2.TheVariants as ops2
use Rattle.kern_tree.specs.declared.expr.Op3.{Op3}
use Rattle.kern_tree.specs.declared.expr.Op3.TheVariants as ops3
use Rattle.kern_tree.specs.Grammar.{node}
use Rattle.pf_geom.specs.declared.axis.Axis.{Axis}

-- an operator between operands: its level, the level that its left operand needs, its symbol
pub data Infix : ℕ → ℕ → Symbol → Op2 → Type 0 where
  or : Infix 1 1 symbols.Or ops2.Or
  and : Infix 2 2 symbols.And ops2.And
  lt : Infix 3 4 symbols.Lt ops2.Lt
  le : Infix 3 4 symbols.Le ops2.Le
  gt : Infix 3 4 symbols.Gt ops2.Gt
  ge : Infix 3 4 symbols.Ge ops2.Ge
  eq : Infix 3 4 symbols.Eq ops2.Eq
  ne : Infix 3 4 symbols.Ne ops2.Ne
  add : Infix 4 4 symbols.Plus ops2.Add
  sub : Infix 4 4 symbols.Minus ops2.Sub
  mul : Infix 5 5 symbols.Star ops2.Mul
  div : Infix 5 5 symbols.Slash ops2.Div

pub data Sign : Symbol → Op1 → Type 0 where
  neg : Sign symbols.Minus ops1.Neg
  not : Sign symbols.Not ops1.Not

pub data Call1 : Word → Op1 → Type 0 where
  isqrt : Call1 words.Isqrt ops1.Isqrt
  abs : Call1 words.Abs ops1.Abs

pub data Call2 : Word → Op2 → Type 0 where
  least : Call2 words.Min ops2.Least
  most : Call2 words.Max ops2.Most

pub data Call3 : Word → Op3 → Type 0 where
  muldiv : Call3 words.Muldiv ops3.Muldiv
  build : Call3 words.Vec ops3.Build

mutual
  -- without brackets around it, where so many are open; the second number is its level
  pub data Bare : ℕ → ℕ → Expr → Type 0 where
    literal : {depth place mantissa bits : ℕ} → mantissa < 2 ^ 63 → bits ≤ 62 → Bare depth 7 (node place (forms.Number mantissa bits))
    variable : {depth place : ℕ} {called : List ℕ} → IsName called → Bare depth 7 (node place (forms.Name called))
    part : {depth place : ℕ} {a : Expr} {axis : Axis} → Held depth 7 a → Bare depth 7 (node place (forms.Part a axis))
    sign : {depth place : ℕ} {s : Symbol} {op : Op1} {a : Expr} → Sign s op → Held depth 7 a → Bare depth 6 (node place (forms.One op a))
    two : {depth place level left : ℕ} {s : Symbol} {op : Op2} {a b : Expr} → Infix level left s op → Held depth left a → Held depth (suc level) b → Bare depth level (node place (forms.Two op a b))
    call1 : {depth place : ℕ} {w : Word} {op : Op1} {a : Expr} → Call1 w op → depth < 32 → Held (depth + 1) 1 a → Bare depth 7 (node place (forms.One op a))
    call2 : {depth place : ℕ} {w : Word} {op : Op2} {a b : Expr} → Call2 w op → depth < 32 → Held (depth + 1) 1 a → Held (depth + 1) 1 b → Bare depth 7 (node place (forms.Two op a b))
    call3 : {depth place : ℕ} {w : Word} {op : Op3} {a b c : Expr} → Call3 w op → depth < 32 → Held (depth + 1) 1 a → Held (depth + 1) 1 b → Held (depth + 1) 1 c → Bare depth 7 (node place (forms.Three op a b c))
    to : {depth place bits : ℕ} {a : Expr} → bits < 2 ^ 32 → depth < 32 → Held (depth + 1) 1 a → Bare depth 7 (node place (forms.To bits a))

  -- where a level is needed: in brackets where its own is lower
  pub data Held : ℕ → ℕ → Expr → Type 0 where
    bare : {depth needed level : ℕ} {e : Expr} → needed ≤ level → Bare depth level e → Held depth needed e
    bracket : {depth needed level : ℕ} {e : Expr} → level < needed → depth < 32 → Bare (depth + 1) level e → Held depth needed e

infix_level : {level left : ℕ} {s : Symbol} {op : Op2} → Infix level left s op → 1 ≤ level
infix_level or = omega arith
infix_level and = omega arith
infix_level lt = omega arith
infix_level le = omega arith
infix_level gt = omega arith
infix_level ge = omega arith
infix_level eq = omega arith
infix_level ne = omega arith
infix_level add = omega arith
infix_level sub = omega arith
infix_level mul = omega arith
infix_level div = omega arith

pub level_one : {depth level : ℕ} {e : Expr} → Bare depth level e → 1 ≤ level
level_one (literal m b) = omega arith
level_one (variable n) = omega arith
level_one (part a) = omega arith
level_one (sign s a) = omega arith
level_one (two i a b) = infix_level i
level_one (call1 w d a) = omega arith
level_one (call2 w d a b) = omega arith
level_one (call3 w d a b c) = omega arith
level_one (to k d a) = omega arith

-- where fewer brackets are open it can be written so too
mutual
  pub bare_outside : {inner level : ℕ} {e : Expr} → Bare inner level e → (outer : ℕ) → outer ≤ inner → Bare outer level e
  bare_outside (literal m b) outer h = literal m b
  bare_outside (variable n) outer h = variable n
  bare_outside (part a) outer h = part (held_outside a outer h)
  bare_outside (sign s a) outer h = sign s (held_outside a outer h)
  bare_outside (two i a b) outer h = two i (held_outside a outer h) (held_outside b outer h)
  bare_outside (call1 w d a) outer h = call1 w (omega arith) (held_outside a (outer + 1) (omega arith))
  bare_outside (call2 w d a b) outer h = call2 w (omega arith) (held_outside a (outer + 1) (omega arith)) (held_outside b (outer + 1) (omega arith))
  bare_outside (call3 w d a b c) outer h = call3 w (omega arith) (held_outside a (outer + 1) (omega arith)) (held_outside b (outer + 1) (omega arith)) (held_outside c (outer + 1) (omega arith))
  bare_outside (to k d a) outer h = to k (omega arith) (held_outside a (outer + 1) (omega arith))

  pub held_outside : {inner needed : ℕ} {e : Expr} → Held inner needed e → (outer : ℕ) → outer ≤ inner → Held outer needed e
  held_outside (bare n b) outer h = bare n (bare_outside b outer h)
  held_outside (bracket n d b) outer h = bracket n (omega arith) (bare_outside b (outer + 1) (omega arith))

-- in brackets or without, as the needed level asks
held_where : {depth level : ℕ} {e : Expr} (needed : ℕ) → depth < 32 → Bare (depth + 1) level e → Held depth needed e
held_where {depth} {level} needed d b =
    ⊎_elim (λ lower. bracket lower d b) (λ high. bare high (bare_outside b depth (omega arith))) (cases_lt level needed)

pub held_lower : {depth needed : ℕ} {e : Expr} (lower : ℕ) → lower ≤ needed → Held depth needed e → Held depth lower e
held_lower lower h (bare n b) = bare (omega arith) b
held_lower lower h (bracket n d b) = held_where lower d b

pub held_bracketed : {depth : ℕ} {e : Expr} (needed : ℕ) → depth < 32 → Held (depth + 1) 1 e → Held depth needed e
held_bracketed needed d (bare n b) = held_where needed d b
held_bracketed needed d (bracket n d' b) = let one = level_one b in absurd (omega arith)
