-- Statements over ranges, and the verdict on a kernel: safe, or unsure in the first statement with a bad node.
use Rattle.std.specs.Prelude.{ℕ, ◌+◌, List, [], ◌∷◌, Result, Ok, Err, map, if◌then◌else◌}
use Rattle.std.specs.Str.{bytes_eq}
use Rattle.kern_tree.specs.declared.expr.Expr.{Expr}
use Rattle.kern_tree.specs.declared.kernel.Kernel.{Kernel}
use Rattle.kern_tree.specs.declared.stmt.Act.{Act}
use Rattle.kern_tree.specs.declared.stmt.Act.TheFolds.{fold-Act}
use Rattle.kern_tree.specs.declared.stmt.Act.TheOpen.{Act-F, Stmt-F}
use Rattle.kern_tree.specs.declared.stmt.Act.TheOpen as acts
use Rattle.kern_tree.specs.declared.stmt.Stmt.{Stmt}
use Rattle.pf_model.specs.Particle.{Particle}
use Rattle.kern_meaning.specs.Stops.{◌>>=◌}
use Rattle.kern_range.specs.declared.range.Range.{Range}
use Rattle.kern_range.specs.declared.verdict.Verdict.{Verdict}
use Rattle.kern_range.specs.declared.verdict.Verdict.TheVariants.{Safe, Unsure}
use Rattle.kern_range.specs.Bodies.{ranges_at_start}
use Rattle.kern_range.specs.Intervals.{OrBad}
use Rattle.kern_range.specs.Nodes.{Known, range_of}
use Rattle.kern_range.specs.Operators.{joined}

-- after a name is assigned a value of this range
abbrev pub with_range : Known → List ℕ → Range → Known
with_range known name range other = if bytes_eq name other then Ok range else known other

-- after either block
abbrev pub either : Known → Known → Known
either first second name = joined (first name) (second name)

-- the ranges of names after statements, or the number of the first with a bad node
abbrev pub OrUnsure : Type 0 → Type 0
OrUnsure A = Result A ℕ

-- of the own expression of the statement of this number
abbrev pub at_statement : ℕ → OrBad Range → OrUnsure Range
at_statement n (Ok range) = Ok range
at_statement n (Err bad) = Err n

-- Statements: how many they are, and what names can be after them, where the first has this number.
pub record Statements : Type 0 where
  pub count : ℕ
  pub run : ℕ → Known → OrUnsure Known

abbrev pub block_of : List Statements → Statements
block_of [] = record { count = 0; run = λ n known. Ok known }
block_of (first ∷ others) = record {
  count = first.count + (block_of others).count;
  run = λ n known. first.run n known >>= (λ next. (block_of others).run (n + first.count) next);
}

-- name = value;
abbrev pub assign : List ℕ → Expr → ℕ → Known → OrUnsure Known
assign name value n known = do
  range ← at_statement n (range_of known value)
  Ok (with_range known name range)

-- name += value; contributions aren't summed
abbrev pub give : Expr → ℕ → Known → OrUnsure Known
give value n known = do
  range ← at_statement n (range_of known value)
  Ok known

-- both blocks, each from what stands before them
abbrev pub choose : Expr → Statements → Statements → ℕ → Known → OrUnsure Known
choose condition body others n known = do
  range ← at_statement n (range_of known condition)
  first ← body.run (n + 1) known
  second ← others.run (n + 1 + body.count) known
  Ok (either first second)

abbrev pub at_stmt : Stmt-F Statements Statements → Statements
at_stmt stmt = stmt.act

abbrev pub act_statements : Act-F Statements Statements → Statements
act_statements (acts.Set name value) = record { count = 1; run = assign name value }
act_statements (acts.Give name value) = record { count = 1; run = give value }
act_statements (acts.If condition body others) = record {
  count = 1 + (block_of body).count + (block_of others).count;
  run = choose condition (block_of body) (block_of others);
}

abbrev pub act_ranges : Act → Statements
act_ranges = fold-Act Statements Statements act_statements at_stmt

abbrev pub block_ranges : List Stmt → Statements
block_ranges stmts = block_of (map (λ stmt. act_ranges stmt.act) stmts)

-- ---- a kernel

abbrev pub verdict_by : OrUnsure Known → Verdict
verdict_by (Ok known) = Safe
verdict_by (Err n) = Unsure n

-- on these particles
abbrev pub verdict_of : Kernel → List Particle → Verdict
verdict_of kernel [] = Safe
verdict_of kernel (first ∷ others) =
    verdict_by ((block_ranges kernel.body).run 1 (ranges_at_start first others kernel.decls))
