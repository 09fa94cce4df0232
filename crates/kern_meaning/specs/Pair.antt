-- Pair: what a particle and an item give each other's forces by a kernel, or the first fault.
use Rattle.std.specs.Prelude.{◌≡◌, ℕ, ◌+◌, Bool, true, false, ◌==◌, ◌&&◌, List, [], ◌∷◌, Option, Some, None, Result, Ok, Err, map, replicate, slice_set, if◌then◌else◌}
use Rattle.std.specs.List.{filter_map, zip}
use Rattle.std.specs.Str.{bytes_eq}
use Rattle.pf_geom.specs.Position.{Position}
use Rattle.pf_model.specs.Particle.{Particle}
use Rattle.pf_model.specs.Totals.{Source}
use Rattle.pf_num.specs.declared.fault.NumFault.{NumFault}
use Rattle.pf_num.specs.declared.fault.NumFault.TheVariants as numeric
use Rattle.kern_tree.specs.declared.expr.Expr.{Expr}
use Rattle.kern_tree.specs.declared.kernel.Decl.{Decl}
use Rattle.kern_tree.specs.declared.kernel.Kernel.{Kernel}
use Rattle.kern_tree.specs.declared.stmt.Act.{Act}
use Rattle.kern_tree.specs.declared.stmt.Act.TheFolds.{fold-Act}
use Rattle.kern_tree.specs.declared.stmt.Act.TheOpen.{Act-F, Stmt-F}
use Rattle.kern_tree.specs.declared.stmt.Act.TheOpen as acts
use Rattle.kern_tree.specs.declared.stmt.Stmt.{Stmt}
pub use Rattle.kern_types.specs.Declarations.{declared_force, force_type}
pub use Rattle.kern_types.specs.Statements.{act_targets, stmt_targets, targets_in}
use Rattle.kern_types.specs.Names.{declaration}
use Rattle.kern_meaning.specs.declared.fault.PairFault.{PairFault}
use Rattle.kern_meaning.specs.declared.fault.PairKind.{PairKind}
use Rattle.kern_meaning.specs.declared.fault.PairKind.TheVariants as kinds
use Rattle.kern_meaning.specs.declared.stop.PairStop.{PairStop}
use Rattle.kern_meaning.specs.declared.stop.PairStop.TheVariants as pair_stops
use Rattle.kern_meaning.specs.declared.stop.Stop.{Stop}
use Rattle.kern_meaning.specs.declared.stop.Stop.TheVariants as stops
use Rattle.kern_meaning.specs.declared.value.Value.{Value}
use Rattle.kern_meaning.specs.Expressions.{number_value_of, truth_of, contribution_of}
use Rattle.kern_meaning.specs.Names.{Known, known_at_start, with_value}
use Rattle.kern_meaning.specs.Stops.{OrStop, ◌>>=◌}

-- a value, or what stopped a pair on the way to it
abbrev pub OrPairStop : Type 0 → Type 0
OrPairStop A = Result A PairStop

-- ---- faults

-- a divisor 0 is told apart by whether the item's centre is the particle's position
abbrev pub pair_kind : Bool → NumFault → PairKind
pair_kind coincident numeric.Overflow = kinds.Overflow
pair_kind true numeric.ZeroDivisor = kinds.Coincident
pair_kind false numeric.ZeroDivisor = kinds.ZeroDivisor
pair_kind coincident numeric.NegativeRoot = kinds.NegativeRoot

-- what stops the own expression of the statement of this number stops the pair
abbrev pub pair_stop : Bool → ℕ → Stop → PairStop
pair_stop coincident n stops.NoResult = pair_stops.NoResult
pair_stop coincident n (stops.Fault fault) =
    pair_stops.Fault (record { kind = pair_kind coincident fault; statement = n })

abbrev pub at_statement : {A : Type 0} → Bool → ℕ → OrStop A → OrPairStop A
at_statement coincident n (Ok value) = Ok value
at_statement coincident n (Err stop) = Err (pair_stop coincident n stop)

abbrev pub is_same_place : Position → Position → Bool
is_same_place p q = p.x == q.x && p.y == q.y && p.z == q.z

-- ---- statements

-- what stands between two statements of a pair: the values of names, and what each `+=` gave so far, if
-- anything, in text order
pub record PairState : Type 0 where
  pub known : Known
  pub given : List (Option Value)

-- Statements: how many they are, how many of them are `+=`, and what they do, where the first has this
-- number and so many `+=` stand before them.
pub record Statements : Type 0 where
  pub count : ℕ
  pub slots : ℕ
  pub run : ℕ → ℕ → PairState → OrPairStop PairState

abbrev pub block_of : List Statements → Statements
block_of [] = record { count = 0; slots = 0; run = λ n slot state. Ok state }
block_of (first ∷ others) = record {
  count = first.count + (block_of others).count;
  slots = first.slots + (block_of others).slots;
  run = λ n slot state.
      first.run n slot state >>= (λ next. (block_of others).run (n + first.count) (slot + first.slots) next);
}

abbrev pub at_stmt : Stmt-F Statements Statements → Statements
at_stmt stmt = stmt.act

-- Under these declarations, for a pair at one place or not.
module _ (decls : List Decl) (coincident : Bool) where
  -- name = value;
  abbrev pub assign : List ℕ → Expr → ℕ → ℕ → PairState → OrPairStop PairState
  assign name value n slot state = do
    held ← at_statement coincident n (number_value_of state.known value)
    Ok (record { known = with_value state.known name held; given = state.given })

  -- name += value;
  abbrev pub give : List ℕ → Expr → ℕ → ℕ → PairState → OrPairStop PairState
  give name value n slot state = do
    given ← at_statement coincident n (contribution_of state.known (force_type (declaration decls name)) value)
    Ok (record { known = state.known; given = slice_set state.given slot (Some given) })

  -- only the taken block
  abbrev pub choose : Expr → Statements → Statements → ℕ → ℕ → PairState → OrPairStop PairState
  choose condition body others n slot state = do
    holds ← at_statement coincident n (truth_of state.known condition)
    if holds then body.run (n + 1) slot state else others.run (n + 1 + body.count) (slot + body.slots) state

  abbrev pub act_statements : Act-F Statements Statements → Statements
  act_statements (acts.Set name value) = record { count = 1; slots = 0; run = assign name value }
  act_statements (acts.Give name value) = record { count = 1; slots = 1; run = give name value }
  act_statements (acts.If condition body others) = record {
    count = 1 + (block_of body).count + (block_of others).count;
    slots = (block_of body).slots + (block_of others).slots;
    run = choose condition (block_of body) (block_of others);
  }

  abbrev pub act_meaning : Act → Statements
  act_meaning = fold-Act Statements Statements act_statements at_stmt

  abbrev pub block_meaning : List Stmt → Statements
  block_meaning stmts = block_of (map (λ stmt. act_meaning stmt.act) stmts)

-- ---- a pair

-- what a kernel gives a particle for an item: an option for each `+=` in text order
abbrev pub pair_of : Kernel → Particle → Source → OrPairStop (List (Option Value))
pair_of kernel i j = do
  let body = block_meaning kernel.decls (is_same_place i.at j.at) kernel.body
  end ← body.run 1 0 (record { known = known_at_start kernel.decls i j; given = replicate body.slots None })
  Ok end.given

abbrev pub as_answer : {A : Type 0} → Result A PairFault → OrPairStop A
as_answer (Ok given) = Ok given
as_answer (Err fault) = Err (pair_stops.Fault fault)

-- the pair of this particle and this item has these contributions or this first fault
abbrev pub Pair : Kernel → Particle → Source → Result (List (Option Value)) PairFault → Type 0
Pair kernel i j answer = pair_of kernel i j ≡ as_answer answer

-- ---- contributions to one FORCE variable

abbrev pub given_to : List ℕ → List ℕ × Option Value → Option Value
given_to name slot = if bytes_eq slot.0 name then slot.1 else None

-- the contributions to the FORCE variable of this name, among those of all `+=`
abbrev pub contributions_to : List ℕ → Kernel → List (Option Value) → List Value
contributions_to name kernel given = filter_map (given_to name) (zip (targets_in kernel.body) given)
