-- The values of names, by number, and how the executor's walk over statements answers for their meaning.
use Rattle.std.specs.Prelude.{◌≡◌, ℕ, ◌+◌, ◌<◌, List, [], ◌∷◌, ◌++◌, length, Option, Some, None, Result, Ok, Err, MatchResult, flat_map, slice_get, position, unwrap_or}
use Rattle.std.specs.List.{AllByRecursion}
use Rattle.std.specs.Str.{bytes_eq}
use Rattle.kern_tree.specs.declared.kernel.Kernel.{Kernel}
use Rattle.kern_tree.specs.declared.stmt.Act.{Act}
use Rattle.kern_tree.specs.declared.stmt.Act.TheFolds.{fold-Act}
use Rattle.kern_tree.specs.declared.stmt.Act.TheOpen.{Act-F, Stmt-F}
use Rattle.kern_tree.specs.declared.stmt.Act.TheOpen as acts
use Rattle.kern_tree.specs.declared.stmt.Stmt.{Stmt}
use Rattle.kern_meaning.specs.declared.stop.PairStop.{PairStop}
use Rattle.kern_meaning.specs.declared.stop.Stop.{Stop}
use Rattle.kern_meaning.specs.declared.value.Value.{Value}
use Rattle.kern_meaning.specs.Names.{Known}
use Rattle.kern_meaning.specs.Pair.{OrPairStop, PairState, Statements}
use Rattle.kern_meaning.specs.Stops.{OrStop}

-- ---- numbers of names

-- the names that statements assign, in text order
abbrev pub act_assigned : Act-F (List (List ℕ)) (List (List ℕ)) → List (List ℕ)
act_assigned (acts.Set name value) = name ∷ []
act_assigned (acts.Give name value) = []
act_assigned (acts.If condition body others) = flat_map (λ names. names) body ++ flat_map (λ names. names) others

abbrev pub stmt_assigned : Stmt-F (List (List ℕ)) (List (List ℕ)) → List (List ℕ)
stmt_assigned stmt = stmt.act

abbrev pub assigned_by : Act → List (List ℕ)
assigned_by = fold-Act (List (List ℕ)) (List (List ℕ)) act_assigned stmt_assigned

abbrev pub assigned_in : List Stmt → List (List ℕ)
assigned_in stmts = flat_map (λ stmt. assigned_by stmt.act) stmts

-- the names of a kernel that have numbers: those assigned
abbrev pub names_of : Kernel → List (List ℕ)
names_of kernel = assigned_in kernel.body

-- a name's number is its first place among the names, or their count
abbrev pub number_of : List (List ℕ) → List ℕ → ℕ
number_of names name = unwrap_or (position (λ other. bytes_eq other name) names) (length names)

abbrev pub value_at : Option (Option Value) → Option Value
value_at None = None
value_at (Some value) = value

abbrev pub value_or : Option Value → Option (Option Value) → Option Value
value_or start None = start
value_or start (Some value) = value

-- the values of names: by number where they have one, else those at the start of the pair
abbrev pub known_by : Known → List (List ℕ) → List (Option Value) → Known
known_by start names values name = value_or (start name) (slice_get values (number_of names name))

-- The call has written the value of an expression of this meaning, or says what stopped it.
abbrev pub WritesValue : Result (Unit {0}) Stop → OrStop Value → Value → Type 0
WritesValue result meaning value = MatchResult result (λ _. meaning ≡ Ok value) (λ stop. meaning ≡ Err stop)

-- and so of the expression of a statement
abbrev pub WritesAt : Result (Unit {0}) PairStop → OrPairStop Value → Value → Type 0
WritesAt result meaning value = MatchResult result (λ _. meaning ≡ Ok value) (λ stop. meaning ≡ Err stop)

-- ---- statements

-- the state that values by number and slots stand for, in a pair that begins so
abbrev pub pair_state : Known → List (List ℕ) → List (Option Value) → List (Option Value) → PairState
pair_state start names values slots = record { known = known_by start names values; given = slots }

abbrev pub HasPlace : List (List ℕ) → List ℕ → Type 0
HasPlace names name = number_of names name < length names

-- each of these names has a place for its value
pub record HavePlaces (names : List (List ℕ)) (values : List (Option Value)) (assigned : List (List ℕ)) : Type 0 where
  pub same : length values ≡ length names
  pub each : AllByRecursion (HasPlace names) assigned

-- The call's answer is that of statements that begin where the first has this number and so many `+=` stand
-- before it: after them the next number, the count of `+=` and the state, or what stopped them.
abbrev pub Runs : Result (ℕ × ℕ) PairStop → Statements → ℕ → ℕ → PairState → PairState → Type 0
Runs result meaning n slot before after =
    MatchResult result
    (λ reached.
    (meaning.run n slot before ≡ Ok after)
    × (reached.0 ≡ n + meaning.count)
    × (reached.1 ≡ slot + meaning.slots))
    (λ stop. meaning.run n slot before ≡ Err stop)
