-- Paths through statements: each `if` takes one of its blocks.
use Rattle.std.specs.Prelude.{ℕ, Bool, List, [], ◌∷◌, ◌++◌, map, flat_map}
use Rattle.std.specs.List.{list_all}
use Rattle.kern_tree.specs.declared.stmt.Act.TheFolds.{fold-Act}
use Rattle.kern_tree.specs.declared.stmt.Act.TheOpen.{Act-F, Stmt-F}
use Rattle.kern_tree.specs.declared.stmt.Act.TheOpen as acts
use Rattle.kern_tree.specs.declared.stmt.Act.{Act}
use Rattle.kern_tree.specs.declared.stmt.Stmt.{Stmt}
use Rattle.kern_types.specs.NameLists.{is_among}

-- the names that are assigned on the way
abbrev pub Path : Type 0
Path = List (List ℕ)

-- each of the first paths with each of the second after it
abbrev pub then_each : List Path → List Path → List Path
then_each first second = flat_map (λ path. map (λ next. path ++ next) second) first

abbrev pub one_after_another : List (List Path) → List Path
one_after_another [] = [] ∷ []
one_after_another (stmt ∷ stmts) = then_each stmt (one_after_another stmts)

abbrev pub act_paths : Act-F (List Path) (List Path) → List Path
act_paths (acts.Set name value) = (name ∷ []) ∷ []
act_paths (acts.Give name value) = [] ∷ []
act_paths (acts.If condition block other) = one_after_another block ++ one_after_another other

abbrev pub stmt_paths : Stmt-F (List Path) (List Path) → List Path
stmt_paths stmt = stmt.act

abbrev pub paths_of_act : Act → List Path
paths_of_act = fold-Act (List Path) (List Path) act_paths stmt_paths

-- the paths from the start of these statements to their end
abbrev pub paths_through : List Stmt → List Path
paths_through stmts = one_after_another (map (λ stmt. paths_of_act stmt.act) stmts)

-- the name is assigned on every one
abbrev pub all_assign : List Path → List ℕ → Bool
all_assign paths name = list_all (λ path. is_among path name) paths
