-- What statements mean, by their forms.
use Rattle.std.proofs.Common.{◌≡◌, ℕ, ◌+◌, ◌<◌, Bool, true, false, cond, List, [], ◌∷◌, ◌++◌, length, drop, get_or, Option, Result, Ok, Err, map, flat_map, refl, sym, ap, ◌∙◌, subst, arith, rules}
use Rattle.std.specs.List.{AllByRecursion}
use Rattle.std.proofs.lemmas.List.{drop_more}
use Rattle.kern_tree.specs.declared.expr.Expr.{Expr}
use Rattle.kern_tree.specs.declared.kernel.Decl.{Decl}
use Rattle.kern_tree.specs.declared.stmt.Act.{Act, the_lemmas}
use Rattle.kern_tree.specs.declared.stmt.Act.TheVariants as acts
use Rattle.kern_tree.specs.declared.stmt.Stmt.{Stmt}
use Rattle.kern_tree.proofs.stmt.Act.TheLaws.{the_size as act_size}
use Rattle.kern_tree.proofs.stmt.Stmt.TheLaws.{the_size as stmt_size}
use denote.Param.Weighed.{most, at_most}
use Rattle.kern_meaning.specs.declared.stop.PairStop.{PairStop}
use Rattle.kern_meaning.specs.Expressions.{truth_of}
use Rattle.kern_meaning.specs.Stops.{◌>>=◌}
use Rattle.kern_meaning.specs.Pair.{OrPairStop, PairState, Statements, at_statement, act_statements, at_stmt, assign, give, choose, act_meaning, block_meaning}
use Rattle.kern_meaning.specs.Walks.{act_assigned, stmt_assigned, assigned_by, assigned_in, HavePlaces, HasPlace, Runs}
use Rattle.kern_meaning.specs.declared.value.Value.{Value}
use Rattle.kern_tree.proofs.Layers.{of_stmt, set_layer, if_layer}

module _ (decls : List Decl) (coincident : Bool) (act : Act) where
  pub set_is : (name : List ℕ) (value : Expr) → act ≡ acts.Set name value → act_meaning decls coincident act ≡ record { count = 1; slots = 0; run = assign decls coincident name value }
  set_is name value is = ap (act_meaning decls coincident) is ∙ set_layer (act_statements decls coincident) at_stmt name value

  pub if_is : (condition : Expr) (body others : List Stmt) → act ≡ acts.If condition body others
      → act_meaning decls coincident act ≡ record {
        count = 1 + (block_meaning decls coincident body).count + (block_meaning decls coincident others).count;
        slots = (block_meaning decls coincident body).slots + (block_meaning decls coincident others).slots;
        run = choose decls coincident condition (block_meaning decls coincident body) (block_meaning decls coincident others);
      }
  if_is condition body others is = ap (act_meaning decls coincident) is ∙ if_layer (act_statements decls coincident) at_stmt condition body others

  -- so many statements, and so many `+=` among them
  pub if_counts : (condition : Expr) (body others read read_other : List Stmt) → act ≡ acts.If condition body others → read ≡ body → read_other ≡ others
      → (act_meaning decls coincident act).count ≡ 1 + (block_meaning decls coincident read).count + (block_meaning decls coincident read_other).count
  if_counts condition body others read read_other is e f =
      ap (λ (m : Statements). m.count) (if_is condition body others is)
      ∙ ap (λ b. 1 + (block_meaning decls coincident b).count + (block_meaning decls coincident others).count) (sym e)
      ∙ ap (λ b. 1 + (block_meaning decls coincident read).count + (block_meaning decls coincident b).count) (sym f)

  pub if_slots : (condition : Expr) (body others read read_other : List Stmt) → act ≡ acts.If condition body others → read ≡ body → read_other ≡ others
      → (act_meaning decls coincident act).slots ≡ (block_meaning decls coincident read).slots + (block_meaning decls coincident read_other).slots
  if_slots condition body others read read_other is e f =
      ap (λ (m : Statements). m.slots) (if_is condition body others is)
      ∙ ap (λ b. (block_meaning decls coincident b).slots + (block_meaning decls coincident others).slots) (sym e)
      ∙ ap (λ b. (block_meaning decls coincident read).slots + (block_meaning decls coincident b).slots) (sym f)

  -- ---- the blocks of an `if`

  module _ (condition : Expr) (body others read read_other : List Stmt) (is : act ≡ acts.If condition body others) (same : read ≡ body) (same_other : read_other ≡ others) (n slot : ℕ) (before after : PairState) where
    chosen : (holds : Bool) → at_statement coincident n (truth_of before.known condition) ≡ Ok holds
        → (act_meaning decls coincident act).run n slot before
        ≡ cond holds ((block_meaning decls coincident read).run (n + 1) slot before) ((block_meaning decls coincident read_other).run (n + 1 + (block_meaning decls coincident read).count) (slot + (block_meaning decls coincident read).slots) before)
    chosen holds e =
        ap (λ (m : Statements). m.run n slot before) (if_is condition body others is)
        ∙ ap (λ (h : OrPairStop Bool). h >>= (λ b. cond b ((block_meaning decls coincident body).run (n + 1) slot before) ((block_meaning decls coincident others).run (n + 1 + (block_meaning decls coincident body).count) (slot + (block_meaning decls coincident body).slots) before))) e
        ∙ ap (λ b. cond holds ((block_meaning decls coincident b).run (n + 1) slot before) ((block_meaning decls coincident others).run (n + 1 + (block_meaning decls coincident b).count) (slot + (block_meaning decls coincident b).slots) before)) (sym same)
        ∙ ap (λ b. cond holds ((block_meaning decls coincident read).run (n + 1) slot before) ((block_meaning decls coincident b).run (n + 1 + (block_meaning decls coincident read).count) (slot + (block_meaning decls coincident read).slots) before)) (sym same_other)

    pub then_runs : (a b m k : ℕ) → at_statement coincident n (truth_of before.known condition) ≡ Ok true → (block_meaning decls coincident read).run (n + 1) slot before ≡ Ok after
        → a ≡ n + 1 + (block_meaning decls coincident read).count → b ≡ slot + (block_meaning decls coincident read).slots
        → m ≡ a + (block_meaning decls coincident read_other).count → k ≡ b + (block_meaning decls coincident read_other).slots
        → ((act_meaning decls coincident act).run n slot before ≡ Ok after) × (m ≡ n + (act_meaning decls coincident act).count) × (k ≡ slot + (act_meaning decls coincident act).slots)
    then_runs a b m k holds ran ea eb em ek = (
      chosen true holds ∙ ran,
      omega (arith, ea, em, if_counts condition body others read read_other is same same_other),
      omega (arith, eb, ek, if_slots condition body others read read_other is same same_other),
    )

    pub then_stops : (stop : PairStop) → at_statement coincident n (truth_of before.known condition) ≡ Ok true → (block_meaning decls coincident read).run (n + 1) slot before ≡ Err stop → (act_meaning decls coincident act).run n slot before ≡ Err stop
    then_stops stop holds ran = chosen true holds ∙ ran

    else_goes : (a b : ℕ) → at_statement coincident n (truth_of before.known condition) ≡ Ok false → a ≡ n + 1 + (block_meaning decls coincident read).count → b ≡ slot + (block_meaning decls coincident read).slots
        → (act_meaning decls coincident act).run n slot before ≡ (block_meaning decls coincident read_other).run a b before
    else_goes a b holds ea eb =
        chosen false holds
        ∙ ap (λ x. (block_meaning decls coincident read_other).run x (slot + (block_meaning decls coincident read).slots) before) (sym ea)
        ∙ ap (λ y. (block_meaning decls coincident read_other).run a y before) (sym eb)

    pub else_runs : (result : Result (ℕ × ℕ) PairStop) (a b : ℕ) → at_statement coincident n (truth_of before.known condition) ≡ Ok false → a ≡ n + 1 + (block_meaning decls coincident read).count → b ≡ slot + (block_meaning decls coincident read).slots
        → Runs result (block_meaning decls coincident read_other) a b before after → Runs result (act_meaning decls coincident act) n slot before after
    else_runs (Ok reached) a b holds ea eb ran = (
      else_goes a b holds ea eb ∙ ran.0,
      omega (arith, ea, ran.1, if_counts condition body others read read_other is same same_other),
      omega (arith, eb, ran.2, if_slots condition body others read read_other is same same_other),
    )
    else_runs (Err stop) a b holds ea eb ran = else_goes a b holds ea eb ∙ ran

-- ---- the names that statements assign

all_assigned : (block : List Stmt) → flat_map (λ (names : List (List ℕ)). names) (map (of_stmt act_assigned stmt_assigned) block) ≡ assigned_in block
all_assigned [] = refl
all_assigned (s ∷ block) = ap (λ names. assigned_by s.act ++ names) (all_assigned block)

pub if_assigned : (act : Act) (condition : Expr) (body others read read_other : List Stmt) → act ≡ acts.If condition body others → read ≡ body → read_other ≡ others → assigned_by act ≡ assigned_in read ++ assigned_in read_other
if_assigned act condition body others read read_other is same same_other =
    ap assigned_by is ∙ if_layer act_assigned stmt_assigned condition body others
    ∙ ap (λ names. names ++ flat_map (λ (ns : List (List ℕ)). ns) (map (of_stmt act_assigned stmt_assigned) others)) (all_assigned body) ∙ ap (λ names. assigned_in body ++ names) (all_assigned others)
    ∙ ap (λ b. assigned_in b ++ assigned_in others) (sym same) ∙ ap (λ b. assigned_in read ++ assigned_in b) (sym same_other)

pub first_of : {X : Type 0} (P : X → Type 0) (xs ys : List X) → AllByRecursion P (xs ++ ys) → AllByRecursion P xs
first_of P [] ys h = tt
first_of P (x ∷ xs) ys h = (h.0, first_of P xs ys h.1)

pub rest_of : {X : Type 0} (P : X → Type 0) (xs ys : List X) → AllByRecursion P (xs ++ ys) → AllByRecursion P ys
rest_of P [] ys h = h
rest_of P (x ∷ xs) ys h = rest_of P xs ys h.1

module _ (names : List (List ℕ)) (values : List (Option Value)) (all xs ys : List (List ℕ)) (is : all ≡ xs ++ ys) (h : HavePlaces names values all) where
  pub places_first : HavePlaces names values xs
  places_first = record { same = h.same; each = first_of (HasPlace names) xs ys (subst (λ (ns : List (List ℕ)). AllByRecursion (HasPlace names) ns) is h.each) }

  pub places_rest : (later : List (Option Value)) → length later ≡ length values → HavePlaces names later ys
  places_rest later same = record { same = same ∙ h.same; each = rest_of (HasPlace names) xs ys (subst (λ (ns : List (List ℕ)). AllByRecursion (HasPlace names) ns) is h.each) }

-- ---- one statement of a block after another

pub next_is : (block : List Stmt) (k : ℕ) (stmt : Stmt) → k < length block → stmt ≡ get_or block k stmt → drop k block ≡ stmt ∷ drop (k + 1) block
next_is block k stmt h e = drop_more block k stmt h ∙ ap (λ s. s ∷ drop (k + 1) block) (sym e)

module _ (decls : List Decl) (coincident : Bool) (block : List Stmt) (k : ℕ) (stmt : Stmt) (is : drop k block ≡ stmt ∷ drop (k + 1) block) where
  pub next_count : (block_meaning decls coincident (drop k block)).count ≡ (act_meaning decls coincident stmt.act).count + (block_meaning decls coincident (drop (k + 1) block)).count
  next_count = ap (λ b. (block_meaning decls coincident b).count) is

  pub next_slots : (block_meaning decls coincident (drop k block)).slots ≡ (act_meaning decls coincident stmt.act).slots + (block_meaning decls coincident (drop (k + 1) block)).slots
  next_slots = ap (λ b. (block_meaning decls coincident b).slots) is

  module _ (n slot : ℕ) (before : PairState) (whole : OrPairStop PairState) (ran : whole ≡ (block_meaning decls coincident (drop k block)).run n slot before) where
    ran_next : whole ≡ ((act_meaning decls coincident stmt.act).run n slot before >>= (λ next. (block_meaning decls coincident (drop (k + 1) block)).run (n + (act_meaning decls coincident stmt.act).count) (slot + (act_meaning decls coincident stmt.act).slots) next))
    ran_next = ran ∙ ap (λ b. (block_meaning decls coincident b).run n slot before) is

    pub block_stops : (stop : PairStop) → (act_meaning decls coincident stmt.act).run n slot before ≡ Err stop → whole ≡ Err stop
    block_stops stop e = ran_next ∙ ap (λ r. r >>= (λ next. (block_meaning decls coincident (drop (k + 1) block)).run (n + (act_meaning decls coincident stmt.act).count) (slot + (act_meaning decls coincident stmt.act).slots) next)) e

    pub block_goes_on : (after : PairState) (a b : ℕ) → (act_meaning decls coincident stmt.act).run n slot before ≡ Ok after → a ≡ n + (act_meaning decls coincident stmt.act).count → b ≡ slot + (act_meaning decls coincident stmt.act).slots
        → whole ≡ (block_meaning decls coincident (drop (k + 1) block)).run a b after
    block_goes_on after a b e ea eb =
        ran_next ∙ ap (λ r. r >>= (λ next. (block_meaning decls coincident (drop (k + 1) block)).run (n + (act_meaning decls coincident stmt.act).count) (slot + (act_meaning decls coincident stmt.act).slots) next)) e
        ∙ ap (λ x. (block_meaning decls coincident (drop (k + 1) block)).run x (slot + (act_meaning decls coincident stmt.act).slots) after) (sym ea)
        ∙ ap (λ y. (block_meaning decls coincident (drop (k + 1) block)).run a y after) (sym eb)

act_in : (s : Stmt) → act_size s.act < stmt_size s
act_in s = search (rules, the_lemmas)

pub member_smaller : (block : List Stmt) (k : ℕ) (stmt : Stmt) → k < length block → stmt ≡ get_or block k stmt → act_size stmt.act < most (λ s. stmt_size s) block
member_smaller block k stmt h e = omega (arith, act_in stmt, at_most (λ (s : Stmt). stmt_size s) block k stmt h, ap (λ (s : Stmt). stmt_size s) e)
