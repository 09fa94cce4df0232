-- The code of a typed kernel is valid, and means the kernel.
use Rattle.std.proofs.Common.{◌≡◌, ℕ, ◌+◌, ◌<◌, ◌≤◌, List, [], ◌∷◌, ◌++◌, length, Bool, true, false, cond, Option, Some, None, Ok, Err, bytes_eq, refl, sym, ap, ◌∙◌, subst, arith}
use Rattle.std.specs.Option.{option_or}
use Rattle.std.proofs.lemmas.List.Folds.{find-append}
use Rattle.std.proofs.lemmas.Slice.Eq.{bytes_eq-Decides}
use Rattle.kern_tree.proofs.Layers.{set_layer, give_layer, if_layer}
use Rattle.kern_tree.specs.declared.expr.Expr.{Expr}
use Rattle.kern_tree.specs.declared.kernel.Decl.{Decl}
use Rattle.kern_tree.specs.declared.kernel.Kind.{Kind}
use Rattle.kern_tree.specs.declared.kernel.Kind.TheVariants as kinds
use Rattle.kern_tree.specs.declared.stmt.Act.TheVariants as acts
use Rattle.kern_tree.specs.declared.stmt.Stmt.{Stmt}
use Rattle.kern_tree.specs.Limits as limits
use Rattle.kern_tree.specs.Limits.{IsLimited, IsLimitedBlock, IsLimitedStmt, ParsedKernelsKeepLimits}
use Rattle.kern_types.proofs.Acts.{before_other, joined}
use Rattle.kern_types.proofs.Checks.{checked_same, find_kept, passed_first, passed_then, reached}
use Rattle.kern_types.specs.declared.expr_type.ExprType.{ExprType}
use Rattle.kern_types.specs.declared.expr_type.ExprType.TheVariants as types
use Rattle.kern_types.specs.declared.scope.Variable.{Variable}
use Rattle.kern_types.specs.Names.{declaration, earlier_assignment, type_of}
use Rattle.kern_types.specs.Scopes.{Scope}
use Rattle.kern_types.specs.Statements.{act_after, again_check, assignment_after, at_stmt_place, condition_check, contribution_check, if_check, set_after, set_check, stmt_after, stmts_after, target_check, what_declares, with_assigned}
use Rattle.kern_types.specs.Steps.{OrFault, pass}
use Rattle.kern_types.specs.TypingLaws.{AssignmentsFit, IsAssignment}
use Rattle.kern_meaning.specs.declared.stop.PairStop.TheVariants as pair_stops
use Rattle.kern_meaning.specs.Expressions.{value_of}
use Rattle.kern_meaning.specs.Pair.{OrPairStop, PairState, Statements, act_meaning, act_statements, assign, at_stmt, block_meaning, choose, force_type, give}
use Rattle.kern_meaning.specs.Stops.{◌>>=◌}
use Rattle.lane_code.specs.declared.code.RawCode.{RawCode}
use Rattle.lane_code.specs.declared.instruction.Lane.TheVariants as lanes
use Rattle.lane_codegen.specs.declared.place.Place.{Place}
use Rattle.lane_codegen.specs.declared.place.Place.TheVariants.{Scaled, Condition}
use Rattle.lane_codegen.specs.declared.place.Registers.{Registers}
use Rattle.lane_codegen.specs.declared.variable.Assigned.{Assigned}
use Rattle.lane_codegen.specs.Acts.{copies}
use Rattle.lane_codegen.specs.Expressions.{code_of}
use Rattle.lane_codegen.specs.Names.{entry}
use Rattle.lane_codegen.specs.Statements.{StmtMaker, Written, act_code, act_maker, assigned_as, block_code, gift_written, held, held_at, if_written, set_written, stmt_maker}
use Rattle.lane_codegen.specs.Writing.{Made, new_registers, with_gift, with_mask, with_numbers}
use Rattle.pf_model.specs.Particle.{Particle}
use Rattle.pf_model.specs.Totals.{Source}
use Rattle.lane_codegen.proofs.Evaluates.{Evaluates}
use Rattle.lane_codegen.proofs.ExprMeans.{expr_means}
use Rattle.lane_codegen.proofs.ExprSound.{expr_sound}
use Rattle.lane_codegen.proofs.Idle.{stays_none}
use Rattle.lane_codegen.proofs.Operators.{Fits}
use Rattle.lane_codegen.proofs.Runs.{Running}
use Rattle.lane_codegen.proofs.Sound.{Sound, Within}
use Rattle.lane_codegen.proofs.StmtMeans.{IsRun, RunOf, fits_less, gift_ends, if_means}
use Rattle.lane_codegen.proofs.StmtRuns.{Ends, Stands, set_scaled}
use Rattle.lane_codegen.proofs.StmtSound.{StmtSound, block_sound, gift_tidy, held_sound, stmt_sound}
use Rattle.lane_codegen.proofs.Tables.{Ordered, held_of, still_ordered}
use Rattle.lane_codegen.proofs.Tidy.{Grows, Tidy, grows, loosen, same_slots}
use Rattle.lane_codegen.proofs.Tidy as tidy
use Rattle.lane_codegen.proofs.Typing.{Tracks, place_typed, type_of_entry, type_of_place, type_of_variable}

-- ---- the types of names

again_of : (p : ℕ) (kind : Kind) (scale : ℕ) (variable : Option Variable) (old : Assigned) → again_check p kind scale variable ≡ pass → Some (types.Scaled old.kind old.scale) ≡ type_of_variable variable → (old.kind ≡ kind) × (old.scale ≡ scale)
again_of p kind scale None old e same = absurd (let no : ⊥ = cc in no)
again_of p kind scale (Some v) old e same =
    let c = checked_same p v.kind v.scale kind scale e in
    let k : old.kind ≡ v.kind = cc in
    let s : old.scale ≡ v.scale = cc in
    (k ∙ c.0, s ∙ c.1)

module _ (decls : List Decl) (assignments_fit : AssignmentsFit) (p : ℕ) (name : List ℕ) (value : Expr) (scope after : Scope) (e : assignment_after decls p name value scope ≡ Ok after) where
  abbrev assignment : IsAssignment decls name value scope after
  assignment = assignments_fit decls p name value scope after e

  checked_again : again_check p assignment.kind assignment.scale (earlier_assignment scope.earlier name) ≡ pass
  checked_again =
      let set_is : set_after decls p name (types.Scaled assignment.kind assignment.scale) scope ≡ Ok after = sym (ap (λ (t : OrFault ExprType). t >>= (λ type. set_after decls p name type scope)) assignment.typed) ∙ e in
      passed_then (target_check p (what_declares (declaration decls name))) (again_check p assignment.kind assignment.scale (earlier_assignment scope.earlier name)) tt
      (passed_first (set_check decls p name assignment.kind assignment.scale scope) (Ok (with_assigned scope name assignment.kind assignment.scale)) after set_is)

type_or : (a c : Option Assigned) (b d : Option Variable) → type_of_entry a ≡ type_of_variable b → type_of_entry c ≡ type_of_variable d → type_of_entry (option_or a c) ≡ type_of_variable (option_or b d)
type_or (Some a) c (Some b) d e f = e
type_or None c None d e f = f
type_or (Some a) c None d e f = absurd (let no : ⊥ = cc in no)
type_or None c (Some b) d e f = absurd (let no : ⊥ = cc in no)

module _ (table : List Assigned) (earlier : List Variable) (tracks : Tracks table earlier) (name : List ℕ) (kind : Kind) (scale : ℕ) where
  abbrev variable : Variable
  variable = record { name = name; kind = kind; scale = scale }

  tracks_new : (at : Registers) → Tracks (table ++ assigned_as name kind scale at ∷ []) (earlier ++ variable ∷ [])
  tracks_new at other =
      ap type_of_entry (find-append (λ (a : Assigned). bytes_eq a.name other) table (assigned_as name kind scale at ∷ []))
      ∙ type_or (entry table other) _ (earlier_assignment earlier other) _ (tracks other) (last (bytes_eq name other))
      ∙ sym (ap type_of_variable (find-append (λ (v : Variable). bytes_eq v.name other) earlier (variable ∷ []))) where
        last : (b : Bool) → type_of_entry (cond b (Some (assigned_as name kind scale at)) None) ≡ type_of_variable (cond b (Some variable) None)
        last true = refl
        last false = refl

  tracks_old : (old : Assigned) → entry table name ≡ Some old → Tracks table (earlier ++ variable ∷ [])
  tracks_old old e other = by_found (earlier_assignment earlier other) refl ∙ sym (ap type_of_variable (find-append (λ (v : Variable). bytes_eq v.name other) earlier (variable ∷ []))) where
    none_then : (b : Bool) → bytes_eq name other ≡ b → type_of_entry (entry table other) ≡ None → None ≡ type_of_variable (cond b (Some variable) None)
    none_then false f g = refl
    none_then true f g =
        let same : name ≡ other = (bytes_eq-Decides name other).0 f in
        let h : type_of_entry (entry table name) ≡ None = subst (λ (n : List ℕ). type_of_entry (entry table n) ≡ None) (sym same) g in
        let k : type_of_entry (entry table name) ≡ Some (types.Scaled old.kind old.scale) = ap type_of_entry e in
        absurd (let no : ⊥ = cc in no)

    by_found : (found : Option Variable) → earlier_assignment earlier other ≡ found → type_of_entry (entry table other) ≡ type_of_variable (option_or found (cond (bytes_eq name other) (Some variable) None))
    by_found (Some v) f = tracks other ∙ ap type_of_variable f
    by_found None f = let g = tracks other ∙ ap type_of_variable f in g ∙ none_then (bytes_eq name other) refl g

held_slots : (kind : Kind) (name : List ℕ) (scale : ℕ) (at : Registers) (u : ℕ) (table : List Assigned) (x : RawCode) (found : Option Assigned) → (held_at name kind scale (new_registers kind x.numbers) u found (record { table = table; code = with_numbers kind (copies at) u x })).code.slots ≡ x.slots
held_slots kinds.Num name scale at u table x None = refl
held_slots kinds.Vec3 name scale at u table x None = refl
held_slots kinds.Num name scale at u table x (Some old) = refl
held_slots kinds.Vec3 name scale at u table x (Some old) = refl

gift_slots : (place : Place) (u : ℕ) (x : RawCode) → (with_gift place u x).slots ≡ x.slots + 1
gift_slots (Scaled kinds.Num scale at) u x = refl
gift_slots (Scaled kinds.Vec3 scale at) u x = refl
gift_slots (Condition mask) u x = refl

condition_is : (p : ℕ) (type : ExprType) → condition_check p type ≡ pass → type ≡ types.Condition
condition_is p types.Condition e = refl
condition_is p (types.Scaled kind scale) e = absurd (let no : ⊥ = cc in no)

module _ (i : Particle) (j : Source) (decls : List Decl) (start : Running) (coincident : Bool) where
  -- the value of an expression of a statement
  evaluated : (u : ℕ) (w : Written) → u < w.code.masks → Ordered 0 w.table w.code.numbers → {e : Expr} → IsLimited e → (state : PairState) (l : Running) → Stands i j decls start u w state l → Fits start (code_of decls w.table e u w.code).1
      → Evaluates i j start (code_of decls w.table e u w.code) (value_of state.known e)
  evaluated u w there ordered small state l s fits =
      expr_means i j decls start w.table state.known small u w.code l (record { is = s.is; masked = s.masked; unmade = s.unmade; there = there; held = held_of 0 w.code.numbers w.table ordered; agrees = s.agrees }) fits

  module _ (u : ℕ) (w : Written) (there : u < w.code.masks) (ordered : Ordered 0 w.table w.code.numbers) (name : List ℕ) (value : Expr) (kind : Kind) (scale : ℕ) (scope : Scope) (tracks : Tracks w.table scope.earlier) (undeclared : declaration decls name ≡ None)
      (again : (old : Assigned) → entry w.table name ≡ Some old → (old.kind ≡ kind) × (old.scale ≡ scale)) where
    held_run : (p : Place) (x : RawCode) → Sound u w.code (p, x) → type_of_place p ≡ types.Scaled kind scale → ((state : PairState) (l : Running) → Stands i j decls start u w state l → Fits start x → Evaluates i j start (p, x) (value_of state.known value))
        → RunOf i j decls start (with_assigned scope name kind scale) u w (held name u w.table p x) (record { count = 1; slots = 0; run = assign decls coincident name value })
    held_run (Condition m) x sound typed evaluates = absurd (let no : ⊥ = cc in no)
    held_run (Scaled k s at) x sound typed evaluates =
        let kk : k ≡ kind = cc in
        let ss : s ≡ scale = cc in
        let there_x : u < x.masks = (let m = (grows sound.tidy).masks in omega (arith, there, m)) in
        let later = held_sound u name (record { table = w.table; code = x }) there_x (still_ordered 0 w.code.numbers x.numbers w.table (grows sound.tidy).numbers ordered) (Scaled k s at) x (record { tidy = tidy.same; within = sound.within }) in
        record {
          tracks = by_entry (entry w.table name) refl kk ss;
          slots = held_slots k name s at u w.table x (entry w.table name) ∙ same_slots sound.tidy ∙ (let e : w.code.slots ≡ w.code.slots + 0 = omega arith in e);
          names = names_of (entry w.table name) refl;
          runs = λ fits n state l stands room.
              set_scaled i j decls start u name w there ordered undeclared k s at x sound (λ old e. ((again old e).0 ∙ sym kk, (again old e).1 ∙ sym ss)) state l stands coincident n (value_of state.known value)
              (evaluates state l stands (fits_less i j decls start x (held name u w.table (Scaled k s at) x).code (grows later.tidy) fits)) fits;
        } where
          by_entry : (found : Option Assigned) → entry w.table name ≡ found → k ≡ kind → s ≡ scale → Tracks (held_at name k s (new_registers k x.numbers) u found (record { table = w.table; code = with_numbers k (copies at) u x })).table (scope.earlier ++ record { name = name; kind = kind; scale = scale } ∷ [])
          by_entry None e kk ss = subst (λ (q : Kind). Tracks (w.table ++ assigned_as name k s (new_registers k x.numbers) ∷ []) (scope.earlier ++ record { name = name; kind = q; scale = scale } ∷ [])) kk
              (subst (λ (q : ℕ). Tracks (w.table ++ assigned_as name k s (new_registers k x.numbers) ∷ []) (scope.earlier ++ record { name = name; kind = k; scale = q } ∷ [])) ss (tracks_new w.table scope.earlier tracks name k s (new_registers k x.numbers)))
          by_entry (Some old) e kk ss = tracks_old w.table scope.earlier tracks name kind scale old e

          names_of : (found : Option Assigned) → entry w.table name ≡ found → (other : List ℕ) (a : Assigned) → entry w.table other ≡ Some a → entry (held_at name k s (new_registers k x.numbers) u found (record { table = w.table; code = with_numbers k (copies at) u x })).table other ≡ Some a
          names_of None e other a f = find_kept (λ (b : Assigned). bytes_eq b.name other) w.table (assigned_as name k s (new_registers k x.numbers) ∷ []) a f
          names_of (Some old) e other a f = f

  give_run : (u : ℕ) (w : Written) → u < w.code.masks → Ordered 0 w.table w.code.numbers → (name : List ℕ) (value : Expr) (scope : Scope) → Tracks w.table scope.earlier → (p : Place) (x : RawCode) (sound : Sound u w.code (p, x)) → ((state : PairState) (l : Running) → Stands i j decls start u w state l → Fits start x → Evaluates i j start (p, x) (value_of state.known value))
      → RunOf i j decls start scope u w (record { table = w.table; code = with_gift p u x }) (record { count = 1; slots = 1; run = give decls coincident name value })
  give_run u w there ordered name value scope tracks p x sound evaluates = record {
    tracks = tracks;
    slots = gift_slots p u x ∙ ap (λ n. n + 1) (same_slots sound.tidy);
    names = λ other a f. f;
    runs = λ fits n state l stands room.
        let there_x : u < x.masks = (let m = (grows sound.tidy).masks in omega (arith, there, m)) in
        gift_ends i j decls start u w there ordered state l stands p x sound (omega (arith, room)) coincident n (force_type (declaration decls name)) (value_of state.known value)
        (evaluates state l stands (fits_less i j decls start x (with_gift p u x) (grows (gift_tidy u x x w.code.masks p tidy.same there_x sound.within)) fits));
  }

  -- one statement after another
  module _ (u : ℕ) (w next last : Written) (between after : Scope) (one others : Statements) (t : Tidy false u next.code last.code) (first : RunOf i j decls start between u w next one) (more : RunOf i j decls start after u next last others) where
    longer : (q state : PairState) (r : OrPairStop PairState) → length q.given ≡ length state.given → Ends i j decls start u last q r → Ends i j decls start u last state r
    longer q state (Ok end) e h = record { there = h.there; stands = h.stands; long = h.long ∙ e }
    longer q state (Err (pair_stops.Fault fault)) e h = h
    longer q state (Err pair_stops.NoResult) e h = tt

    then_runs : Fits start last.code → (n : ℕ) (state : PairState) (r : OrPairStop PairState) → w.code.slots + (one.slots + others.slots) ≤ length state.given → Ends i j decls start u next state r
        → Ends i j decls start u last state (r >>= (λ q. others.run (n + one.count) (w.code.slots + one.slots) q))
    then_runs fits n state (Ok q) room h =
        let s = first.slots in let long = h.long in
        longer q state (others.run (n + one.count) (w.code.slots + one.slots) q) h.long
        (subst (λ (k : ℕ). Ends i j decls start u last q (others.run (n + one.count) k q)) first.slots (more.runs fits (n + one.count) q h.there h.stands (omega (arith, room, s, long))))
    then_runs fits n state (Err (pair_stops.Fault fault)) room h = stays_none i j start t h
    then_runs fits n state (Err pair_stops.NoResult) room h = tt

    blocks_run : RunOf i j decls start after u w last (record { count = one.count + others.count; slots = one.slots + others.slots; run = λ n slot state. one.run n slot state >>= (λ q. others.run (n + one.count) (slot + one.slots) q) })
    blocks_run = record {
      tracks = more.tracks;
      slots = let a = first.slots in let b = more.slots in omega (arith, a, b);
      names = λ name a e. more.names name a (first.names name a e);
      runs = λ fits n state l stands room. then_runs fits n state (one.run n w.code.slots state) room (first.runs (fits_less i j decls start next.code last.code (grows t) fits) n state l stands (omega (arith, room)));
    }

  -- ---- all

  module _ (assignments_fit : AssignmentsFit) where
    mutual
      stmt_run : {s : Stmt} → IsLimitedStmt s → (scope after : Scope) → stmt_after decls s scope ≡ Ok after → IsRun i j decls start scope after (act_code decls s.act) (act_meaning decls coincident s.act)
      stmt_run (limits.set {place = p} {name = n} {value = v} small) scope after e u w there ordered tracks =
          let e1 = sym (ap (λ f. f p scope) (set_layer (act_after decls) at_stmt_place n v)) ∙ e in
          let is : IsAssignment decls n v scope after = assignments_fit decls p n v scope after e1 in
          subst (λ (m : StmtMaker). RunOf i j decls start after u w (m u w) (act_meaning decls coincident (acts.Set n v))) (sym (set_layer (act_maker decls) stmt_maker n v))
          (subst (λ (q : Statements). RunOf i j decls start after u w (set_written decls n v u w) q) (sym (set_layer (act_statements decls coincident) at_stmt n v))
          (subst (λ (s : Scope). RunOf i j decls start s u w (set_written decls n v u w) (record { count = 1; slots = 0; run = assign decls coincident n v })) (sym is.ends)
          (held_run u w there ordered n v is.kind is.scale scope tracks is.undeclared
          (λ old f. again_of p is.kind is.scale (earlier_assignment scope.earlier n) old (checked_again decls assignments_fit p n v scope after e1) (sym (ap type_of_entry f) ∙ tracks n))
          (code_of decls w.table v u w.code).0 (code_of decls w.table v u w.code).1 (expr_sound decls w.table small u w.code there (held_of 0 w.code.numbers w.table ordered))
          (place_typed decls scope w.table tracks small (types.Scaled is.kind is.scale) is.typed u w.code) (λ state l s fits. evaluated u w there ordered small state l s fits))))
      stmt_run (limits.give {place = p} {name = n} {value = v} small) scope after e u w there ordered tracks =
          let e1 = sym (ap (λ f. f p scope) (give_layer (act_after decls) at_stmt_place n v)) ∙ e in
          let ends = passed_then (contribution_check decls p n v scope) (Ok scope) after e1 in
          let same : scope ≡ after = cc in
          subst (λ (m : StmtMaker). RunOf i j decls start after u w (m u w) (act_meaning decls coincident (acts.Give n v))) (sym (give_layer (act_maker decls) stmt_maker n v))
          (subst (λ (q : Statements). RunOf i j decls start after u w (record { table = w.table; code = gift_written decls v u w.table w.code }) q) (sym (give_layer (act_statements decls coincident) at_stmt n v))
          (subst (λ (s : Scope). RunOf i j decls start s u w (record { table = w.table; code = gift_written decls v u w.table w.code }) (record { count = 1; slots = 1; run = give decls coincident n v })) same
          (give_run u w there ordered n v scope tracks (code_of decls w.table v u w.code).0 (code_of decls w.table v u w.code).1 (expr_sound decls w.table small u w.code there (held_of 0 w.code.numbers w.table ordered)) (λ state l s fits. evaluated u w there ordered small state l s fits))))
      stmt_run (limits.conditional {place = p} {condition = c} {body = body} {others = others} small one two) scope after e u w there ordered tracks =
          let e1 = sym (ap (λ f. f p scope) (if_layer (act_after decls) at_stmt_place c body others)) ∙ e in
          let checked = passed_first (if_check decls p c scope) (stmts_after decls body scope >>= (λ first. stmts_after decls others (before_other scope first) >>= (λ second. Ok (joined first second)))) after e1 in
          let e2 = passed_then (if_check decls p c scope) (stmts_after decls body scope >>= (λ first. stmts_after decls others (before_other scope first) >>= (λ second. Ok (joined first second)))) after e1 in
          let r = reached (type_of decls scope c) (condition_check p) tt checked in
          let is : type_of decls scope c ≡ Ok types.Condition = r.is ∙ ap Ok (condition_is p r.value r.then_is) in
          let f = reached (stmts_after decls body scope) _ after e2 in
          let g = reached (stmts_after decls others (before_other scope f.value)) _ after f.then_is in
          let ends = g.then_is in
          let same : joined f.value g.value ≡ after = cc in
          let made : Made = code_of decls w.table c u w.code in
          let sound = expr_sound decls w.table small u w.code there (held_of 0 w.code.numbers w.table ordered) in
          let ordered_x : Ordered 0 w.table made.1.numbers = still_ordered 0 w.code.numbers made.1.numbers w.table (grows sound.tidy).numbers ordered in
          let next : ℕ → Written = λ m. record { table = w.table; code = with_mask u (lanes.AndNot u m) made.1 } in
          let below : (m : ℕ) → made.0 ≡ Condition m → m < made.1.masks = λ m e. (subst (λ (q : Place). Within w.code.masks made.1 q) e sound.within).1 in
          let first_sound : (m : ℕ) → made.0 ≡ Condition m → StmtSound m (next m) (block_code decls body m (next m)) = λ m e. let b = below m e in block_sound decls one m (next m) (omega (arith, b)) ordered_x in
          let rest_there : (m : ℕ) → made.0 ≡ Condition m → made.1.masks < (block_code decls body m (next m)).code.masks = λ m e. let h = (grows (first_sound m e).tidy).masks in omega (arith, h) in
          let one_run : (m : ℕ) (e : made.0 ≡ Condition m) → RunOf i j decls start f.value m (next m) (block_code decls body m (next m)) (block_meaning decls coincident body) = λ m e. let b = below m e in block_run one scope f.value f.is m (next m) (omega (arith, b)) ordered_x tracks in
          subst (λ (m : StmtMaker). RunOf i j decls start after u w (m u w) (act_meaning decls coincident (acts.If c body others))) (sym (if_layer (act_maker decls) stmt_maker c body others))
          (subst (λ (q : Statements). RunOf i j decls start after u w (if_written decls c (block_code decls body) (block_code decls others) u w) q) (sym (if_layer (act_statements decls coincident) at_stmt c body others))
          (subst (λ (s : Scope). RunOf i j decls start s u w (if_written decls c (block_code decls body) (block_code decls others) u w) (record {
            count = 1 + (block_meaning decls coincident body).count + (block_meaning decls coincident others).count;
            slots = (block_meaning decls coincident body).slots + (block_meaning decls coincident others).slots;
            run = choose decls coincident c (block_meaning decls coincident body) (block_meaning decls coincident others);
          })) same
          (if_means i j decls start coincident c small f.value g.value u w there ordered made.0 made.1 sound (place_typed decls scope w.table tracks small types.Condition is u w.code) (block_code decls body) (block_code decls others) (block_meaning decls coincident body) (block_meaning decls coincident others)
          first_sound (λ m e. block_sound decls two made.1.masks (block_code decls body m (next m)) (rest_there m e) (first_sound m e).ordered)
          one_run (λ m e. block_run two (before_other scope f.value) g.value g.is made.1.masks (block_code decls body m (next m)) (rest_there m e) (first_sound m e).ordered (one_run m e).tracks)
          (λ state l s fits. evaluated u w there ordered small state l s fits))))

      pub block_run : {ss : List Stmt} → IsLimitedBlock ss → (scope after : Scope) → stmts_after decls ss scope ≡ Ok after → IsRun i j decls start scope after (block_code decls ss) (block_meaning decls coincident ss)
      block_run limits.none scope after e u w there ordered tracks =
          let same : scope ≡ after = cc in
          subst (λ (s : Scope). RunOf i j decls start s u w w (block_meaning decls coincident [])) same
          (record {
            tracks = tracks;
            slots = let e : w.code.slots ≡ w.code.slots + 0 = omega arith in e;
            names = λ name a f. f;
            runs = λ fits n state l stands room. record { there = l; stands = stands; long = refl };
          })
      block_run (limits.more {stmt = s} {stmts = ss} one others) scope after e u w there ordered tracks =
          let r = reached (stmt_after decls s scope) (stmts_after decls ss) after e in
          let first = stmt_run one scope r.value r.is u w there ordered tracks in
          let h = stmt_sound decls one u w there ordered in
          let next : Written = act_code decls s.act u w in
          let there2 : u < next.code.masks = (let g = (grows h.tidy).masks in omega (arith, there, g)) in
          let more = block_run others r.value after r.then_is u next there2 h.ordered first.tracks in
          let h2 = block_sound decls others u next there2 h.ordered in
          blocks_run u w next (block_code decls ss u next) r.value after (act_meaning decls coincident s.act) (block_meaning decls coincident ss) h2.tidy first more
