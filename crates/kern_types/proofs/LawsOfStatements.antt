-- The laws of statements: of scopes before and after them, and of what they contribute.
use Rattle.std.proofs.Common.{◌≡◌, ℕ, ◌||◌, ◌&&◌, List, [], ◌∷◌, ◌++◌, Option, Some, None, Ok, cond, bytes_eq, refl, sym, ap, ◌∙◌, subst}
use Rattle.std.specs.List.{AllByRecursion}
use Rattle.std.proofs.lemmas.Slice.Eq.{bytes_eq-Decides}
use Rattle.kern_tree.specs.declared.expr.Expr.{Expr}
use Rattle.kern_tree.specs.declared.kernel.Decl.{Decl}
use Rattle.kern_tree.specs.declared.kernel.DeclKind.{DeclKind}
use Rattle.kern_tree.specs.declared.kernel.DeclKind.TheVariants as declared_as
use Rattle.kern_tree.specs.declared.kernel.Kernel.{Kernel}
use Rattle.kern_tree.specs.declared.kernel.Kind.{Kind}
use Rattle.kern_tree.specs.declared.stmt.Stmt.{Stmt}
use Rattle.kern_tree.specs.Limits as limits
use Rattle.kern_tree.specs.Limits.{IsLimited, IsLimitedStmt, IsLimitedBlock, KeepsLimits, ParsedKernelsKeepLimits}
use Rattle.kern_types.specs.declared.expr_type.ExprType.{ExprType}
use Rattle.kern_types.specs.declared.expr_type.ExprType.TheVariants as types
use Rattle.kern_types.specs.declared.scope.Variable.{Variable}
use Rattle.kern_types.specs.Declarations.{all_decls_check, declared_force, force_type}
use Rattle.kern_types.specs.NameLists.{is_among}
use Rattle.kern_types.specs.Names.{declaration, earlier_assignment, type_of}
use Rattle.kern_types.specs.Paths.{Path, then_each, act_paths, stmt_paths, paths_of_act, paths_through, all_assign}
use Rattle.kern_types.specs.Scopes.{Scope, Grows}
use Rattle.kern_types.specs.Statements.{act_after, at_stmt_place, stmt_after, stmts_after, assignment_after, set_after, set_check, target_check, again_check, what_declares, with_assigned, contribution_check, give_check, given_check, if_check}
use Rattle.kern_types.specs.Steps.{◌>>=◌, pass}
use Rattle.kern_types.specs.TypingLaws.{ScopesOnlyGrow, GrowthIsAnOrder, IsAssignment, AssignmentsFit, CertainIsOnEveryPath, CertainAtTheEnd, HasTypeOf, HaveOneType, NamesKeepTheirType, ContributionsFit}
use Rattle.kern_types.specs.WellTyped.{at_start, kernel_after}
use Rattle.kern_types.proofs.Acts.{before_other, joined}
use Rattle.kern_types.proofs.Checks.{passed_first, passed_then, Reached, reached, checked_same, find_kept, find_later}
use Rattle.kern_tree.proofs.Layers.{set_layer, give_layer, if_layer}
use Rattle.kern_types.proofs.Numbers.{grown_none, grown_then, grown_assigned}
use Rattle.kern_types.proofs.Paths.{or_false, and_true, or_assoc, or_and, among_both, all_of_both, all_then, among_common}

-- ---- an assignment that passes

undeclared : (place : ℕ) (decl : Option Decl) → target_check place (what_declares decl) ≡ pass → decl ≡ None
undeclared place None e = refl
undeclared place (Some decl) e = absurd (declared_target decl.what e) where
  declared_target : (what : DeclKind) → target_check place (Some what) ≡ pass → ⊥
  declared_target (declared_as.Epi kind scale field) e = cc
  declared_target (declared_as.Epj kind scale field) e = cc
  declared_target (declared_as.Param scale value) e = cc
  declared_target (declared_as.Force kind scale combine) e = cc

module _ (decls : List Decl) (place : ℕ) (name : List ℕ) (value : Expr) (scope after : Scope) where
  -- an assignment whose earlier ones are of its kind and scale
  pub record IsLikeEarlier : Type 0 where
    pub assignment : IsAssignment decls name value scope after
    pub again : again_check place assignment.kind assignment.scale (earlier_assignment scope.earlier name) ≡ pass

  like_earlier : assignment_after decls place name value scope ≡ Ok after → IsLikeEarlier
  like_earlier e = of_type r.value r.is r.then_is where
    r : Reached (type_of decls scope value) (λ type. set_after decls place name type scope) after
    r = reached (type_of decls scope value) (λ type. set_after decls place name type scope) after e

    of_type : (type : ExprType) → type_of decls scope value ≡ Ok type → set_after decls place name type scope ≡ Ok after → IsLikeEarlier
    of_type types.Condition is e = absurd (let no : ⊥ = cc in no)
    of_type (types.Scaled kind scale) is e =
        let checked = passed_first (set_check decls place name kind scale scope) (Ok (with_assigned scope name kind scale)) after e in
        let ended = passed_then (set_check decls place name kind scale scope) (Ok (with_assigned scope name kind scale)) after e in
        record {
          assignment = record {
            kind = kind;
            scale = scale;
            typed = is;
            undeclared = undeclared place (declaration decls name) (passed_first (target_check place (what_declares (declaration decls name))) (again_check place kind scale (earlier_assignment scope.earlier name)) tt checked);
            ends = let same : after ≡ with_assigned scope name kind scale = cc in same;
          };
          again = passed_then (target_check place (what_declares (declaration decls name))) (again_check place kind scale (earlier_assignment scope.earlier name)) tt checked;
        }

pub all_assignments_fit : AssignmentsFit
all_assignments_fit decls place name value before after e = (like_earlier decls place name value before after e).assignment

-- ---- what holds of each statement holds of all

module _
    (decls : List Decl)
    (P : Scope → Scope → List Path → Type 0)
    (none : (scope : Scope) → P scope scope ([] ∷ []))
    (one_then : (a b c : Scope) (first second : List Path) → P a b first → P b c second → P a c (then_each first second))
    (assigned : (place : ℕ) (name : List ℕ) (value : Expr) (scope after : Scope) → IsLimited value → IsLikeEarlier decls place name value scope after → P scope after ((name ∷ []) ∷ []))
    (either : (scope first second : Scope) (one two : List Path) → P scope first one → P (before_other scope first) second two → P scope (joined first second) (one ++ two))
  where
    mutual
      stmt_holds : {s : Stmt} → IsLimitedStmt s → (scope after : Scope) → stmt_after decls s scope ≡ Ok after → P scope after (paths_of_act s.act)
      stmt_holds (limits.set {place = p} {name = n} {value = v} small) scope after e =
          subst (P scope after) (sym (set_layer act_paths stmt_paths n v))
          (assigned p n v scope after small (like_earlier decls p n v scope after (sym (ap (λ f. f p scope) (set_layer (act_after decls) at_stmt_place n v)) ∙ e)))
      stmt_holds (limits.give {place = p} {name = n} {value = v} small) scope after e =
          let e1 = sym (ap (λ f. f p scope) (give_layer (act_after decls) at_stmt_place n v)) ∙ e in
          let ended = passed_then (contribution_check decls p n v scope) (Ok scope) after e1 in
          let same : scope ≡ after = cc in
          subst (P scope after) (sym (give_layer act_paths stmt_paths n v)) (subst (λ (s : Scope). P scope s ([] ∷ [])) same (none scope))
      stmt_holds (limits.conditional {place = p} {condition = c} {body = body} {others = others} small one two) scope after e =
          let e1 = sym (ap (λ f. f p scope) (if_layer (act_after decls) at_stmt_place c body others)) ∙ e in
          let e2 = passed_then (if_check decls p c scope) (stmts_after decls body scope >>= (λ first. stmts_after decls others (before_other scope first) >>= (λ second. Ok (joined first second)))) after e1 in
          let f = reached (stmts_after decls body scope) _ after e2 in
          let g = reached (stmts_after decls others (before_other scope f.value)) _ after f.then_is in
          let ended = g.then_is in
          let same : joined f.value g.value ≡ after = cc in
          subst (P scope after) (sym (if_layer act_paths stmt_paths c body others))
          (subst (λ (s : Scope). P scope s (paths_through body ++ paths_through others)) same
          (either scope f.value g.value (paths_through body) (paths_through others) (block_holds one scope f.value f.is) (block_holds two (before_other scope f.value) g.value g.is)))

      pub block_holds : {ss : List Stmt} → IsLimitedBlock ss → (scope after : Scope) → stmts_after decls ss scope ≡ Ok after → P scope after (paths_through ss)
      block_holds limits.none scope after e =
          let same : scope ≡ after = cc in
          subst (λ (s : Scope). P scope s ([] ∷ [])) same (none scope)
      block_holds (limits.more {stmt = s} {stmts = ss} one others) scope after e =
          let r = reached (stmt_after decls s scope) (stmts_after decls ss) after e in
          one_then scope r.value after (paths_of_act s.act) (paths_through ss) (stmt_holds one scope r.value r.is) (block_holds others r.value after r.then_is)

-- ---- scopes only grow

pub only_grow : ScopesOnlyGrow
only_grow decls stmts before after small e =
    block_holds decls (λ a b paths. Grows a.earlier b.earlier) (λ scope. grown_none scope.earlier) (λ a b c first second. grown_then a.earlier b.earlier c.earlier)
    (λ place name value scope ended small is. grown_assigned scope ended name is.assignment.kind is.assignment.scale is.assignment.ends)
    (λ scope first second one two. grown_then scope.earlier first.earlier second.earlier) small before after e

pub growth_is_an_order : GrowthIsAnOrder
growth_is_an_order = record { none = grown_none; then = grown_then }

-- ---- every path

abbrev OnEveryPath : Scope → Scope → List Path → Type 0
OnEveryPath before after paths = (name : List ℕ) → is_among after.certain name ≡ (is_among before.certain name || all_assign paths name)

path_none : (scope : Scope) → OnEveryPath scope scope ([] ∷ [])
path_none scope name = sym (or_false (is_among scope.certain name))

path_then : (a b c : Scope) (first second : List Path) → OnEveryPath a b first → OnEveryPath b c second → OnEveryPath a c (then_each first second)
path_then a b c first second h k name =
    k name ∙ ap (λ x. x || all_assign second name) (h name) ∙ or_assoc (is_among a.certain name) (all_assign first name) (all_assign second name)
    ∙ ap (λ x. is_among a.certain name || x) (sym (all_then name first second))

path_assigned : (scope after : Scope) (assigned : List ℕ) (kind : Kind) (scale : ℕ) → after ≡ with_assigned scope assigned kind scale → OnEveryPath scope after ((assigned ∷ []) ∷ [])
path_assigned scope after assigned kind scale ends name =
    ap (λ (s : Scope). is_among s.certain name) ends ∙ among_both name scope.certain (assigned ∷ [])
    ∙ ap (λ x. is_among scope.certain name || x) (sym (and_true (is_among (assigned ∷ []) name)))

path_either : (scope first second : Scope) (one two : List Path) → OnEveryPath scope first one → OnEveryPath (before_other scope first) second two → OnEveryPath scope (joined first second) (one ++ two)
path_either scope first second one two h k name =
    among_common name first.certain second.certain ∙ (λ i. h name i && k name i) ∙ or_and (is_among scope.certain name) (all_assign one name) (all_assign two name)
    ∙ ap (λ x. is_among scope.certain name || x) (sym (all_of_both name one two))

pub on_every_path : CertainIsOnEveryPath
on_every_path decls stmts before after small e =
    block_holds decls OnEveryPath path_none path_then (λ place name value scope ended small is. path_assigned scope ended name is.assignment.kind is.assignment.scale is.assignment.ends) path_either small before after e

pub after_decls : (kernel : Kernel) (end : Scope) → kernel_after kernel ≡ Ok end → stmts_after kernel.decls kernel.body at_start ≡ Ok end
after_decls kernel end e = passed_then (all_decls_check kernel.decls) (stmts_after kernel.decls kernel.body at_start) end e

pub at_the_end : ParsedKernelsKeepLimits → CertainAtTheEnd
at_the_end keep kernel end parsed e = on_every_path kernel.decls kernel.body at_start end (keep kernel parsed).body (after_decls kernel end e)

-- ---- one type for each name

abbrev OneType : Scope → Scope → List Path → Type 0
OneType before after paths = HaveOneType before.earlier → HaveOneType after.earlier

module _ (earlier : List Variable) (new : Variable) where
  abbrev later : List Variable
  later = earlier ++ new ∷ []

  old_types : (v : Variable) (first : Option Variable) → earlier_assignment earlier v.name ≡ first → HasTypeOf first v → HasTypeOf (earlier_assignment later v.name) v
  old_types v None e h = absurd h
  old_types v (Some w) e h = subst (λ (x : Option Variable). HasTypeOf x v) (sym (find_kept (λ (x : Variable). bytes_eq x.name v.name) earlier (new ∷ []) w e)) h

  new_type : (place : ℕ) (first : Option Variable) → earlier_assignment earlier new.name ≡ first → again_check place new.kind new.scale first ≡ pass → HasTypeOf (earlier_assignment later new.name) new
  new_type place None e checked =
      subst (λ (x : Option Variable). HasTypeOf x new)
      (sym (find_later (λ (x : Variable). bytes_eq x.name new.name) earlier (new ∷ []) e ∙ ap (λ b. cond b (Some new) None) ((bytes_eq-Decides new.name new.name).1 refl))) (refl, refl)
  new_type place (Some w) e checked =
      subst (λ (x : Option Variable). HasTypeOf x new) (sym (find_kept (λ (x : Variable). bytes_eq x.name new.name) earlier (new ∷ []) w e)) (checked_same place w.kind w.scale new.kind new.scale checked)

  all_types : (part : List Variable) → AllByRecursion (λ v. HasTypeOf (earlier_assignment earlier v.name) v) part → HasTypeOf (earlier_assignment later new.name) new → AllByRecursion (λ v. HasTypeOf (earlier_assignment later v.name) v) (part ++ new ∷ [])
  all_types [] h k = (k, tt)
  all_types (v ∷ part) h k = (old_types v (earlier_assignment earlier v.name) refl h.0, all_types part h.1 k)

type_assigned : (place : ℕ) (name : List ℕ) (scope after : Scope) (kind : Kind) (scale : ℕ) → again_check place kind scale (earlier_assignment scope.earlier name) ≡ pass → after ≡ with_assigned scope name kind scale → HaveOneType scope.earlier → HaveOneType after.earlier
type_assigned place name scope after kind scale again ends h =
    let new : Variable = record { name = name; kind = kind; scale = scale } in
    subst (λ (s : Scope). HaveOneType s.earlier) (sym ends) (all_types scope.earlier new scope.earlier h (new_type scope.earlier new place (earlier_assignment scope.earlier name) refl again))

pub keep_their_type : ParsedKernelsKeepLimits → NamesKeepTheirType
keep_their_type keep kernel end parsed e =
    block_holds kernel.decls OneType (λ scope h. h) (λ a b c first second f g h. g (f h))
    (λ place name value scope after small is. type_assigned place name scope after is.assignment.kind is.assignment.scale is.again is.assignment.ends)
    (λ scope first second one two f g h. g (f h)) (keep kernel parsed).body at_start end (after_decls kernel end e) tt

-- ---- contributions

abbrev Given : ExprType → Option ExprType → Type 0
Given type force = (kind : Kind) × (scale : ℕ) × (type ≡ types.Scaled kind scale) × (force ≡ Some (types.Scaled kind scale))

given_type : (place : ℕ) (decl : Option Decl) (earlier : Option Variable) (type : ExprType) → given_check place (what_declares decl) earlier type ≡ pass → Given type (force_type decl)
given_type place None None type e = absurd (let no : ⊥ = cc in no)
given_type place None (Some v) type e = absurd (let no : ⊥ = cc in no)
given_type place (Some decl) earlier type e = declared_given decl.what type e where
  declared_given : (what : DeclKind) (type : ExprType) → given_check place (Some what) earlier type ≡ pass → Given type (declared_force what)
  declared_given (declared_as.Epi kind scale field) type e = absurd (let no : ⊥ = cc in no)
  declared_given (declared_as.Epj kind scale field) type e = absurd (let no : ⊥ = cc in no)
  declared_given (declared_as.Param scale value) type e = absurd (let no : ⊥ = cc in no)
  declared_given (declared_as.Force kind scale combine) types.Condition e = absurd (let no : ⊥ = cc in no)
  declared_given (declared_as.Force kind scale combine) (types.Scaled own own_scale) e =
      let same = checked_same place kind scale own own_scale e in
      (own, own_scale, refl, ap (λ k. Some (types.Scaled k scale)) same.0 ∙ ap (λ s. Some (types.Scaled own s)) same.1)

pub all_contributions_fit : ContributionsFit
all_contributions_fit decls place name value scope checked =
    let r = reached (type_of decls scope value) (give_check decls place name scope) tt checked in
    let given = given_type place (declaration decls name) (earlier_assignment scope.earlier name) r.value r.then_is in
    (given.0, given.1, r.is ∙ ap Ok given.2, given.3)
