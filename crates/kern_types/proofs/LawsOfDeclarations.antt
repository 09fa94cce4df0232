-- The laws of declarations.
use Rattle.std.proofs.Common.{◌≡◌, ℕ, ◌+◌, ◌≤◌, Bool, true, false, List, [], ◌∷◌, ◌++◌, Option, Some, None, length, cond, flat_map, bytes_eq, refl, sym, ap, ◌∙◌, subst, arith, append_assoc, length-append}
use Rattle.std.specs.List.{AllByRecursion}
use Rattle.std.proofs.lemmas.Slice.Eq.{bytes_eq-Decides}
use Rattle.kern_tree.specs.declared.kernel.Decl.{Decl}
use Rattle.kern_tree.specs.declared.kernel.DeclKind.{DeclKind}
use Rattle.kern_tree.specs.declared.kernel.DeclKind.TheVariants as declared_as
use Rattle.kern_tree.specs.declared.kernel.Kernel.{Kernel}
use Rattle.kern_tree.specs.Nodes.{stmt_nodes}
use Rattle.kern_tree.specs.Limits.{ParsedKernelsKeepLimits}
use Rattle.kern_types.specs.Declarations.{new_check, what_check, decl_check, decls_check, all_decls_check, force_as, forces_of}
use Rattle.kern_types.specs.Names.{declaration}
use Rattle.kern_types.specs.Statements.{stmts_after}
use Rattle.kern_types.specs.Steps.{pass}
use Rattle.kern_types.specs.TypingLaws.{NamesAreDeclaredOnce, DeclarationsFit, ForcesAndSlotsAreFew}
use Rattle.kern_types.specs.WellTyped.{WellTyped, at_start}
use Rattle.kern_types.proofs.Checks.{passed_first, passed_then, find_later}
use Rattle.kern_types.proofs.Nodes.{block_slots}

checked_decls : (kernel : Kernel) → WellTyped kernel → decls_check [] kernel.decls ≡ pass
checked_decls kernel typed =
    let all = passed_first (all_decls_check kernel.decls) (stmts_after kernel.decls kernel.body at_start) typed.0 typed.1 in
    passed_first (decls_check [] kernel.decls) _ tt all

-- ---- each name once

undeclared : (place : ℕ) (decl : Option Decl) → new_check place decl ≡ pass → decl ≡ None
undeclared place None e = refl
undeclared place (Some decl) e = absurd (let no : ⊥ = cc in no)

each_once : (whole earlier decls : List Decl) → whole ≡ earlier ++ decls → decls_check earlier decls ≡ pass → AllByRecursion (λ d. declaration whole d.name ≡ Some d) decls
each_once whole earlier [] is checked = tt
each_once whole earlier (d ∷ decls) is checked =
    let first = passed_first (decl_check earlier d) (decls_check (earlier ++ d ∷ []) decls) tt checked in
    let others = passed_then (decl_check earlier d) (decls_check (earlier ++ d ∷ []) decls) tt checked in
    let new = undeclared d.place (declaration earlier d.name) (passed_first (new_check d.place (declaration earlier d.name)) (what_check d.place d.what) tt first) in (
      ap (λ ds. declaration ds d.name) is ∙ find_later (λ (x : Decl). bytes_eq x.name d.name) earlier (d ∷ decls) new
          ∙ ap (λ b. cond b (Some d) (declaration decls d.name)) ((bytes_eq-Decides d.name d.name).1 refl),
      each_once whole (earlier ++ d ∷ []) decls (is ∙ sym (append_assoc earlier (d ∷ []) decls)) others,
    )

pub names_declared_once : NamesAreDeclaredOnce
names_declared_once kernel typed = each_once kernel.decls [] kernel.decls refl (checked_decls kernel typed)

-- ---- each fits

found : (test : Bool) (d : Decl) (rest : Option Decl) (decl : Decl) → cond test (Some d) rest ≡ Some decl → what_check d.place d.what ≡ pass → (rest ≡ Some decl → what_check decl.place decl.what ≡ pass) → what_check decl.place decl.what ≡ pass
found true d rest decl e h k = subst (λ (x : Decl). what_check x.place x.what ≡ pass) (let same : d ≡ decl = cc in same) h
found false d rest decl e h k = k e

each_fits : (earlier decls : List Decl) → decls_check earlier decls ≡ pass → (name : List ℕ) (decl : Decl) → declaration decls name ≡ Some decl → what_check decl.place decl.what ≡ pass
each_fits earlier [] checked name decl e = absurd (let no : ⊥ = cc in no)
each_fits earlier (d ∷ decls) checked name decl e =
    let first = passed_first (decl_check earlier d) (decls_check (earlier ++ d ∷ []) decls) tt checked in
    let others = passed_then (decl_check earlier d) (decls_check (earlier ++ d ∷ []) decls) tt checked in
    found (bytes_eq d.name name) d (declaration decls name) decl e
    (passed_then (new_check d.place (declaration earlier d.name)) (what_check d.place d.what) tt first)
    (each_fits (earlier ++ d ∷ []) decls others name decl)

pub all_declarations_fit : DeclarationsFit
all_declarations_fit kernel typed = each_fits [] kernel.decls (checked_decls kernel typed)

-- ---- few

few_as : (name : List ℕ) (what : DeclKind) → length (force_as name what) ≤ 1
few_as name (declared_as.Force kind scale combine) = omega arith
few_as name (declared_as.Epi kind scale field) = omega arith
few_as name (declared_as.Epj kind scale field) = omega arith
few_as name (declared_as.Param scale value) = omega arith

few_forces : (decls : List Decl) → length (forces_of decls) ≤ length (flat_map (λ (d : Decl). d.place ∷ []) decls)
few_forces [] = omega arith
few_forces (d ∷ decls) = omega (arith, few_as d.name d.what, few_forces decls, length-append (force_as d.name d.what) (forces_of decls))

pub few : ParsedKernelsKeepLimits → ForcesAndSlotsAreFew
few limits kernel parsed =
    let small = limits kernel parsed in
    omega (arith, small.few, few_forces kernel.decls, block_slots small.body, length-append (flat_map (λ (d : Decl). d.place ∷ []) kernel.decls) (flat_map stmt_nodes kernel.body))
