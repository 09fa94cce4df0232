-- The declared variables of a typed kernel have values of their kinds and scales.
use Rattle.std.proofs.Common.{◌≡◌, ℕ, Bool, true, false, ◌&&◌, List, [], ◌∷◌, ℤ, Option, Some, None, cond, find, bytes_eq, option_map, refl, sym, ap, ◌∙◌}
use Rattle.pf_model.specs.declared.field.Field as ours
use Rattle.pf_model.specs.Fields.{along_each_axis, field_of_particle, field_of_source}
use Rattle.pf_model.specs.Particle.{Particle}
use Rattle.pf_model.specs.Totals.{Source}
use Rattle.kern_tree.specs.declared.kernel.Decl.{Decl}
use Rattle.kern_tree.specs.declared.kernel.DeclKind.{DeclKind}
use Rattle.kern_tree.specs.declared.kernel.DeclKind.TheVariants as declared_as
use Rattle.kern_tree.specs.declared.kernel.Kernel.{Kernel}
use Rattle.kern_tree.specs.declared.kernel.Kind.{Kind}
use Rattle.kern_tree.specs.declared.kernel.Kind.TheVariants as kinds
use Rattle.kern_types.specs.declared.expr_type.ExprType.TheVariants as types
use Rattle.kern_types.specs.declared.fields.Field as theirs
use Rattle.kern_types.specs.Declarations.{same_kind, fits_scale, field_check, what_check}
use Rattle.kern_types.specs.Fields as types_table
use Rattle.kern_types.specs.Fields.{there}
use Rattle.kern_types.specs.Names.{declaration, declared_type}
use Rattle.kern_types.specs.Steps.{pass, unless}
use Rattle.kern_types.specs.TypingLaws.{DeclarationsFit}
use Rattle.kern_types.specs.WellTyped.{WellTyped}
use Rattle.kern_meaning.specs.Names.{fields_by_name, field_named, field_kind, scale_of, particle_has, source_has, fits, variable_value, declared_value, name_value}
use Rattle.kern_meaning.specs.Values.{type_of_value, value_of_kind}
use Rattle.kern_types.proofs.Checks.{passed_first, passed_then, tested}
use Rattle.kern_meaning.proofs.Fits.{Fits, FitsAs}

-- ---- the two tables of fields

record Alike (row : theirs.Field) (field : ours.Field) : Type 0 where
  pub epi : row.epi ≡ particle_has field
  pub epj : row.epj ≡ source_has field
  pub kind : row.kind ≡ field_kind field
  pub scale : row.scale ≡ scale_of field

abbrev AllAlike : List (List ℕ × theirs.Field) → List (List ℕ × ours.Field) → Type 0
AllAlike [] [] = Unit {0}
AllAlike [] (y ∷ ys) = ⊥
AllAlike (x ∷ xs) [] = ⊥
AllAlike (x ∷ xs) (y ∷ ys) = (x.0 ≡ y.0) × Alike x.1 y.1 × AllAlike xs ys

abbrev BothAlike : Option theirs.Field → Option ours.Field → Type 0
BothAlike None None = Unit {0}
BothAlike None (Some y) = ⊥
BothAlike (Some x) None = ⊥
BothAlike (Some x) (Some y) = Alike x y

chosen_alike : (test test' : Bool) → test ≡ test' → (x : List ℕ × theirs.Field) (y : List ℕ × ours.Field) (a : Option (List ℕ × theirs.Field)) (b : Option (List ℕ × ours.Field)) → Alike x.1 y.1
    → BothAlike (option_map (λ r. r.1) a) (option_map (λ r. r.1) b) → BothAlike (option_map (λ r. r.1) (cond test (Some x) a)) (option_map (λ r. r.1) (cond test' (Some y) b))
chosen_alike true true e x y a b h k = h
chosen_alike true false e x y a b h k = absurd (let no : ⊥ = cc in no)
chosen_alike false true e x y a b h k = absurd (let no : ⊥ = cc in no)
chosen_alike false false e x y a b h k = k

found_alike : (name : List ℕ) (xs : List (List ℕ × theirs.Field)) (ys : List (List ℕ × ours.Field)) → AllAlike xs ys
    → BothAlike (option_map (λ r. r.1) (find (λ r. bytes_eq r.0 name) xs)) (option_map (λ r. r.1) (find (λ r. bytes_eq r.0 name) ys))
found_alike name [] [] h = tt
found_alike name [] (y ∷ ys) h = absurd h
found_alike name (x ∷ xs) [] h = absurd h
found_alike name (x ∷ xs) (y ∷ ys) h = chosen_alike (bytes_eq x.0 name) (bytes_eq y.0 name) (ap (λ n. bytes_eq n name) h.0) x y _ _ h.1 (found_alike name xs ys h.2)

same : (row : theirs.Field) (field : ours.Field) → row.epi ≡ particle_has field → row.epj ≡ source_has field → row.kind ≡ field_kind field → row.scale ≡ scale_of field → Alike row field
same row field a b c d = record { epi = a; epj = b; kind = c; scale = d }

tables_alike : AllAlike types_table.fields fields_by_name
tables_alike = (refl, same _ _ refl refl refl refl, (refl, same _ _ refl refl refl refl, (refl, same _ _ refl refl refl refl, (refl, same _ _ refl refl refl refl, (refl, same _ _ refl refl refl refl, (refl, same _ _ refl refl refl refl, (refl, same _ _ refl refl refl refl, (refl, same _ _ refl refl refl refl, (refl, same _ _ refl refl refl refl, (refl, same _ _ refl refl refl refl, (refl, same _ _ refl refl refl refl, (refl, same _ _ refl refl refl refl, tt))))))))))))

-- ---- variables

kind_typed : (kind : Kind) (scale : ℕ) (mantissas : List ℤ) → type_of_value (value_of_kind kind scale mantissas) ≡ types.Scaled kind scale
kind_typed kinds.Num scale m = refl
kind_typed kinds.Vec3 scale m = refl

both : (a b c : Bool) → a ≡ true → b ≡ true → c ≡ true → (a && (b && c)) ≡ true
both true true true e f g = refl
both true true false e f g = absurd (let no : ⊥ = cc in no)
both true false c e f g = absurd (let no : ⊥ = cc in no)
both false b c e f g = absurd (let no : ⊥ = cc in no)

present : (test : Bool) (kind : Kind) (scale : ℕ) (mantissas : List ℤ) → test ≡ true
    → FitsAs (types.Scaled kind scale) (name_value (cond test (Some (value_of_kind kind scale mantissas)) None))
present true kind scale m e = kind_typed kind scale m
present false kind scale m e = absurd (let no : ⊥ = cc in no)

module _ (place : ℕ) (kind : Kind) (scale : ℕ) (has : ours.Field → Bool) (parts : ours.Field → List ℤ) where
  one_fits : (row : theirs.Field) (field : ours.Field) (own : Bool) → own ≡ has field → Alike row field → field_check place kind scale (cond own (Some row) None) ≡ pass
      → FitsAs (types.Scaled kind scale) (name_value (variable_value kind scale has parts (Some field)))
  one_fits row field false e h checked = absurd (let no : ⊥ = cc in no)
  one_fits row field true e h checked =
      let right_kind = tested (same_kind row.kind kind) _ (passed_first (unless (same_kind row.kind kind) _) (unless (fits_scale row.scale scale) _) tt checked) in
      let right_scale = tested (fits_scale row.scale scale) _ (passed_then (unless (same_kind row.kind kind) _) (unless (fits_scale row.scale scale) _) tt checked) in
      present (has field && fits kind scale field) kind scale (along_each_axis (parts field))
      (both (has field) (same_kind (field_kind field) kind) (fits_scale (scale_of field) scale) (sym e)
      (ap (λ k. same_kind k kind) (sym h.kind) ∙ right_kind) (ap (λ s. fits_scale s scale) (sym h.scale) ∙ right_scale))

  some_fits : (row : Option theirs.Field) (field : Option ours.Field) (test : theirs.Field → Bool) → ((r : theirs.Field) (f : ours.Field) → Alike r f → test r ≡ has f) → BothAlike row field
      → field_check place kind scale (there test row) ≡ pass → FitsAs (types.Scaled kind scale) (name_value (variable_value kind scale has parts field))
  some_fits None None test own h checked = absurd (let no : ⊥ = cc in no)
  some_fits None (Some f) test own h checked = absurd h
  some_fits (Some r) None test own h checked = absurd h
  some_fits (Some r) (Some f) test own h checked = one_fits r f (test r) (own r f h) h checked

module _ (i : Particle) (j : Source) where
  -- a declared name fits its type
  abbrev pub DeclFits : Decl → Type 0
  DeclFits decl = (place : ℕ) → Fits (declared_type place decl.what) (name_value (declared_value i j decl.what))

  what_fits : (at : ℕ) (what : DeclKind) → what_check at what ≡ pass → (place : ℕ) → Fits (declared_type place what) (name_value (declared_value i j what))
  what_fits at (declared_as.Epi kind scale name) checked place =
      some_fits at kind scale particle_has (λ x. field_of_particle x i) (types_table.field_called name) (field_named name) (λ r. r.epi) (λ r f h. h.epi) (found_alike name types_table.fields fields_by_name tables_alike) checked
  what_fits at (declared_as.Epj kind scale name) checked place =
      some_fits at kind scale source_has (λ x. field_of_source x j) (types_table.field_called name) (field_named name) (λ r. r.epj) (λ r f h. h.epj) (found_alike name types_table.fields fields_by_name tables_alike) checked
  what_fits at (declared_as.Param scale mantissa) checked place = refl
  what_fits at (declared_as.Force kind scale combine) checked place = tt

  pub declared_fit : DeclarationsFit → (kernel : Kernel) → WellTyped kernel → (name : List ℕ) (decl : Decl) → declaration kernel.decls name ≡ Some decl → DeclFits decl
  declared_fit fit kernel typed name decl e = what_fits decl.place decl.what (fit kernel typed name decl e)
