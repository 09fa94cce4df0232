-- The code of an expression gives its value in a lane, or faults where it has a fault.
use Rattle.std.proofs.Common.{◌≡◌, ℕ, ◌<◌, ◌≤◌, List, Bool, true, false, cond, Option, Some, None, Ok, Err, [], ◌∷◌, ℤ, pos, refl, sym, ap, ◌∙◌, subst, arith}
use Rattle.std.specs.Prelude.{nat_lt, ◌^◌}
use Rattle.std.proofs.lemmas.Bool.{lt-ltb}
use Rattle.kern_tree.specs.declared.expr.Expr.{Expr}
use Rattle.kern_tree.specs.declared.kernel.Decl.{Decl}
use Rattle.kern_tree.specs.declared.kernel.DeclKind.{DeclKind}
use Rattle.kern_tree.specs.declared.kernel.DeclKind.TheVariants as declared_as
use Rattle.kern_tree.specs.declared.kernel.Kind.{Kind}
use Rattle.kern_tree.specs.declared.kernel.Kind.TheVariants as kinds
use Rattle.kern_types.specs.declared.expr_type.ExprType.TheVariants as types
use Rattle.kern_types.specs.Names.{declaration}
use Rattle.kern_meaning.proofs.Literals.{literal_value-small}
use Rattle.kern_meaning.specs.declared.stop.Stop.TheVariants as stops
use Rattle.kern_meaning.specs.declared.value.Value.{Value}
use Rattle.kern_meaning.specs.declared.value.Value.TheVariants as values
use Rattle.kern_meaning.specs.Expressions.{value_of}
use Rattle.kern_meaning.specs.Names.{Known, declared_value, field_named, fits as fits_field, name_value, particle_has, source_has, variable_value}
use Rattle.kern_meaning.specs.Operators.{literal_value}
use Rattle.kern_meaning.specs.Stops.{OrStop, ◌>>=◌}
use Rattle.lane_code.specs.declared.code.RawCode.{RawCode}
use Rattle.lane_code.specs.declared.instruction.Lane.TheVariants as lanes
use Rattle.lane_code.specs.Steps.{LaneState, component, mask_at, number_at, number_of}
use Rattle.kern_meaning.specs.Values.{value_of_kind}
use Rattle.lane_codegen.specs.declared.acts.Acts.{Acts}
use Rattle.pf_geom.specs.declared.axis.Axis.TheVariants.{X, Y, Z}
use Rattle.lane_codegen.specs.declared.place.Place.{Place}
use Rattle.lane_codegen.specs.declared.place.Place.TheVariants.{Scaled, Condition}
use Rattle.lane_codegen.specs.declared.variable.Assigned.{Assigned}
use Rattle.lane_codegen.specs.Acts.{alike}
use Rattle.lane_codegen.specs.Expressions.{code_of, literal_made}
use Rattle.lane_codegen.specs.Names.{declared_made, entry, item_loads, named_made, particle_loads}
use Rattle.lane_codegen.specs.Writing.{Made, nothing_made, value_made}
use Rattle.pf_model.specs.declared.field.Field.{Field}
use Rattle.pf_model.specs.declared.field.Field.TheVariants as fields
use Rattle.pf_model.specs.Fields.{along_each_axis, field_of_particle, field_of_source}
use Rattle.pf_model.specs.Particle.{Particle}
use Rattle.pf_model.specs.Totals.{Source}
use Rattle.lane_codegen.proofs.Evaluates.{Evaluates, value_at}
use Rattle.lane_codegen.proofs.Idle.{kept, lane}
use Rattle.lane_codegen.proofs.Operators.{Fits, num_at, vec_at}
use Rattle.lane_codegen.proofs.Runs.{Running}
use Rattle.lane_codegen.proofs.Sound.{AreHeld, ArePlain, AreThere, constant_plain, entry_held, item_plain, particle_plain, still_held}
use Rattle.lane_codegen.proofs.Tidy.{Grows, Tidy, grows}

-- the value that a name has in its registers
pub record Found (table : List Assigned) (name : List ℕ) (v : Value) (t : LaneState) : Type 0 where
  pub assigned : Assigned
  pub is : entry table name ≡ Some assigned
  pub value : value_at (Scaled assigned.kind assigned.scale assigned.at) t ≡ v

module _ (i : Particle) (j : Source) (decls : List Decl) where
  -- names have in a lane the values that are known of them
  pub record Agrees (table : List Assigned) (known : Known) (t : LaneState) : Type 0 where
    pub declared : (name : List ℕ) (decl : Decl) → declaration decls name ≡ Some decl → known name ≡ declared_value i j decl.what
    pub assigned : (name : List ℕ) → declaration decls name ≡ None → (v : Value) → known name ≡ Some v → Found table name v t

  same_value : (n : ℕ) (place : Place) (t k : LaneState) → ((r : ℕ) → r < n → number_at k.numbers r ≡ number_at t.numbers r) → (kind : Kind) (scale : ℕ) → (a : Assigned) → AreThere n a.at → value_at (Scaled kind scale a.at) k ≡ value_at (Scaled kind scale a.at) t
  same_value n place t k h kinds.Num scale a there = ap (λ x. values.Num x scale) (h a.at.x there.x)
  same_value n place t k h kinds.Vec3 scale a there = three (h a.at.x there.x) (h a.at.y there.y) (h a.at.z there.z) where
    three : {x y z x' y' z' : ℤ} → x' ≡ x → y' ≡ y → z' ≡ z → values.Vec3 (x' ∷ y' ∷ z' ∷ []) scale ≡ values.Vec3 (x ∷ y ∷ z ∷ []) scale
    three e f g = cc

  -- after code that leaves the registers of names
  pub still_agrees : (table : List Assigned) (known : Known) (n : ℕ) (t k : LaneState) → AreHeld table n → ((r : ℕ) → r < n → number_at k.numbers r ≡ number_at t.numbers r) → Agrees table known t → Agrees table known k
  still_agrees table known n t k held h agrees = record {
    declared = agrees.declared;
    assigned = λ name none v e.
        let f = agrees.assigned name none v e in
        record { assigned = f.assigned; is = f.is; value = same_value n (Condition 0) t k h f.assigned.kind f.assigned.scale f.assigned (entry_held table name n f.assigned held f.is) ∙ f.value };
  }

  module _ (start : Running) (table : List Assigned) (known : Known) where
    -- a lane of the mask, in which code is written next
    pub record Ready (u : ℕ) (w : RawCode) (l : Running) : Type 0 where
      pub is : lane i j start w ≡ Some l
      pub masked : mask_at l.state.masks u ≡ true
      pub unmade : (m : ℕ) → w.masks ≤ m → mask_at l.state.masks m ≡ false
      pub there : u < w.masks
      pub held : AreHeld table w.numbers
      pub agrees : Agrees table known l.state

    -- after an expression
    pub ready_after : (u v : ℕ) (w x : RawCode) (l k : Running) → Ready u w l → Tidy true v w x → lane i j start x ≡ Some k → Ready u x k
    ready_after u v w x l k r t is =
        let h = kept i j start t l k r.is is in
        let g = grows t in
        let m = g.masks in
        let there = r.there in
        record {
          is = is;
          masked = h.masks u r.there ∙ r.masked;
          unmade = λ n above. h.unmade n above ∙ r.unmade n (omega (arith, above, m));
          there = omega (arith, there, m);
          held = still_held table w.numbers x.numbers g.numbers r.held;
          agrees = still_agrees table known w.numbers l.state k.state r.held (h.numbers refl) r.agrees;
        }

    abbrev pub Runs : Expr → Type 0
    Runs e = (u : ℕ) (w : RawCode) (l : Running) → Ready u w l → Fits start (code_of decls table e u w).1 → Evaluates i j start (code_of decls table e u w) (value_of known e)

    -- a step after an expression: by its value, or its fault
    pub bind_runs : (made : Made) (answer : OrStop Value) (next : Place → RawCode → Made) (then_value : Value → OrStop Value) → Evaluates i j start made answer → (lane i j start made.1 ≡ None → lane i j start (next made.0 made.1).1 ≡ None)
        → ((k : Running) → lane i j start made.1 ≡ Some k → Evaluates i j start (next made.0 made.1) (then_value (value_at made.0 k.state)))
        → Evaluates i j start (next made.0 made.1) (answer >>= then_value)
    bind_runs made (Ok v) next then_value h faults step = subst (λ (x : Value). Evaluates i j start (next made.0 made.1) (then_value x)) h.value (step h.there h.is)
    bind_runs made (Err (stops.Fault fault)) next then_value h faults step = faults h
    bind_runs made (Err stops.NoResult) next then_value h faults step = tt

    pub fits_before : (w x : RawCode) → Grows w x → Fits start x → Fits start w
    fits_before w x g f = let a = g.numbers in let b = g.masks in let c = f.numbers in let d = f.masks in record { numbers = omega (arith, a, c); masks = omega (arith, b, d) }

    -- ---- names and literals

    module _ (u : ℕ) (w : RawCode) (l : Running) (r : Ready u w l) where
      fields_run : (kind : Kind) (scale : ℕ) (field : Field) (parts : List ℤ) (acts : Acts) → ArePlain w.numbers acts → number_of i j l.state.numbers acts.x ≡ Some (Ok (component X parts)) → number_of i j l.state.numbers acts.y ≡ Some (Ok (component Y parts)) → number_of i j l.state.numbers acts.z ≡ Some (Ok (component Z parts))
          → Fits start (value_made (types.Scaled kind scale) acts u w).1 → Evaluates i j start (value_made (types.Scaled kind scale) acts u w) (Ok (value_of_kind kind scale (along_each_axis parts)))
      fields_run kinds.Num scale field parts acts p e1 e2 e3 fits = num_at i j start u w l r.is r.masked r.there scale acts (Ok _) p e1 fits
      fields_run kinds.Vec3 scale field parts acts p e1 e2 e3 fits = vec_at i j start u w l r.is r.masked r.there scale acts (Ok _) (Ok _) (Ok _) p e1 e2 e3 fits

      tested : (test : Bool) (made : Made) (v : Value) → Evaluates i j start made (Ok v) → Evaluates i j start made (name_value (cond test (Some v) None))
      tested true made v h = h
      tested false made v h = tt

      particle_runs : (kind : Kind) (scale : ℕ) (found : Option Field) → Fits start (value_made (types.Scaled kind scale) (particle_loads found) u w).1
          → Evaluates i j start (value_made (types.Scaled kind scale) (particle_loads found) u w) (name_value (variable_value kind scale particle_has (λ of. field_of_particle of i) found))
      particle_runs kind scale None fits = tt
      particle_runs kind scale (Some fields.Count) fits = tt
      particle_runs kind scale (Some fields.Pos) fits = tested (fits_field kind scale fields.Pos) _ _ (fields_run kind scale fields.Pos (field_of_particle fields.Pos i) _ (particle_plain w.numbers (Some fields.Pos)) refl refl refl fits)
      particle_runs kind scale (Some fields.Vel) fits = tested (fits_field kind scale fields.Vel) _ _ (fields_run kind scale fields.Vel (field_of_particle fields.Vel i) _ (particle_plain w.numbers (Some fields.Vel)) refl refl refl fits)
      particle_runs kind scale (Some fields.Mass) fits = tested (fits_field kind scale fields.Mass) _ _ (fields_run kind scale fields.Mass (field_of_particle fields.Mass i) _ (particle_plain w.numbers (Some fields.Mass)) refl refl refl fits)
      particle_runs kind scale (Some fields.C0) fits = tested (fits_field kind scale fields.C0) _ _ (fields_run kind scale fields.C0 (field_of_particle fields.C0 i) _ (particle_plain w.numbers (Some fields.C0)) refl refl refl fits)
      particle_runs kind scale (Some fields.C1) fits = tested (fits_field kind scale fields.C1) _ _ (fields_run kind scale fields.C1 (field_of_particle fields.C1 i) _ (particle_plain w.numbers (Some fields.C1)) refl refl refl fits)
      particle_runs kind scale (Some fields.C2) fits = tested (fits_field kind scale fields.C2) _ _ (fields_run kind scale fields.C2 (field_of_particle fields.C2 i) _ (particle_plain w.numbers (Some fields.C2)) refl refl refl fits)
      particle_runs kind scale (Some fields.C3) fits = tested (fits_field kind scale fields.C3) _ _ (fields_run kind scale fields.C3 (field_of_particle fields.C3 i) _ (particle_plain w.numbers (Some fields.C3)) refl refl refl fits)
      particle_runs kind scale (Some fields.C4) fits = tested (fits_field kind scale fields.C4) _ _ (fields_run kind scale fields.C4 (field_of_particle fields.C4 i) _ (particle_plain w.numbers (Some fields.C4)) refl refl refl fits)
      particle_runs kind scale (Some fields.C5) fits = tested (fits_field kind scale fields.C5) _ _ (fields_run kind scale fields.C5 (field_of_particle fields.C5 i) _ (particle_plain w.numbers (Some fields.C5)) refl refl refl fits)
      particle_runs kind scale (Some fields.C6) fits = tested (fits_field kind scale fields.C6) _ _ (fields_run kind scale fields.C6 (field_of_particle fields.C6 i) _ (particle_plain w.numbers (Some fields.C6)) refl refl refl fits)
      particle_runs kind scale (Some fields.C7) fits = tested (fits_field kind scale fields.C7) _ _ (fields_run kind scale fields.C7 (field_of_particle fields.C7 i) _ (particle_plain w.numbers (Some fields.C7)) refl refl refl fits)

      item_runs : (kind : Kind) (scale : ℕ) (found : Option Field) → Fits start (value_made (types.Scaled kind scale) (item_loads found) u w).1
          → Evaluates i j start (value_made (types.Scaled kind scale) (item_loads found) u w) (name_value (variable_value kind scale source_has (λ of. field_of_source of j) found))
      item_runs kind scale None fits = tt
      item_runs kind scale (Some fields.Vel) fits = tt
      item_runs kind scale (Some fields.Pos) fits = tested (fits_field kind scale fields.Pos) _ _ (fields_run kind scale fields.Pos (field_of_source fields.Pos j) _ (item_plain w.numbers (Some fields.Pos)) refl refl refl fits)
      item_runs kind scale (Some fields.Count) fits = tested (fits_field kind scale fields.Count) _ _ (fields_run kind scale fields.Count (field_of_source fields.Count j) _ (item_plain w.numbers (Some fields.Count)) refl refl refl fits)
      item_runs kind scale (Some fields.Mass) fits = tested (fits_field kind scale fields.Mass) _ _ (fields_run kind scale fields.Mass (field_of_source fields.Mass j) _ (item_plain w.numbers (Some fields.Mass)) refl refl refl fits)
      item_runs kind scale (Some fields.C0) fits = tested (fits_field kind scale fields.C0) _ _ (fields_run kind scale fields.C0 (field_of_source fields.C0 j) _ (item_plain w.numbers (Some fields.C0)) refl refl refl fits)
      item_runs kind scale (Some fields.C1) fits = tested (fits_field kind scale fields.C1) _ _ (fields_run kind scale fields.C1 (field_of_source fields.C1 j) _ (item_plain w.numbers (Some fields.C1)) refl refl refl fits)
      item_runs kind scale (Some fields.C2) fits = tested (fits_field kind scale fields.C2) _ _ (fields_run kind scale fields.C2 (field_of_source fields.C2 j) _ (item_plain w.numbers (Some fields.C2)) refl refl refl fits)
      item_runs kind scale (Some fields.C3) fits = tested (fits_field kind scale fields.C3) _ _ (fields_run kind scale fields.C3 (field_of_source fields.C3 j) _ (item_plain w.numbers (Some fields.C3)) refl refl refl fits)
      item_runs kind scale (Some fields.C4) fits = tested (fits_field kind scale fields.C4) _ _ (fields_run kind scale fields.C4 (field_of_source fields.C4 j) _ (item_plain w.numbers (Some fields.C4)) refl refl refl fits)
      item_runs kind scale (Some fields.C5) fits = tested (fits_field kind scale fields.C5) _ _ (fields_run kind scale fields.C5 (field_of_source fields.C5 j) _ (item_plain w.numbers (Some fields.C5)) refl refl refl fits)
      item_runs kind scale (Some fields.C6) fits = tested (fits_field kind scale fields.C6) _ _ (fields_run kind scale fields.C6 (field_of_source fields.C6 j) _ (item_plain w.numbers (Some fields.C6)) refl refl refl fits)
      item_runs kind scale (Some fields.C7) fits = tested (fits_field kind scale fields.C7) _ _ (fields_run kind scale fields.C7 (field_of_source fields.C7 j) _ (item_plain w.numbers (Some fields.C7)) refl refl refl fits)

      declared_runs : (what : DeclKind) → Fits start (declared_made what u w).1 → Evaluates i j start (declared_made what u w) (name_value (declared_value i j what))
      declared_runs (declared_as.Epi kind scale field) fits = particle_runs kind scale (field_named field) fits
      declared_runs (declared_as.Epj kind scale field) fits = item_runs kind scale (field_named field) fits
      declared_runs (declared_as.Param scale v) fits = num_at i j start u w l r.is r.masked r.there scale (alike (lanes.Const v)) (Ok v) (constant_plain w.numbers v) refl fits
      declared_runs (declared_as.Force kind scale combine) fits = tt

      assigned_runs : (name : List ℕ) (found : Option Assigned) (known_as : Option Value) → entry table name ≡ found → declaration decls name ≡ None → known name ≡ known_as → Evaluates i j start (named_made None found u w) (name_value known_as)
      assigned_runs name found None e none k = tt
      assigned_runs name None (Some v) e none k = let f = r.agrees.assigned name none v k in let g = f.is in absurd (let no : ⊥ = cc in no)
      assigned_runs name (Some a) (Some v) e none k =
          let f = r.agrees.assigned name none v k in
          let g = f.is in
          let same : f.assigned ≡ a = cc in
          record { there = l; is = r.is; value = subst (λ (x : Assigned). value_at (Scaled x.kind x.scale x.at) l.state ≡ v) same f.value }

      pub named_runs : (name : List ℕ) (decl : Option Decl) → declaration decls name ≡ decl → Fits start (named_made decl (entry table name) u w).1 → Evaluates i j start (named_made decl (entry table name) u w) (name_value (known name))
      named_runs name (Some decl) e fits = subst (λ (x : Option Value). Evaluates i j start (declared_made decl.what u w) (name_value x)) (sym (r.agrees.declared name decl e)) (declared_runs decl.what fits)
      named_runs name None e fits = assigned_runs name (entry table name) (known name) refl e refl

      pub literal_runs : (m scale : ℕ) → m < 2 ^ 63 → Fits start (literal_made m scale u w).1 → Evaluates i j start (literal_made m scale u w) (literal_value m scale)
      literal_runs m scale small fits = subst (λ (x : OrStop Value). Evaluates i j start (literal_made m scale u w) x) (sym (literal_value-small m scale small)) (by_test (nat_lt m (2 ^ 63)) (lt-ltb m (2 ^ 63) small) fits) where
        by_test : (b : Bool) → b ≡ true → Fits start (cond b (value_made (types.Scaled kinds.Num scale) (alike (lanes.Const (pos m))) u w) (nothing_made u w)).1 → Evaluates i j start (cond b (value_made (types.Scaled kinds.Num scale) (alike (lanes.Const (pos m))) u w) (nothing_made u w)) (Ok (values.Num (pos m) scale))
        by_test true e fits = num_at i j start u w l r.is r.masked r.there scale (alike (lanes.Const (pos m))) (Ok (pos m)) (constant_plain w.numbers (pos m)) refl fits
        by_test false e fits = absurd (let no : ⊥ = cc in no)
