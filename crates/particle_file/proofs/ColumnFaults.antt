-- The first fault among the columns of a line, and of the line.
use Rattle.std.proofs.Common.{◌≡◌, ℕ, zero, suc, ◌+◌, ◌<◌, eqb, true, false, cond, ℤ, List, [], ◌∷◌, length, add-zero, Result, Ok, Err, refl, sym, ap, ◌∙◌, subst, ◌⊎◌, inl, inr, ⊎_elim, arith}
use Rattle.std.specs.List.{list_any}
use Rattle.std.proofs.lemmas.Bool.{cases_Bool}
use Rattle.pf_model.specs.Particle.{Particle}
use Rattle.text_lines.specs.Laws.{IntegersAreFound}
use Rattle.text_lines.specs.Lines.{FieldLine}
use Rattle.text_lines.specs.Numbers.{is_integer, integer_value, is_between, integer_in}
use Rattle.text_lines.specs.declared.number.NumberFault.{NumberFault}
use Rattle.text_lines.specs.declared.number.NumberFault.TheVariants.{NoNumber, OutOfRange}
use Rattle.particle_file.specs.Columns.{columns, particle_of, numbers}
use Rattle.particle_file.specs.FirstFault.{WritesWithin, IsRight, LacksNumber, IsExtra, IsPast, IsColumnFault, IsLineFault}
use Rattle.particle_file.specs.Reading.{◌>>=◌, number_or, with_first, numbers_in, particle_in}
use Rattle.particle_file.specs.Spelling.{SpellNumbers}
use Rattle.particle_file.specs.declared.columns.Limits.{Limits}
use Rattle.particle_file.specs.declared.fault.PartFault.{PartFault}
use Rattle.particle_file.specs.declared.fault.PartFault.TheVariants as faults
use Rattle.particle_file.proofs.IdLemmas.{has_id}
use Rattle.particle_file.proofs.NumberLemmas.{numbers-particle_of, particle_of-particle, particle_of-plain, particle_of-numbers, numbers-within}
use Rattle.particle_file.proofs.ReadingLemmas.{numbers_in-within}
use Rattle.particle_file.proofs.SpellingLemmas.{numbers_in-spelled, numbers_in-read}

with_first-err : (n : ℤ) (read : Result (List ℤ) PartFault) (fault : PartFault) → with_first n read ≡ Err fault → read ≡ Err fault
with_first-err n (Ok ns) fault e = cc
with_first-err n (Err other) fault e = let same : other ≡ fault = cc in ap Err same

no_integer : (least most : ℤ) (field : List ℕ) → integer_in least most field ≡ Err NoNumber → is_integer field ≡ false
no_integer least most field e =
    ⊎_elim
    (λ (passes : is_integer field ≡ true). ⊎_elim
    (λ (inside : is_between least most (integer_value field) ≡ true). let h = rw (passes, inside) at e in cc)
    (λ (outside : is_between least most (integer_value field) ≡ false). let h = rw (passes, outside) at e in cc)
    (cases_Bool (is_between least most (integer_value field))))
    (λ fails. fails)
    (cases_Bool (is_integer field))

an_integer : (least most : ℤ) (field : List ℕ) → integer_in least most field ≡ Err OutOfRange → is_integer field ≡ true
an_integer least most field e =
    ⊎_elim
    (λ passes. passes)
    (λ (fails : is_integer field ≡ false). let h = rw fails at e in cc)
    (cases_Bool (is_integer field))

not_within : (limits : Limits) (field : List ℕ) (why : NumberFault) → IntegersAreFound → integer_in limits.least limits.most field ≡ Err why → WritesWithin limits field → ⊥
not_within limits field why found e writes = let ok = (found limits.least limits.most field writes.0).1 writes.1 in let both = sym ok ∙ e in cc

out_of_range : (limits : Limits) (field : List ℕ) → IntegersAreFound → is_integer field ≡ true → (WritesWithin limits field → ⊥) → integer_in limits.least limits.most field ≡ Err OutOfRange
out_of_range limits field found digits past =
    ⊎_elim
    (λ (inside : is_between limits.least limits.most (integer_value field) ≡ true).
    let ok : integer_in limits.least limits.most field ≡ Ok (integer_value field) = rw (digits, inside) refl in
    absurd (past (integer_value field, (found limits.least limits.most field (integer_value field)).0 ok)))
    (λ (outside : is_between limits.least limits.most (integer_value field) ≡ false). (rw (digits, outside) refl))
    (cases_Bool (is_between limits.least limits.most (integer_value field)))

-- the fault of the first of some columns
first_column : (line column : ℕ) (cs : List Limits) (fields : List (List ℕ)) (fault : PartFault)
    → ((fault ≡ faults.Field line column) × (LacksNumber cs fields 0 ⊎ IsExtra cs fields 0)) ⊎ ((fault ≡ faults.Range line column) × IsPast cs fields 0)
    → (k : ℕ) × IsColumnFault line column cs fields k fault
first_column line column cs fields fault what = (
  0,
  record {
    before = λ j h. absurd (omega arith);
    fault_is = subst (λ at. ((fault ≡ faults.Field line at) × (LacksNumber cs fields 0 ⊎ IsExtra cs fields 0)) ⊎ ((fault ≡ faults.Range line at) × IsPast cs fields 0)) (sym (add-zero column)) what;
  },
)

-- the fault of a later one
later_column : (line column : ℕ) (c : Limits) (cs : List Limits) (field : List ℕ) (fields : List (List ℕ)) (k : ℕ) (fault : PartFault) → WritesWithin c field
    → IsColumnFault line (suc column) cs fields k fault → IsColumnFault line column (c ∷ cs) (field ∷ fields) (suc k) fault
later_column line column c cs field fields k fault right later =
    let same : suc column + k ≡ column + suc k = omega arith in
    record {
      before = shifted;
      fault_is =
          subst (λ at. ((fault ≡ faults.Field line at) × (LacksNumber (c ∷ cs) (field ∷ fields) (suc k) ⊎ IsExtra (c ∷ cs) (field ∷ fields) (suc k))) ⊎ ((fault ≡ faults.Range line at) × IsPast (c ∷ cs) (field ∷ fields) (suc k))) same
          (⊎_elim
          (λ is. inl (is.0, ⊎_elim (λ lacks. inl (omega arith, λ there. lacks.1 (omega arith))) (λ extra. inr (ap suc extra.0, omega arith)) is.1))
          (λ is. inr (is.0, (omega arith, omega arith, is.1.2, is.1.3)))
          later.fault_is);
    } where
      shifted : (j : ℕ) → j < suc k → IsRight (c ∷ cs) (field ∷ fields) j
      shifted zero h = (omega arith, omega arith, right)
      shifted (suc j) h = let is = later.before j (omega arith) in (omega arith, omega arith, is.2)

pub column_fault_found : (line column : ℕ) (cs : List Limits) (fields : List (List ℕ)) (fault : PartFault) → IntegersAreFound → numbers_in line column cs fields ≡ Err fault → (k : ℕ) × IsColumnFault line column cs fields k fault
column_fault_found line column [] [] fault found read = cc
column_fault_found line column [] (field ∷ fields) fault found read =
    first_column line column [] (field ∷ fields) fault (inl (let same : fault ≡ faults.Field line column = cc in same, inr (refl, omega arith)))
column_fault_found line column (c ∷ cs) [] fault found read =
    first_column line column (c ∷ cs) [] fault (inl (let same : fault ≡ faults.Field line column = cc in same, inl (omega arith, λ there. absurd (omega arith))))
column_fault_found line column (c ∷ cs) (field ∷ fields) fault found read =
    go (column_fault_found line (suc column) cs fields fault found) (integer_in c.least c.most field) refl read where
      go : (numbers_in line (suc column) cs fields ≡ Err fault → (k : ℕ) × IsColumnFault line (suc column) cs fields k fault) → (r : Result ℤ NumberFault) → integer_in c.least c.most field ≡ r → (number_or (faults.Field line column) (faults.Range line column) r >>= λ n. with_first n (numbers_in line (suc column) cs fields)) ≡ Err fault → (k : ℕ) × IsColumnFault line column (c ∷ cs) (field ∷ fields) k fault
      go later (Ok n) is e =
          let rest = later (with_first-err n (numbers_in line (suc column) cs fields) fault e) in
          (suc rest.0, later_column line column c cs field fields rest.0 fault (n, (found c.least c.most field n).0 is) rest.1)
      go later (Err NoNumber) is e =
          first_column line column (c ∷ cs) (field ∷ fields) fault (inl (let same : fault ≡ faults.Field line column = cc in same, inl (omega arith, λ there. no_integer c.least c.most field is)))
      go later (Err OutOfRange) is e =
          first_column line column (c ∷ cs) (field ∷ fields) fault (inr (let same : fault ≡ faults.Range line column = cc in same, (omega arith, omega arith, an_integer c.least c.most field is, not_within c field OutOfRange found is)))

pub column_fault_only : (line column : ℕ) (cs : List Limits) (fields : List (List ℕ)) (k : ℕ) (fault : PartFault) → IntegersAreFound → IsColumnFault line column cs fields k fault → numbers_in line column cs fields ≡ Err fault
column_fault_only line column [] [] k fault found is =
    ⊎_elim
    (λ field. ⊎_elim (λ lacks. absurd (omega arith)) (λ extra. absurd (omega arith)) field.1)
    (λ range. absurd (omega arith)) is.fault_is
column_fault_only line column [] (field ∷ fields) zero fault found is =
    ⊎_elim
    (λ wrong. ap Err (ap (faults.Field line) (sym (add-zero column)) ∙ sym wrong.0))
    (λ range. absurd (omega arith)) is.fault_is
column_fault_only line column [] (field ∷ fields) (suc k) fault found is = let right = is.before 0 (omega arith) in absurd (omega arith)
column_fault_only line column (c ∷ cs) [] zero fault found is =
    ⊎_elim
    (λ wrong. ap Err (ap (faults.Field line) (sym (add-zero column)) ∙ sym wrong.0))
    (λ range. absurd (omega arith)) is.fault_is
column_fault_only line column (c ∷ cs) [] (suc k) fault found is = let right = is.before 0 (omega arith) in absurd (omega arith)
column_fault_only line column (c ∷ cs) (field ∷ fields) zero fault found is =
    ⊎_elim
    (λ wrong. ⊎_elim
    (λ lacks. let none : integer_in c.least c.most field ≡ Err NoNumber = no_integer_in c.least c.most field (lacks.1 (omega arith)) in
    ap (λ r. number_or (faults.Field line column) (faults.Range line column) r >>= λ n. with_first n (numbers_in line (suc column) cs fields)) none
    ∙ ap Err (ap (faults.Field line) (sym (add-zero column)) ∙ sym wrong.0))
    (λ extra. absurd (omega arith)) wrong.1)
    (λ range.
    ap (λ r. number_or (faults.Field line column) (faults.Range line column) r >>= λ n. with_first n (numbers_in line (suc column) cs fields)) (out_of_range c field found range.1.2 range.1.3)
    ∙ ap Err (ap (faults.Range line) (sym (add-zero column)) ∙ sym range.0)) is.fault_is where
      no_integer_in : (least most : ℤ) (f : List ℕ) → is_integer f ≡ false → integer_in least most f ≡ Err NoNumber
      no_integer_in least most f none = rw none refl
column_fault_only line column (c ∷ cs) (field ∷ fields) (suc k) fault found is =
    let right = is.before 0 (omega arith) in
    let same : column + suc k ≡ suc column + k = omega arith in
    let rest : IsColumnFault line (suc column) cs fields k fault = record {
      before = λ j h. let shifted = is.before (suc j) (omega arith) in (omega arith, omega arith, shifted.2);
      fault_is =
          subst (λ at. ((fault ≡ faults.Field line at) × (LacksNumber cs fields k ⊎ IsExtra cs fields k)) ⊎ ((fault ≡ faults.Range line at) × IsPast cs fields k)) same
          (⊎_elim
          (λ w. inl (w.0, ⊎_elim (λ lacks. inl (omega arith, λ there. lacks.1 (omega arith))) (λ extra. inr (let less : k ≡ length cs = omega arith in less, omega arith)) w.1))
          (λ w. inr (w.0, (omega arith, omega arith, w.1.2, w.1.3)))
          is.fault_is);
    } in
    ap (λ r. number_or (faults.Field line column) (faults.Range line column) r >>= λ n. with_first n (numbers_in line (suc column) cs fields)) ((found c.least c.most field right.2.0).1 right.2.1)
    ∙ ap (with_first right.2.0) (column_fault_only line (suc column) cs fields k fault found rest)

-- the fault of a line is that of its columns, or that its id is repeated
pub line_fault_found : (before : List Particle) (line : FieldLine) (fault : PartFault) → IntegersAreFound → particle_in before line ≡ Err fault → IsLineFault before line fault
line_fault_found before line fault found read = go (numbers_in line.number 1 columns line.fields) refl read where
  go : (r : Result (List ℤ) PartFault) → numbers_in line.number 1 columns line.fields ≡ r
      → (r >>= λ ns. cond (list_any (λ p. eqb p.id (particle_of ns).id) before) (Err (faults.DuplicateId line.number)) (Ok (particle_of ns))) ≡ Err fault → IsLineFault before line fault
  go (Err other) is e = let same : other ≡ fault = cc in inl (column_fault_found line.number 1 columns line.fields fault found (is ∙ ap Err same))
  go (Ok ns) is e =
      let within = numbers_in-within line.number 1 columns line.fields ns found is in
      ⊎_elim
      (λ (again : has_id before (particle_of ns).id ≡ true).
      let same : Err (faults.DuplicateId line.number) ≡ Err fault = rw again at e in
      inr (
        let id : fault ≡ faults.DuplicateId line.number = cc in id,
        record {
          particle = particle_of ns;
          spelled = record { particle = particle_of-particle ns within; plain = particle_of-plain ns; numbers = subst (SpellNumbers line.fields) (sym (numbers-particle_of ns within)) (numbers_in-spelled line.number 1 columns line.fields ns found is) };
          repeated = again;
        },
      ))
      (λ (fresh : has_id before (particle_of ns).id ≡ false). let none = rw fresh at e in cc)
      (cases_Bool (has_id before (particle_of ns).id))

pub line_fault_only : (before : List Particle) (line : FieldLine) (fault : PartFault) → IntegersAreFound → IsLineFault before line fault → particle_in before line ≡ Err fault
line_fault_only before line fault found is =
    ⊎_elim
    (λ column. ap (λ r. r >>= λ ns. cond (list_any (λ q. eqb q.id (particle_of ns).id) before) (Err (faults.DuplicateId line.number)) (Ok (particle_of ns))) (column_fault_only line.number 1 columns line.fields column.0 fault found column.1))
    (λ again.
    let p = again.1.particle in
    let spelled = again.1.spelled in
    ap (λ r. r >>= λ ns. cond (list_any (λ q. eqb q.id (particle_of ns).id) before) (Err (faults.DuplicateId line.number)) (Ok (particle_of ns)))
    (numbers_in-read line.number 1 columns line.fields (numbers again.1.particle) found spelled.numbers (numbers-within again.1.particle spelled.particle spelled.plain))
    ∙ ap (λ q. cond (has_id before q.id) (Err (faults.DuplicateId line.number)) (Ok q)) (particle_of-numbers again.1.particle spelled.particle spelled.plain)
    ∙ ap (λ b. cond b (Err (faults.DuplicateId line.number)) (Ok again.1.particle)) again.1.repeated
    ∙ ap Err (sym again.0))
    is
