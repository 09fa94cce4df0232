-- What a text spells is read, and what is read is spelled.
use Rattle.std.proofs.Common.{◌≡◌, ℕ, zero, suc, ◌≤◌, eqb, Bool, true, false, ◌&&◌, cond, ℤ, List, [], ◌∷◌, ◌++◌, length, append_assoc, Result, Ok, Err, refl, sym, ap, ◌∙◌, subst, ⊎_elim, arith}
use Rattle.std.specs.Prelude.{nat_eq, codes}
use Rattle.std.specs.Cmp.Lexicographic.{pointwise, same_text}
use Rattle.std.specs.Option.{option_map_or}
use Rattle.std.specs.List.{AllByRecursion, list_any}
use Rattle.std.proofs.lemmas.Bool.{and_parts, cases_Bool}
use Rattle.std.proofs.lemmas.List.{append-nil}
use Rattle.pf_model.specs.declared.limits.TheConstants.{MOST_PARTICLES}
use Rattle.pf_model.specs.Particle.{Particle, IsParticle}
use Rattle.pf_model.specs.Particles.{HaveDistinctIds}
use Rattle.text_lines.specs.Laws.{IntegersAreFound, DigitsAreFound}
use Rattle.text_lines.specs.Lines.{FieldLine, lines, field_lines}
use Rattle.text_lines.specs.Numbers.{digits_in, integer_in}
use Rattle.text_lines.specs.declared.number.NumberFault.{NumberFault}
use Rattle.text_lines.specs.declared.number.NumberFault.TheVariants.{NoNumber, OutOfRange}
use Rattle.particle_file.specs.Columns.{columns, AreWithin, numbers, particle_of}
use Rattle.particle_file.specs.Reading.{◌>>=◌, number_or, with_first, numbers_in, particle_in, particles_read, two_of, is_header, count_in, counted_in, reading_of, reading}
use Rattle.particle_file.specs.Spelling.{IsPlain, SpellNumbers, SpellsParticle, SpellParticles, IsHeader, IsCount, SpellsText}
use Rattle.particle_file.specs.declared.columns.Limits.{Limits}
use Rattle.particle_file.specs.declared.fault.PartFault.{PartFault}
use Rattle.particle_file.specs.declared.fault.PartFault.TheVariants as faults
use Rattle.particle_file.proofs.ReadingLemmas.{number_found, with_first-ok, bind-ok, numbers_in-within}
use Rattle.particle_file.proofs.NumberLemmas.{numbers-particle_of, particle_of-particle, particle_of-plain, particle_of-numbers, numbers-within}
use Rattle.particle_file.proofs.IdLemmas.{has_id, distinct-push, fresh_id, no_ids}

-- the fields spell the numbers that are read from them
pub numbers_in-spelled : (line column : ℕ) (cs : List Limits) (fields : List (List ℕ)) (ns : List ℤ) → IntegersAreFound → numbers_in line column cs fields ≡ Ok ns → SpellNumbers fields ns
numbers_in-spelled line column [] [] ns found read = let none : ns ≡ [] = cc in subst (SpellNumbers []) (sym none) tt
numbers_in-spelled line column [] (field ∷ fields) ns found read = cc
numbers_in-spelled line column (c ∷ cs) [] ns found read = cc
numbers_in-spelled line column (c ∷ cs) (field ∷ fields) ns found read =
    let first = bind-ok (number_or (faults.Field line column) (faults.Range line column) (integer_in c.least c.most field)) (λ n. with_first n (numbers_in line (suc column) cs fields)) ns read in
    let rest = with_first-ok first.0 (numbers_in line (suc column) cs fields) ns first.2 in
    let is = (found c.least c.most field first.0).0 (number_found _ _ _ _ first.1) in
    subst (SpellNumbers (field ∷ fields)) (sym rest.2) (record { digits = is.digits; value = is.value }, numbers_in-spelled line (suc column) cs fields rest.0 found rest.1)

-- fields that spell numbers within the limits of their columns are read
pub numbers_in-read : (line column : ℕ) (cs : List Limits) (fields : List (List ℕ)) (ns : List ℤ) → IntegersAreFound → SpellNumbers fields ns → AreWithin cs ns → numbers_in line column cs fields ≡ Ok ns
numbers_in-read line column [] [] [] found spelled within = refl
numbers_in-read line column [] [] (n ∷ ns) found spelled within = absurd spelled
numbers_in-read line column [] (field ∷ fields) [] found spelled within = absurd spelled
numbers_in-read line column [] (field ∷ fields) (n ∷ ns) found spelled within = absurd within
numbers_in-read line column (c ∷ cs) [] [] found spelled within = absurd within
numbers_in-read line column (c ∷ cs) [] (n ∷ ns) found spelled within = absurd spelled
numbers_in-read line column (c ∷ cs) (field ∷ fields) [] found spelled within = absurd within
numbers_in-read line column (c ∷ cs) (field ∷ fields) (n ∷ ns) found spelled within =
    let first = (found c.least c.most field n).1 (record { digits = spelled.0.digits; value = spelled.0.value; low = within.0; high = within.1 }) in
    ap (λ r. number_or (faults.Field line column) (faults.Range line column) r >>= λ m. with_first m (numbers_in line (suc column) cs fields)) first
    ∙ ap (with_first n) (numbers_in-read line (suc column) cs fields ns found spelled.1 within.2)

-- a chosen answer that is no fault
chosen : {A : Type 0} (test : Bool) (fault : PartFault) (x y : A) → cond test (Err fault) (Ok x) ≡ Ok y → (test ≡ false) × (x ≡ y)
chosen true fault x y e = cc
chosen false fault x y e = (refl, let same : x ≡ y = cc in same)

-- a particle that is read is spelled, and has a new id
pub particle_in-spelled : (before : List Particle) (line : FieldLine) (p : Particle) → IntegersAreFound → particle_in before line ≡ Ok p → SpellsParticle line p × (has_id before p.id ≡ false)
particle_in-spelled before line p found read =
    let ns = bind-ok (numbers_in line.number 1 columns line.fields) (λ ns. cond (list_any (λ q. eqb q.id (particle_of ns).id) before) (Err (faults.DuplicateId line.number)) (Ok (particle_of ns))) p read in
    let is = chosen (has_id before (particle_of ns.0).id) (faults.DuplicateId line.number) (particle_of ns.0) p ns.2 in
    let within = numbers_in-within line.number 1 columns line.fields ns.0 found ns.1 in
    subst (λ q. SpellsParticle line q × (has_id before q.id ≡ false)) is.1 (
      record {
        particle = particle_of-particle ns.0 within;
        plain = particle_of-plain ns.0;
        numbers = subst (SpellNumbers line.fields) (sym (numbers-particle_of ns.0 within)) (numbers_in-spelled line.number 1 columns line.fields ns.0 found ns.1);
      },
      is.0,
    )

-- a particle that is spelled, and has a new id, is read
pub particle_in-read : (before : List Particle) (line : FieldLine) (p : Particle) → IntegersAreFound → SpellsParticle line p → has_id before p.id ≡ false → particle_in before line ≡ Ok p
particle_in-read before line p found spelled fresh =
    let read = numbers_in-read line.number 1 columns line.fields (numbers p) found spelled.numbers (numbers-within p spelled.particle spelled.plain) in
    let is = particle_of-numbers p spelled.particle spelled.plain in
    ap (λ r. r >>= λ ns. cond (list_any (λ q. eqb q.id (particle_of ns).id) before) (Err (faults.DuplicateId line.number)) (Ok (particle_of ns))) read
    ∙ ap (λ q. cond (has_id before q.id) (Err (faults.DuplicateId line.number)) (Ok q)) is
    ∙ ap (λ b. cond b (Err (faults.DuplicateId line.number)) (Ok p)) fresh

-- particles that are read after others
record ReadsAfter (due : ℕ) (before : List Particle) (ls : List FieldLine) (all : List Particle) : Type 0 where
  ps : List Particle
  joined : all ≡ before ++ ps
  many : length ps ≡ due
  each : SpellParticles ls ps
  distinct : HaveDistinctIds before → HaveDistinctIds all

particles_in-spelled : (count due : ℕ) (before : List Particle) (ls : List FieldLine) (all : List Particle) → IntegersAreFound → particles_read count due before ls ≡ Ok all → ReadsAfter due before ls all
particles_in-spelled count zero before [] all found read =
    let same : before ≡ all = cc in
    record { ps = []; joined = sym same ∙ sym (append-nil before); many = refl; each = tt; distinct = subst HaveDistinctIds same }
particles_in-spelled count zero before (line ∷ ls) all found read = cc
particles_in-spelled count (suc due) before [] all found read = cc
particles_in-spelled count (suc due) before (line ∷ ls) all found read =
    let first = bind-ok (particle_in before line) (λ p. particles_read count due (before ++ p ∷ []) ls) all read in
    let p = first.0 in
    let is = particle_in-spelled before line first.0 found first.1 in
    let rest = particles_in-spelled count due (before ++ first.0 ∷ []) ls all found first.2 in
    record {
      ps = first.0 ∷ rest.ps;
      joined = rest.joined ∙ append_assoc before (first.0 ∷ []) rest.ps;
      many = ap suc rest.many;
      each = (is.0, rest.each);
      distinct = λ apart. rest.distinct (distinct-push before first.0 apart is.1);
    }

particles_in-read : (count : ℕ) (before ps : List Particle) (ls : List FieldLine) → IntegersAreFound → SpellParticles ls ps → HaveDistinctIds (before ++ ps) → particles_read count (length ps) before ls ≡ Ok (before ++ ps)
particles_in-read count before [] [] found each distinct = ap Ok (sym (append-nil before))
particles_in-read count before [] (line ∷ ls) found each distinct = absurd each
particles_in-read count before (p ∷ ps) [] found each distinct = absurd each
particles_in-read count before (p ∷ ps) (line ∷ ls) found each distinct =
    ap (λ r. r >>= λ q. particles_read count (length ps) (before ++ q ∷ []) ls) (particle_in-read before line p found each.0 (fresh_id before p ps distinct))
    ∙ particles_in-read count (before ++ p ∷ []) ps ls found each.1 (subst HaveDistinctIds (sym (append_assoc before (p ∷ []) ps)) distinct)
    ∙ ap Ok (append_assoc before (p ∷ []) ps)

-- two fields
two_of-some : {A : Type 0} (fields : List (List ℕ)) (f : List ℕ × List ℕ → A) (d x : A) → (d ≡ x → ⊥) → option_map_or f (two_of fields) d ≡ x → (key : List ℕ) × (value : List ℕ) × (fields ≡ key ∷ value ∷ []) × (f (key, value) ≡ x)
two_of-some [] f d x other e = absurd (other e)
two_of-some (a ∷ []) f d x other e = absurd (other e)
two_of-some (a ∷ b ∷ []) f d x other e = (a, b, refl, e)
two_of-some (a ∷ b ∷ c ∷ more) f d x other e = absurd (other e)

pub header_spelled : (line : FieldLine) → is_header line.fields ≡ true → IsHeader line
header_spelled line passes =
    let two = two_of-some line.fields (λ p. pointwise nat_eq p.0 (codes "particles") && pointwise nat_eq p.1 (codes "1")) false true (λ e. cc) passes in
    let parts = and_parts (pointwise nat_eq two.0 (codes "particles")) (pointwise nat_eq two.1 (codes "1")) two.3 in
    let key = same_text two.0 (codes "particles") (sym parts.0) in
    let version = same_text two.1 (codes "1") (sym parts.1) in
    two.2 ∙ (λ i. key i ∷ version i ∷ [])

digits_found : (none outside : PartFault) (read : Result ℕ NumberFault) (n : ℕ) → number_or none outside read ≡ Ok n → read ≡ Ok n
digits_found none outside (Ok m) n e = let same : m ≡ n = cc in ap Ok same
digits_found none outside (Err NoNumber) n e = cc
digits_found none outside (Err OutOfRange) n e = cc

count_spelled : (line : FieldLine) (due : ℕ) → DigitsAreFound → count_in line.fields ≡ Ok due → IsCount line due × (due ≤ MOST_PARTICLES)
count_spelled line due found read =
    let two = two_of-some line.fields (λ p. cond (pointwise nat_eq p.0 (codes "count")) (number_or faults.Count faults.TooMany (digits_in 0 MOST_PARTICLES p.1)) (Err faults.Count)) (Err faults.Count) (Ok due) (λ e. cc) read in
    ⊎_elim
    (λ (yes : pointwise nat_eq two.0 (codes "count") ≡ true).
    let value = rw yes at two.3 in
    let is = (found 0 MOST_PARTICLES two.1 due).0 (digits_found _ _ _ _ value) in
    (record { field = two.1; fields_are = two.2 ∙ ap (λ k. k ∷ two.1 ∷ []) (same_text two.0 (codes "count") (sym yes)); digits = is.digits; value = is.value }, is.high))
    (λ (no : pointwise nat_eq two.0 (codes "count") ≡ false). let e = rw no at two.3 in cc)
    (cases_Bool (pointwise nat_eq two.0 (codes "count")))

counted_spelled : (text : List ℕ) (count : ℕ) (header : FieldLine) (ls : List FieldLine) (ps : List Particle) → IntegersAreFound → DigitsAreFound → field_lines text ≡ header ∷ ls → IsHeader header → counted_in count ls ≡ Ok ps → SpellsText text ps
counted_spelled text count header [] ps integers digits are good read = cc
counted_spelled text count header (line ∷ ls) ps integers digits are good read =
    let due = bind-ok (count_in line.fields) (λ due. particles_read count due [] ls) ps read in
    let is = count_spelled line due.0 digits due.1 in
    let rest = particles_in-spelled count due.0 [] ls ps integers due.2 in
    let many : length ps ≡ due.0 = ap length rest.joined ∙ rest.many in
    record {
      header = header;
      count = line;
      lines = ls;
      lines_are = are;
      is_header = good;
      is_count = subst (IsCount line) (sym many) is.0;
      each = subst (SpellParticles ls) (sym rest.joined) rest.each;
      bodies = record { few = subst (λ n. n ≤ MOST_PARTICLES) (sym many) is.1; distinct = rest.distinct no_ids };
    }

lines_spelled : (text : List ℕ) (count : ℕ) (ls : List FieldLine) (ps : List Particle) → IntegersAreFound → DigitsAreFound → field_lines text ≡ ls → reading_of count ls ≡ Ok ps → SpellsText text ps
lines_spelled text count [] ps integers digits are read = cc
lines_spelled text count (header ∷ ls) ps integers digits are read =
    ⊎_elim
    (λ (yes : is_header header.fields ≡ true). counted_spelled text count header ls ps integers digits are (header_spelled header yes) (rw yes at read))
    (λ (no : is_header header.fields ≡ false). let e = rw no at read in cc)
    (cases_Bool (is_header header.fields))

pub what_is_read_is_spelled : (text : List ℕ) (ps : List Particle) → IntegersAreFound → DigitsAreFound → reading text ≡ Ok ps → SpellsText text ps
unfolding reading
what_is_read_is_spelled text ps integers digits read = lines_spelled text (length (lines text)) (field_lines text) ps integers digits refl read

pub header_read : (line : FieldLine) → IsHeader line → is_header line.fields ≡ true
header_read line is = ap is_header is

pub count_read : (line : FieldLine) (n : ℕ) → DigitsAreFound → IsCount line n → n ≤ MOST_PARTICLES → count_in line.fields ≡ Ok n
count_read line n found is few =
    let read = (found 0 MOST_PARTICLES is.field n).1 (record { digits = is.digits; value = is.value; low = omega arith; high = few }) in
    ap count_in is.fields_are ∙ ap (number_or faults.Count faults.TooMany) read

pub what_is_spelled_is_read : (text : List ℕ) (ps : List Particle) → IntegersAreFound → DigitsAreFound → SpellsText text ps → reading text ≡ Ok ps
unfolding reading
what_is_spelled_is_read text ps integers digits is =
    ap (reading_of (length (lines text))) is.lines_are
    ∙ ap (λ b. cond b (counted_in (length (lines text)) (is.count ∷ is.lines)) (Err faults.Header)) (header_read is.header is.is_header)
    ∙ ap (λ r. r >>= λ due. particles_read (length (lines text)) due [] is.lines) (count_read is.count (length ps) digits is.is_count is.bodies.few)
    ∙ particles_in-read (length (lines text)) [] ps is.lines integers is.each is.bodies.distinct

each_plain : (ls : List FieldLine) (ps : List Particle) → SpellParticles ls ps → AllByRecursion IsParticle ps × AllByRecursion IsPlain ps
each_plain [] [] each = (tt, tt)
each_plain [] (p ∷ ps) each = absurd each
each_plain (line ∷ ls) [] each = absurd each
each_plain (line ∷ ls) (p ∷ ps) each = let rest = each_plain ls ps each.1 in ((each.0.particle, rest.0), (each.0.plain, rest.1))

pub what_is_spelled_is_plain : (text : List ℕ) (ps : List Particle) → SpellsText text ps → AllByRecursion IsParticle ps × AllByRecursion IsPlain ps
what_is_spelled_is_plain text ps is = each_plain is.lines ps is.each
