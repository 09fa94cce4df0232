-- The first fault of a text is what reading answers.
use Rattle.std.proofs.Common.{◌≡◌, ℕ, zero, suc, ◌+◌, ◌-◌, ◌<◌, ◌≤◌, true, false, cond, List, [], ◌∷◌, ◌++◌, length, append_assoc, add-one, Result, Ok, Err, refl, sym, ap, ◌∙◌, subst, inl, inr, ⊎_elim, arith}
use Rattle.std.specs.Prelude.{nat_eq, codes, nat_le}
use Rattle.std.specs.Cmp.Lexicographic.{pointwise, same_text}
use Rattle.std.specs.Str.Parse.{digits_value}
use Rattle.std.proofs.lemmas.Bool.{cases_Bool, leb-true, leb-false, le-leb}
use Rattle.std.proofs.lemmas.List.{append-nil}
use Rattle.pf_model.specs.declared.limits.TheConstants.{MOST_PARTICLES}
use Rattle.pf_model.specs.Particle.{Particle}
use Rattle.pf_model.specs.Particles.{HaveDistinctIds}
use Rattle.text_lines.specs.Laws.{IntegersAreFound, DigitsAreFound}
use Rattle.text_lines.specs.Lines.{FieldLine, lines, field_lines}
use Rattle.text_lines.specs.Numbers.{is_digits, digits_in}
use Rattle.particle_file.specs.FirstFault.{IsLineFault, SpellsFront, StopsInLine, HasHeader, HasCount, HasFirstParticleFault}
use Rattle.particle_file.specs.Reading.{◌>>=◌, number_or, particle_in, particles_read, is_header, count_in, counted_in, reading_of, reading}
use Rattle.particle_file.specs.Spelling.{SpellParticles, IsHeader, IsCount}
use Rattle.particle_file.specs.declared.fault.PartFault.{PartFault}
use Rattle.particle_file.specs.declared.fault.PartFault.TheVariants as faults
use Rattle.particle_file.proofs.ColumnFaults.{line_fault_found, line_fault_only}
use Rattle.particle_file.proofs.IdLemmas.{no_ids, distinct-push, fresh_id}
use Rattle.particle_file.proofs.SpellingLemmas.{particle_in-spelled, particle_in-read, header_spelled, header_read, count_read}

-- why the reading of particles stops after some of those that are due
data StopsFor (count due : ℕ) (ps : List Particle) (many : ℕ) (rest : List FieldLine) (fault : PartFault) : Type 0 where
  early : many < due → rest ≡ [] → fault ≡ faults.Short (count + 1) → StopsFor count due ps many rest fault
  after : (line : FieldLine) (more : List FieldLine) → many ≡ due → rest ≡ line ∷ more → fault ≡ faults.Trailing line.number → StopsFor count due ps many rest fault
  in_line : (line : FieldLine) (more : List FieldLine) → many < due → rest ≡ line ∷ more → IsLineFault ps line fault → StopsFor count due ps many rest fault

-- the lines up to there spell particles
record StopsAfter (count due : ℕ) (before : List Particle) (ls : List FieldLine) (fault : PartFault) : Type 0 where
  ps : List Particle
  front : List FieldLine
  rest : List FieldLine
  joined : ls ≡ front ++ rest
  each : SpellParticles front ps
  distinct : HaveDistinctIds before → HaveDistinctIds (before ++ ps)
  why : StopsFor count due (before ++ ps) (length ps) rest fault

stops_here : (count due : ℕ) (before : List Particle) (ls : List FieldLine) (fault : PartFault) → StopsFor count due before 0 ls fault → StopsAfter count due before ls fault
stops_here count due before ls fault why =
    let same : before ≡ before ++ [] = sym (append-nil before) in
    record { ps = []; front = []; rest = ls; joined = refl; each = tt; distinct = subst HaveDistinctIds same; why = subst (λ ps. StopsFor count due ps 0 ls fault) same why }

stops_later : (count due : ℕ) (ps qs : List Particle) (many : ℕ) (rest : List FieldLine) (fault : PartFault) → ps ≡ qs → StopsFor count due ps many rest fault → StopsFor count (suc due) qs (suc many) rest fault
stops_later count due ps qs many rest fault same (early less none is) = early (omega arith) none is
stops_later count due ps qs many rest fault same (after line more all next is) = after line more (ap suc all) next is
stops_later count due ps qs many rest fault same (in_line line more less next is) = in_line line more (omega arith) next (subst (λ rs. IsLineFault rs line fault) same is)

stops_found : (count due : ℕ) (before : List Particle) (ls : List FieldLine) (fault : PartFault) → IntegersAreFound → particles_read count due before ls ≡ Err fault → StopsAfter count due before ls fault
stops_found count zero before [] fault found read = cc
stops_found count zero before (line ∷ ls) fault found read =
    stops_here count zero before (line ∷ ls) fault (after line ls refl refl (let same : fault ≡ faults.Trailing line.number = cc in same))
stops_found count (suc due) before [] fault found read =
    let same : fault ≡ faults.Short (suc count) = cc in
    stops_here count (suc due) before [] fault (early (omega arith) refl (same ∙ ap faults.Short (sym (add-one count))))
stops_found count (suc due) before (line ∷ ls) fault found read = go (λ p e. stops_found count due (before ++ p ∷ []) ls fault found e) (particle_in before line) refl read where
  go : ((p : Particle) → particles_read count due (before ++ p ∷ []) ls ≡ Err fault → StopsAfter count due (before ++ p ∷ []) ls fault) → (r : Result Particle PartFault) → particle_in before line ≡ r → (r >>= λ p. particles_read count due (before ++ p ∷ []) ls) ≡ Err fault → StopsAfter count (suc due) before (line ∷ ls) fault
  go later_lines (Err other) is e =
      let same : other ≡ fault = cc in
      stops_here count (suc due) before (line ∷ ls) fault (in_line line ls (omega arith) refl (line_fault_found before line fault found (is ∙ ap Err same)))
  go later_lines (Ok p) is e =
      let good = particle_in-spelled before line p found is in
      let later = later_lines p e in
      let same = append_assoc before (p ∷ []) later.ps in
      record {
        ps = p ∷ later.ps;
        front = line ∷ later.front;
        rest = later.rest;
        joined = ap (λ ms. line ∷ ms) later.joined;
        each = (good.0, later.each);
        distinct = λ apart. subst HaveDistinctIds same (later.distinct (distinct-push before p apart good.1));
        why = stops_later count due ((before ++ p ∷ []) ++ later.ps) (before ++ p ∷ later.ps) (length later.ps) later.rest fault same later.why;
      }

-- after lines that spell particles the reading goes on with the other lines
particles_in-front : (count due : ℕ) (before ps : List Particle) (front rest : List FieldLine) → IntegersAreFound → SpellParticles front ps → HaveDistinctIds (before ++ ps) → particles_read count (length ps + due) before (front ++ rest) ≡ particles_read count due (before ++ ps) rest
particles_in-front count due before [] [] rest found each distinct =
    let none : 0 + due ≡ due = omega arith in
    ap (λ d. particles_read count d before rest) none ∙ ap (λ qs. particles_read count due qs rest) (sym (append-nil before))
particles_in-front count due before [] (line ∷ front) rest found each distinct = absurd each
particles_in-front count due before (p ∷ ps) [] rest found each distinct = absurd each
particles_in-front count due before (p ∷ ps) (line ∷ front) rest found each distinct =
    let one : suc (length ps) + due ≡ suc (length ps + due) = omega arith in
    ap (λ d. particles_read count d before (line ∷ (front ++ rest))) one
    ∙ ap (λ r. r >>= λ q. particles_read count (length ps + due) (before ++ q ∷ []) (front ++ rest)) (particle_in-read before line p found each.0 (fresh_id before p ps distinct))
    ∙ particles_in-front count due (before ++ p ∷ []) ps front rest found each.1 (subst HaveDistinctIds (sym (append_assoc before (p ∷ []) ps)) distinct)
    ∙ ap (λ qs. particles_read count due qs rest) (append_assoc before (p ∷ []) ps)

-- what the second line is: no count, or one within the limit or past it
data CountOutcome (line : FieldLine) : Type 0 where
  no_count : count_in line.fields ≡ Err faults.Count → ((n : ℕ) → IsCount line n → ⊥) → CountOutcome line
  is_few : (n : ℕ) → IsCount line n → n ≤ MOST_PARTICLES → count_in line.fields ≡ Ok n → CountOutcome line
  too_many : (n : ℕ) → IsCount line n → MOST_PARTICLES < n → count_in line.fields ≡ Err faults.TooMany → CountOutcome line

two_fields_only : (line : FieldLine) (fields : List (List ℕ)) → line.fields ≡ fields → ((key field : List ℕ) → fields ≡ key ∷ field ∷ [] → ⊥) → (n : ℕ) → IsCount line n → ⊥
two_fields_only line fields are other n is = other (codes "count") is.field (sym are ∙ is.fields_are)

count_outcome : (line : FieldLine) (fields : List (List ℕ)) → line.fields ≡ fields → CountOutcome line
count_outcome line [] are = no_count (ap count_in are) (two_fields_only line [] are (λ key field e. cc))
count_outcome line (key ∷ []) are = no_count (ap count_in are) (two_fields_only line (key ∷ []) are (λ k f e. cc))
count_outcome line (key ∷ field ∷ other ∷ more) are = no_count (ap count_in are) (two_fields_only line (key ∷ field ∷ other ∷ more) are (λ k f e. cc))
count_outcome line (key ∷ field ∷ []) are =
    ⊎_elim
    (λ (named : pointwise nat_eq key (codes "count") ≡ true).
    let key_is = same_text key (codes "count") (sym named) in
    let in_count : count_in line.fields ≡ number_or faults.Count faults.TooMany (digits_in 0 MOST_PARTICLES field) = ap count_in are ∙ ap (λ b. cond b (number_or faults.Count faults.TooMany (digits_in 0 MOST_PARTICLES field)) (Err faults.Count)) named in
    ⊎_elim
    (λ (digits : is_digits field ≡ true).
    let low : nat_le 0 (digits_value 10 field) ≡ true = le-leb 0 (digits_value 10 field) (omega arith) in
    let is : IsCount line (digits_value 10 field) = record { field = field; fields_are = are ∙ ap (λ k. k ∷ field ∷ []) key_is; digits = digits; value = refl } in
    ⊎_elim
    (λ (below : nat_le (digits_value 10 field) MOST_PARTICLES ≡ true). is_few (digits_value 10 field) is (leb-true _ _ below) (in_count ∙ (rw (digits, low, below) refl)))
    (λ (above : nat_le (digits_value 10 field) MOST_PARTICLES ≡ false). too_many (digits_value 10 field) is (leb-false _ _ above) (in_count ∙ (rw (digits, low, above) refl)))
    (cases_Bool (nat_le (digits_value 10 field) MOST_PARTICLES)))
    (λ (none : is_digits field ≡ false). no_count (in_count ∙ rw none refl) (λ n is. let same : is.field ≡ field = same_field line key field is are in let yes_digits = ap is_digits (sym same) ∙ is.digits in let both = sym none ∙ yes_digits in cc))
    (cases_Bool (is_digits field)))
    (λ (other : pointwise nat_eq key (codes "count") ≡ false). no_count (ap count_in are ∙ rw other refl) (λ n is. let same : codes "count" ≡ key = same_key line key field is are in let both = sym other ∙ ap (λ k. pointwise nat_eq k (codes "count")) (sym same) in cc))
    (cases_Bool (pointwise nat_eq key (codes "count"))) where
      same_field : {n : ℕ} (l : FieldLine) (k f : List ℕ) (is : IsCount l n) → l.fields ≡ k ∷ f ∷ [] → is.field ≡ f
      same_field l k f is are = let e = sym is.fields_are ∙ are in cc

      same_key : {n : ℕ} (l : FieldLine) (k f : List ℕ) (is : IsCount l n) → l.fields ≡ k ∷ f ∷ [] → codes "count" ≡ k
      same_key l k f is are = let e = sym is.fields_are ∙ are in cc

-- a line is the count of one number
one_count : (line : FieldLine) (m n : ℕ) → IsCount line m → IsCount line n → m ≡ n
one_count line m n a b =
    let e = sym a.fields_are ∙ b.fields_are in
    let same : a.field ≡ b.field = cc in
    sym a.value ∙ ap (digits_value 10) same ∙ b.value

-- the header is the first line
same_header : (text : List ℕ) (header : FieldLine) (ls rest : List FieldLine) (has : HasHeader text rest) → field_lines text ≡ header ∷ ls → (IsHeader header) × (rest ≡ ls)
same_header text header ls rest has are =
    let e = sym has.lines_are ∙ are in
    let same : has.header ≡ header = cc in
    let others : rest ≡ ls = cc in
    (subst IsHeader same has.is_header, others)

-- a fault is not read past
no_bind : {A B : Type 0} (read : Result A PartFault) (next : A → Result B PartFault) (e f : PartFault) → read ≡ Err e → (read >>= next) ≡ Err f → e ≡ f
no_bind (Ok x) next e f is bound = cc
no_bind (Err x) next e f is bound = let a : x ≡ e = cc in let b : x ≡ f = cc in sym a ∙ b

-- a fault after the count
particles_fault : (text : List ℕ) (header line : FieldLine) (ls : List FieldLine) (due : ℕ) (fault : PartFault) → IntegersAreFound → field_lines text ≡ header ∷ line ∷ ls → IsHeader header → IsCount line due → due ≤ MOST_PARTICLES
    → particles_read (length (lines text)) due [] ls ≡ Err fault → HasFirstParticleFault text fault
particles_fault text header line ls due fault integers are good is few read =
    let stops = stops_found (length (lines text)) due [] ls fault integers read in
    go stops.ps stops.front stops.rest stops.joined stops.each (stops.distinct no_ids) stops.why where
      spells : (ps : List Particle) (front rest more : List FieldLine) → ls ≡ front ++ rest → SpellParticles front ps → HaveDistinctIds ps → rest ≡ more → SpellsFront text due ps more
      spells ps front rest more joined each distinct same = record {
        header = header;
        count = line;
        front = front;
        lines_are = are ∙ ap (λ ms. header ∷ line ∷ ms) (joined ∙ ap (λ ms. front ++ ms) same);
        is_header = good;
        is_count = is;
        few = few;
        each = each;
        distinct = distinct;
      }

      go : (ps : List Particle) (front rest : List FieldLine) → ls ≡ front ++ rest → SpellParticles front ps → HaveDistinctIds ps → StopsFor (length (lines text)) due ps (length ps) rest fault → HasFirstParticleFault text fault
      go ps front rest joined each distinct (early less none same) =
          subst (HasFirstParticleFault text) (sym same) (refl, record { due = due; ps = ps; front = spells ps front rest [] joined each distinct none; more_due = less })
      go ps front rest joined each distinct (after l more all next same) =
          subst (HasFirstParticleFault text) (sym same)
          (record { ps = ps; line = l; rest = more; front = subst (λ d. SpellsFront text d ps (l ∷ more)) (sym all) (spells ps front rest (l ∷ more) joined each distinct next); number_is = refl })
      go ps front rest joined each distinct (in_line l more less next (inl column)) =
          let stops : StopsInLine text fault = record { due = due; ps = ps; line = l; rest = more; front = spells ps front rest (l ∷ more) joined each distinct next; more_due = less; in_line = inl column } in
          ⊎_elim (λ wrong. subst (HasFirstParticleFault text) (sym wrong.0) (subst (StopsInLine text) wrong.0 stops)) (λ past. subst (HasFirstParticleFault text) (sym past.0) (subst (StopsInLine text) past.0 stops)) column.1.fault_is
      go ps front rest joined each distinct (in_line l more less next (inr again)) =
          let stops : StopsInLine text fault = record { due = due; ps = ps; line = l; rest = more; front = spells ps front rest (l ∷ more) joined each distinct next; more_due = less; in_line = inr again } in
          subst (HasFirstParticleFault text) (sym again.0) (subst (StopsInLine text) again.0 stops)

count_fault : (text : List ℕ) (header line : FieldLine) (ls : List FieldLine) (fault : PartFault) → IntegersAreFound → field_lines text ≡ header ∷ line ∷ ls → IsHeader header → CountOutcome line
    → (count_in line.fields >>= λ due. particles_read (length (lines text)) due [] ls) ≡ Err fault → HasFirstParticleFault text fault
count_fault text header line ls fault integers are good (no_count stops none) read =
    let same : faults.Count ≡ fault = no_bind (count_in line.fields) (λ due. particles_read (length (lines text)) due [] ls) faults.Count fault stops read in
    subst (HasFirstParticleFault text) same
    (line ∷ ls, record { header = header; lines_are = are; is_header = good }, λ n has. let e = has.lines_are in let l : has.count ≡ line = cc in none n (subst (λ c. IsCount c n) l has.is_count))
count_fault text header line ls fault integers are good (is_few n is small reads) read =
    particles_fault text header line ls n fault integers are good is small (ap (λ r. r >>= λ due. particles_read (length (lines text)) due [] ls) (sym reads) ∙ read)
count_fault text header line ls fault integers are good (too_many n is large stops) read =
    let same : faults.TooMany ≡ fault = no_bind (count_in line.fields) (λ due. particles_read (length (lines text)) due [] ls) faults.TooMany fault stops read in
    subst (HasFirstParticleFault text) same
    (line ∷ ls, n, record { header = header; lines_are = are; is_header = good }, record { count = line; more = ls; lines_are = refl; is_count = is }, large)

lines_fault : (text : List ℕ) (ls : List FieldLine) (fault : PartFault) → IntegersAreFound → field_lines text ≡ ls → reading_of (length (lines text)) ls ≡ Err fault → HasFirstParticleFault text fault
lines_fault text [] fault integers are read =
    let same : faults.Header ≡ fault = cc in
    subst (HasFirstParticleFault text) same (λ rest has. let e = sym has.lines_are ∙ are in cc)
lines_fault text (header ∷ ls) fault integers are read =
    ⊎_elim
    (λ (good : is_header header.fields ≡ true). after_header ls are (header_spelled header good) (rw good at read))
    (λ (bad : is_header header.fields ≡ false).
    let stops : ◌≡◌ {A = Result (List Particle) PartFault} (Err faults.Header) (Err fault) = rw bad at read in
    let same : faults.Header ≡ fault = cc in
    subst (HasFirstParticleFault text) same (λ rest has. let is = same_header text header ls rest has are in let both = sym bad ∙ header_read header is.0 in cc))
    (cases_Bool (is_header header.fields)) where
      after_header : (ms : List FieldLine) → field_lines text ≡ header ∷ ms → IsHeader header → counted_in (length (lines text)) ms ≡ Err fault → HasFirstParticleFault text fault
      after_header [] are good read =
          let same : faults.Count ≡ fault = cc in
          subst (HasFirstParticleFault text) same ([], record { header = header; lines_are = are; is_header = good }, λ n has. let e = has.lines_are in cc)
      after_header (line ∷ ms) are good read = count_fault text header line ms fault integers are good (count_outcome line line.fields refl) read

pub first_fault_found : (text : List ℕ) (fault : PartFault) → IntegersAreFound → reading text ≡ Err fault → HasFirstParticleFault text fault
unfolding reading
first_fault_found text fault integers read = lines_fault text (field_lines text) fault integers refl read

-- the reading after lines that spell particles
front_reads : (text : List ℕ) (due k : ℕ) (ps : List Particle) (rest : List FieldLine) → IntegersAreFound → DigitsAreFound → SpellsFront text due ps rest → due ≡ length ps + k → reading text ≡ particles_read (length (lines text)) k ps rest
unfolding reading
front_reads text due k ps rest integers digits front is =
    ap (reading_of (length (lines text))) front.lines_are
    ∙ ap (λ b. cond b (counted_in (length (lines text)) (front.count ∷ (front.front ++ rest))) (Err faults.Header)) (header_read front.header front.is_header)
    ∙ ap (λ r. r >>= λ due. particles_read (length (lines text)) due [] (front.front ++ rest)) (count_read front.count due digits front.is_count front.few)
    ∙ ap (λ d. particles_read (length (lines text)) d [] (front.front ++ rest)) is
    ∙ particles_in-front (length (lines text)) k [] ps front.front rest integers front.each front.distinct

stops_in_line : (text : List ℕ) (fault : PartFault) → IntegersAreFound → DigitsAreFound → StopsInLine text fault → reading text ≡ Err fault
stops_in_line text fault integers digits stops =
    let less = stops.more_due in
    let due : stops.due ≡ length stops.ps + suc (stops.due - suc (length stops.ps)) = omega arith in
    front_reads text stops.due (suc (stops.due - suc (length stops.ps))) stops.ps (stops.line ∷ stops.rest) integers digits stops.front due
    ∙ ap (λ r. r >>= λ p. particles_read (length (lines text)) (stops.due - suc (length stops.ps)) (stops.ps ++ p ∷ []) stops.rest) (line_fault_only stops.ps stops.line fault integers stops.in_line)

no_header : (text : List ℕ) (ls : List FieldLine) → field_lines text ≡ ls → ((rest : List FieldLine) → HasHeader text rest → ⊥) → reading_of (length (lines text)) ls ≡ Err faults.Header
no_header text [] are none = refl
no_header text (header ∷ ls) are none =
    ⊎_elim
    (λ (good : is_header header.fields ≡ true). absurd (none ls (record { header = header; lines_are = are; is_header = header_spelled header good })))
    (λ (bad : is_header header.fields ≡ false). (rw bad refl))
    (cases_Bool (is_header header.fields))

-- what is read after a header
after_header : (text : List ℕ) (rest : List FieldLine) → HasHeader text rest → reading text ≡ counted_in (length (lines text)) rest
unfolding reading
after_header text rest has =
    ap (reading_of (length (lines text))) has.lines_are
    ∙ ap (λ b. cond b (counted_in (length (lines text)) rest) (Err faults.Header)) (header_read has.header has.is_header)

no_count_read : (count : ℕ) (rest : List FieldLine) → ((n : ℕ) → HasCount rest n → ⊥) → counted_in count rest ≡ Err faults.Count
no_count_read count [] none = refl
no_count_read count (line ∷ more) none = go (count_outcome line line.fields refl) where
  go : CountOutcome line → counted_in count (line ∷ more) ≡ Err faults.Count
  go (no_count stops other) = ap (λ r. r >>= λ due. particles_read count due [] more) stops
  go (is_few n is small reads) = absurd (none n (record { count = line; more = more; lines_are = refl; is_count = is }))
  go (too_many n is large stops) = absurd (none n (record { count = line; more = more; lines_are = refl; is_count = is }))

too_many_read : (count n : ℕ) (line : FieldLine) (more : List FieldLine) → IsCount line n → MOST_PARTICLES < n → CountOutcome line → counted_in count (line ∷ more) ≡ Err faults.TooMany
too_many_read count n line more is large (no_count stops other) = absurd (other n is)
too_many_read count n line more is large (is_few m also small reads) = let same = one_count line m n also is in absurd (omega arith)
too_many_read count n line more is large (too_many m also past stops) = ap (λ r. r >>= λ due. particles_read count due [] more) stops

pub first_fault_only : (text : List ℕ) (fault : PartFault) → IntegersAreFound → DigitsAreFound → HasFirstParticleFault text fault → reading text ≡ Err fault
unfolding reading
first_fault_only text faults.Header integers digits none = no_header text (field_lines text) refl none
first_fault_only text faults.Count integers digits is = after_header text is.0 is.1 ∙ no_count_read (length (lines text)) is.0 is.2
first_fault_only text faults.TooMany integers digits is =
    after_header text is.0 is.2 ∙ ap (counted_in (length (lines text))) is.3.lines_are
    ∙ too_many_read (length (lines text)) is.1 is.3.count is.3.more is.3.is_count is.4 (count_outcome is.3.count is.3.count.fields refl)
first_fault_only text (faults.Field line column) integers digits is = stops_in_line text (faults.Field line column) integers digits is
first_fault_only text (faults.Range line column) integers digits is = stops_in_line text (faults.Range line column) integers digits is
first_fault_only text (faults.DuplicateId line) integers digits is = stops_in_line text (faults.DuplicateId line) integers digits is
first_fault_only text (faults.Short line) integers digits is =
    let ends = is.1 in
    let less = ends.more_due in
    let due : ends.due ≡ length ends.ps + suc (ends.due - suc (length ends.ps)) = omega arith in
    front_reads text ends.due (suc (ends.due - suc (length ends.ps))) ends.ps [] integers digits ends.front due
    ∙ ap (λ n. Err (faults.Short n)) (sym (add-one (length (lines text))) ∙ sym is.0)
first_fault_only text (faults.Trailing line) integers digits goes =
    let due : length goes.ps ≡ length goes.ps + 0 = omega arith in
    front_reads text (length goes.ps) 0 goes.ps (goes.line ∷ goes.rest) integers digits goes.front due ∙ ap (λ n. Err (faults.Trailing n)) (sym goes.number_is)
first_fault_only text faults.Memory integers digits is = absurd is
