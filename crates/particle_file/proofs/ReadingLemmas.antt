-- How the reading goes on: from column to column, and from line to line.
use Rattle.std.proofs.Common.{◌≡◌, ℕ, suc, ◌+◌, ◌-◌, eqb, ◌<◌, true, false, cond, ℤ, List, [], ◌∷◌, ◌++◌, length, append_assoc, add-one, get_or, take, drop, set, drop-cons, Result, Ok, Err, refl, sym, ap, ◌∙◌, subst, arith}
use Rattle.std.proofs.lemmas.List.{take_more_set, take_all, append-nil}
use Rattle.text_lines.specs.Laws.{IntegersAreFound}
use Rattle.text_lines.specs.declared.number.NumberFault.{NumberFault}
use Rattle.text_lines.specs.declared.number.NumberFault.TheVariants.{NoNumber, OutOfRange}
use Rattle.std.specs.List.{list_any}
use Rattle.pf_model.specs.Particle.{Particle}
use Rattle.text_lines.specs.Lines.{FieldLine}
use Rattle.text_lines.specs.Numbers.{integer_in}
use Rattle.particle_file.specs.Columns.{columns, AreWithin, particle_of}
use Rattle.particle_file.specs.Reading.{◌>>=◌, number_or, with_first, numbers_in, particles_read}
use Rattle.particle_file.specs.declared.columns.Limits.{Limits}
use Rattle.particle_file.specs.declared.fault.PartFault.{PartFault}
use Rattle.particle_file.specs.declared.fault.PartFault.TheVariants as faults

-- numbers that were read stand before those that follow
abbrev pub after_front : List ℤ → Result (List ℤ) PartFault → Result (List ℤ) PartFault
after_front front read = read >>= λ ns. Ok (front ++ ns)

after_front-push : (front : List ℤ) (n : ℤ) (read : Result (List ℤ) PartFault) → after_front front (with_first n read) ≡ after_front (front ++ n ∷ []) read
after_front-push front n (Ok ns) = ap Ok (sym (append_assoc front (n ∷ []) ns))
after_front-push front n (Err fault) = refl

pub after_none : (read : Result (List ℤ) PartFault) → after_front [] read ≡ read
after_none (Ok ns) = refl
after_none (Err fault) = refl

-- after i columns
pub one_column_more : (d : Limits) (line i : ℕ) (fields rest : List (List ℕ)) (numbers : List ℤ) (n : ℤ) → length numbers ≡ 12 → i < 12
    → ((more : List Limits) → numbers_in line (i + 1) (get_or columns i d ∷ more) fields ≡ with_first n (numbers_in line (suc (i + 1)) more rest))
    → after_front (take i numbers) (numbers_in line (i + 1) (drop i columns) fields) ≡ after_front (take (i + 1) (set numbers i n)) (numbers_in line (i + 1 + 1) (drop (i + 1) columns) rest)
one_column_more d line i fields rest numbers n twelve inside goes_on =
    ap (λ cs. after_front (take i numbers) (numbers_in line (i + 1) cs fields)) (drop-cons columns i d inside)
    ∙ ap (after_front (take i numbers)) (goes_on (drop (suc i) columns))
    ∙ after_front-push (take i numbers) n (numbers_in line (suc (i + 1)) (drop (suc i) columns) rest)
    ∙ ap (λ front. after_front front (numbers_in line (suc (i + 1)) (drop (suc i) columns) rest)) (sym (take_more_set numbers i n (omega arith)))
    ∙ ap (λ k. after_front (take (i + 1) (set numbers i n)) (numbers_in line k (drop (suc i) columns) rest)) (sym (add-one (i + 1)))
    ∙ ap (λ k. after_front (take (i + 1) (set numbers i n)) (numbers_in line (i + 1 + 1) (drop k columns) rest)) (sym (add-one i))

pub column_fault : (d : Limits) (line i : ℕ) (fields : List (List ℕ)) (front : List ℤ) (fault : PartFault) → i < 12
    → ((more : List Limits) → numbers_in line (i + 1) (get_or columns i d ∷ more) fields ≡ Err fault)
    → after_front front (numbers_in line (i + 1) (drop i columns) fields) ≡ Err fault
column_fault d line i fields front fault inside stops =
    ap (λ cs. after_front front (numbers_in line (i + 1) cs fields)) (drop-cons columns i d inside)
    ∙ ap (after_front front) (stops (drop (suc i) columns))

-- after all columns
pub all_columns : (line i : ℕ) (fields : List (List ℕ)) (numbers : List ℤ) → length numbers ≡ 12 → i ≡ 12 → fields ≡ [] → after_front (take i numbers) (numbers_in line (i + 1) (drop i columns) fields) ≡ Ok numbers
all_columns line i fields numbers twelve all none =
    ap (λ k. after_front (take k numbers) (numbers_in line (k + 1) (drop k columns) fields)) all
    ∙ ap (λ fs. after_front (take 12 numbers) (numbers_in line 13 [] fs)) none
    ∙ ap Ok (append-nil (take 12 numbers) ∙ take_all 12 numbers (omega arith))

pub thirteenth : (line i : ℕ) (fields rest : List (List ℕ)) (field : List ℕ) (front : List ℤ) → i ≡ 12 → fields ≡ field ∷ rest → after_front front (numbers_in line (i + 1) (drop i columns) fields) ≡ Err (faults.Field line 13)
thirteenth line i fields rest field front all some =
    ap (λ k. after_front front (numbers_in line (k + 1) (drop k columns) fields)) all
    ∙ ap (λ fs. after_front front (numbers_in line 13 [] fs)) some

pub number_found : (none outside : PartFault) (read : Result ℤ NumberFault) (n : ℤ) → number_or none outside read ≡ Ok n → read ≡ Ok n
number_found none outside (Ok m) n e = let same : m ≡ n = cc in ap Ok same
number_found none outside (Err NoNumber) n e = cc
number_found none outside (Err OutOfRange) n e = cc

-- what a number stands before was read, where all is
pub with_first-ok : (n : ℤ) (read : Result (List ℤ) PartFault) (ns : List ℤ) → with_first n read ≡ Ok ns → (rest : List ℤ) × (read ≡ Ok rest) × (ns ≡ n ∷ rest)
with_first-ok n (Ok rest) ns e = (rest, refl, let same : ns ≡ n ∷ rest = cc in same)
with_first-ok n (Err fault) ns e = cc

-- a number was read before what comes next, where all is
pub bind-ok : {A B : Type 0} (read : Result A PartFault) (next : A → Result B PartFault) (y : B) → (read >>= next) ≡ Ok y → (x : A) × (read ≡ Ok x) × (next x ≡ Ok y)
bind-ok (Ok x) next y e = (x, refl, e)
bind-ok (Err fault) next y e = cc

-- numbers that are read are within the limits of their columns
pub numbers_in-within : (line column : ℕ) (cs : List Limits) (fields : List (List ℕ)) (ns : List ℤ) → IntegersAreFound → numbers_in line column cs fields ≡ Ok ns → AreWithin cs ns
numbers_in-within line column [] [] ns found read = let none : ns ≡ [] = cc in subst (AreWithin []) (sym none) tt
numbers_in-within line column [] (field ∷ fields) ns found read = cc
numbers_in-within line column (c ∷ cs) [] ns found read = cc
numbers_in-within line column (c ∷ cs) (field ∷ fields) ns found read =
    let first = bind-ok (number_or (faults.Field line column) (faults.Range line column) (integer_in c.least c.most field)) (λ n. with_first n (numbers_in line (suc column) cs fields)) ns read in
    let rest = with_first-ok first.0 (numbers_in line (suc column) cs fields) ns first.2 in
    let is = (found c.least c.most field first.0).0 (number_found _ _ _ _ first.1) in
    subst (AreWithin (c ∷ cs)) (sym rest.2) (is.low, is.high, numbers_in-within line (suc column) cs fields rest.0 found rest.1)

one_more_due : (due counter : ℕ) → counter < due → due - counter ≡ suc (due - (counter + 1))
one_more_due due counter left = omega arith

-- one particle more
pub one_particle_more : (count due counter : ℕ) (before : List Particle) (ahead rest : List FieldLine) (line : FieldLine) (ns : List ℤ) → counter < due
    → ahead ≡ line ∷ rest → Ok ns ≡ numbers_in line.number 1 columns line.fields → list_any (λ p. eqb p.id (particle_of ns).id) before ≡ false
    → particles_read count (due - counter) before ahead ≡ particles_read count (due - (counter + 1)) (before ++ particle_of ns ∷ []) rest
one_particle_more count due counter before ahead rest line ns left is read fresh =
    ap (λ d. particles_read count d before ahead) (one_more_due due counter left)
    ∙ ap (particles_read count (suc (due - (counter + 1))) before) is
    ∙ ap (λ (r : Result (List ℤ) PartFault). (r >>= λ ns. cond (list_any (λ p. eqb p.id (particle_of ns).id) before) (Err (faults.DuplicateId line.number)) (Ok (particle_of ns))) >>= λ p. particles_read count (due - (counter + 1)) (before ++ p ∷ []) rest) (sym read)
    ∙ ap (λ b. cond b (Err (faults.DuplicateId line.number)) (Ok (particle_of ns)) >>= λ p. particles_read count (due - (counter + 1)) (before ++ p ∷ []) rest) fresh

pub line_fault : (count due counter : ℕ) (before : List Particle) (ahead rest : List FieldLine) (line : FieldLine) (fault : PartFault) → counter < due
    → ahead ≡ line ∷ rest → Err fault ≡ numbers_in line.number 1 columns line.fields
    → particles_read count (due - counter) before ahead ≡ Err fault
line_fault count due counter before ahead rest line fault left is read =
    ap (λ d. particles_read count d before ahead) (one_more_due due counter left)
    ∙ ap (particles_read count (suc (due - (counter + 1))) before) is
    ∙ ap (λ (r : Result (List ℤ) PartFault). (r >>= λ ns. cond (list_any (λ p. eqb p.id (particle_of ns).id) before) (Err (faults.DuplicateId line.number)) (Ok (particle_of ns))) >>= λ p. particles_read count (due - (counter + 1)) (before ++ p ∷ []) rest) (sym read)

pub duplicate_id : (count due counter : ℕ) (before : List Particle) (ahead rest : List FieldLine) (line : FieldLine) (ns : List ℤ) → counter < due
    → ahead ≡ line ∷ rest → Ok ns ≡ numbers_in line.number 1 columns line.fields → list_any (λ p. eqb p.id (particle_of ns).id) before ≡ true
    → particles_read count (due - counter) before ahead ≡ Err (faults.DuplicateId line.number)
duplicate_id count due counter before ahead rest line ns left is read taken =
    ap (λ d. particles_read count d before ahead) (one_more_due due counter left)
    ∙ ap (particles_read count (suc (due - (counter + 1))) before) is
    ∙ ap (λ (r : Result (List ℤ) PartFault). (r >>= λ ns. cond (list_any (λ p. eqb p.id (particle_of ns).id) before) (Err (faults.DuplicateId line.number)) (Ok (particle_of ns))) >>= λ p. particles_read count (due - (counter + 1)) (before ++ p ∷ []) rest) (sym read)
    ∙ ap (λ b. cond b (Err (faults.DuplicateId line.number)) (Ok (particle_of ns)) >>= λ p. particles_read count (due - (counter + 1)) (before ++ p ∷ []) rest) taken

pub no_line_left : (count due counter : ℕ) (before : List Particle) (ahead : List FieldLine) → counter < due → ahead ≡ []
    → particles_read count (due - counter) before ahead ≡ Err (faults.Short (count + 1))
no_line_left count due counter before ahead left none =
    ap (λ d. particles_read count d before ahead) (one_more_due due counter left)
    ∙ ap (particles_read count (suc (due - (counter + 1))) before) none
    ∙ ap (λ n. Err (faults.Short n)) (sym (add-one count))
