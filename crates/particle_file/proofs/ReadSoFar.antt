-- What the reading of particles keeps from line to line.
use Rattle.std.proofs.Common.{◌≡◌, ℕ, ◌+◌, ◌-◌, ◌<◌, Bool, true, false, not, List, [], ◌∷◌, ◌++◌, length, length-append, nat_cmp, Option, Some, None, MatchOption, Ok, Err, refl, sym, ap, ◌∙◌, subst, arith, ℤ}
use Rattle.std.specs.BTreeSet.{BTreeSet}
use Rattle.std.specs.BTreeSet as tree
use Rattle.pf_model.specs.Particle.{Particle}
use Rattle.pf_model.specs.Particles.{HaveDistinctIds}
use Rattle.text_lines.specs.Lines.{FieldLine}
use Rattle.particle_file.specs.Columns.{columns, particle_of}
use Rattle.particle_file.specs.Reading.{numbers_in, particles_read}
use Rattle.particle_file.specs.declared.fault.PartFault.{PartFault}
use Rattle.particle_file.specs.declared.fault.PartFault.TheVariants as faults
use Rattle.particle_file.proofs.ReadingLemmas.{one_particle_more, line_fault, duplicate_id, no_line_left}
use Rattle.particle_file.proofs.IdLemmas.{has_id, no_ids, distinct-push, has_id-push, not_held, held_already}

-- `counter` of the particles that are due were read, and their ids are in the set
pub record IsReadSoFar (count due : ℕ) (lines : List FieldLine) (counter : ℕ) (ps : List Particle) (ahead : List FieldLine) (ids : BTreeSet ℕ) : Type 0 where
  pub goes_on : particles_read count due [] lines ≡ particles_read count (due - counter) ps ahead
  pub many : length ps ≡ counter
  pub distinct : HaveDistinctIds ps
  pub held : (q : ℕ) → tree.contains nat_cmp ids q ≡ has_id ps q

pub nothing_read : (count due : ℕ) (lines : List FieldLine) (ps : List Particle) (ids : BTreeSet ℕ) → ps ≡ [] → tree.IsEmpty ids → IsReadSoFar count due lines 0 ps lines ids
nothing_read count due lines ps ids none empty = record {
  goes_on = let all : due ≡ due - 0 = omega arith in ap (λ d. particles_read count d [] lines) all ∙ ap (λ qs. particles_read count (due - 0) qs lines) (sym none);
  many = ap length none;
  distinct = subst HaveDistinctIds (sym none) no_ids;
  held = λ q. rw empty (ap (λ qs. has_id qs q) (sym none));
}

-- the next line, whose fields give these numbers
pub record IsNextParticle (ahead rest : List FieldLine) (ns : List ℤ) (p : Particle) : Type 0 where
  pub line : FieldLine
  pub next : ahead ≡ line ∷ rest
  pub read : Ok ns ≡ numbers_in line.number 1 columns line.fields
  pub particle : p ≡ particle_of ns

pub one_more_read : (count due : ℕ) (lines : List FieldLine) (counter : ℕ) (ps qs : List Particle) (ahead rest : List FieldLine) (ids new_ids : BTreeSet ℕ) (ns : List ℤ) (p : Particle) (id : ℕ) (is_new : Bool)
    → IsReadSoFar count due lines counter ps ahead ids → counter < due → IsNextParticle ahead rest ns p → p.id ≡ id
    → is_new ≡ not (tree.contains nat_cmp ids id) → is_new ≡ true → tree.Updates nat_cmp ids new_ids id true → qs ≡ ps ++ p ∷ []
    → IsReadSoFar count due lines (counter + 1) qs rest new_ids
one_more_read count due lines counter ps qs ahead rest ids new_ids ns p id is_new so_far left next is added fresh updates pushed =
    let apart : has_id ps p.id ≡ false = ap (has_id ps) is ∙ sym (so_far.held id) ∙ not_held is_new (tree.contains nat_cmp ids id) added fresh in
    record {
      goes_on =
          so_far.goes_on
          ∙ one_particle_more count due counter ps ahead rest next.line ns left next.next next.read (ap (λ q. has_id ps q.id) (sym next.particle) ∙ apart)
          ∙ ap (λ q. particles_read count (due - (counter + 1)) (ps ++ q ∷ []) rest) (sym next.particle)
          ∙ ap (λ rs. particles_read count (due - (counter + 1)) rs rest) (sym pushed);
      many = ap length pushed ∙ length-append ps (p ∷ []) ∙ ap (λ n. n + 1) so_far.many;
      distinct = subst HaveDistinctIds (sym pushed) (distinct-push ps p so_far.distinct apart);
      held = λ q. has_id-push ps p id q (tree.contains nat_cmp ids q) (tree.contains nat_cmp new_ids q) is (updates.0 q) (so_far.held q) ∙ ap (λ rs. has_id rs q) (sym pushed);
    }

pub stops_at_line : (count due : ℕ) (lines : List FieldLine) (counter : ℕ) (ps : List Particle) (ahead rest : List FieldLine) (ids : BTreeSet ℕ) (line : FieldLine) (fault : PartFault)
    → IsReadSoFar count due lines counter ps ahead ids → counter < due → ahead ≡ line ∷ rest → Err fault ≡ numbers_in line.number 1 columns line.fields
    → particles_read count due [] lines ≡ Err fault
stops_at_line count due lines counter ps ahead rest ids line fault so_far left next read =
    so_far.goes_on ∙ line_fault count due counter ps ahead rest line fault left next read

pub stops_at_id : (count due : ℕ) (lines : List FieldLine) (counter : ℕ) (ps : List Particle) (ahead rest : List FieldLine) (ids : BTreeSet ℕ) (ns : List ℤ) (p : Particle) (id : ℕ) (is_new : Bool)
    → IsReadSoFar count due lines counter ps ahead ids → counter < due → (next : IsNextParticle ahead rest ns p) → p.id ≡ id
    → is_new ≡ not (tree.contains nat_cmp ids id) → is_new ≡ false
    → particles_read count due [] lines ≡ Err (faults.DuplicateId next.line.number)
stops_at_id count due lines counter ps ahead rest ids ns p id is_new so_far left next is added again =
    let taken : has_id ps p.id ≡ true = ap (has_id ps) is ∙ sym (so_far.held id) ∙ held_already is_new (tree.contains nat_cmp ids id) added again in
    so_far.goes_on ∙ duplicate_id count due counter ps ahead rest next.line ns left next.next next.read (ap (λ q. has_id ps q.id) (sym next.particle) ∙ taken)

pub stops_at_end : (count due : ℕ) (lines : List FieldLine) (counter : ℕ) (ps : List Particle) (ahead : List FieldLine) (ids : BTreeSet ℕ)
    → IsReadSoFar count due lines counter ps ahead ids → counter < due → ahead ≡ []
    → particles_read count due [] lines ≡ Err (faults.Short (count + 1))
stops_at_end count due lines counter ps ahead ids so_far left none = so_far.goes_on ∙ no_line_left count due counter ps ahead left none

-- what a match says where there is no value
pub at_none : {X : Type 0} (o : Option X) (P : Type 0) (Q : X → Type 0) → MatchOption o P Q → ((x : X) → o ≡ Some x → ⊥) → P
at_none None P Q told none = told
at_none (Some x) P Q told none = absurd (none x refl)
