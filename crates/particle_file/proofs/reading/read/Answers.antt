use Rattle.std.proofs.Common.{◌≡◌, ℕ, List, [], length, Err, inl, inr, ⊎_elim, sym, ap, ◌∙◌, ◌⊎◌, Result, Ok, IfErr}
use Rattle.std.proofs.lemmas.Result.{err_from_is_err_and}
use Rattle.pf_model.specs.Particle.{Particle}
use Rattle.particle_file.specs.FirstFault.{HasFirstParticleFault}
use Rattle.particle_file.specs.Laws.{FaultsAreFirst}
use Rattle.particle_file.specs.Reading.{GivesParticlesUnlessMemory}
use Rattle.particle_file.specs.declared.fault.PartFault.{PartFault}
use Rattle.text_lines.specs.Lines.{LinesAhead, lines, field_lines}
use Rattle.particle_file.specs.Reading.{particles_read, reading_of, reading}
use Rattle.particle_file.specs.declared.fault.PartFault.TheVariants as faults
use Rattle.particle_file.proofs.reading.read.Goals as goal

-- a reader at the front of a text
reading-is : (text : List ℕ) (start : LinesAhead) → start ≡ record { ahead = field_lines text; count = length (lines text) } → reading text ≡ reading_of start.count start.ahead
unfolding reading
reading-is text start is = ap (λ l. reading_of l.count l.ahead) (sym is)

pub returns-in_err-due-clause-exact : goal.returns-in_err-due-clause-exact
returns-in_err-due-clause-exact c =
    let fault = err_from_is_err_and c.from_residual.result c.from_residual.ensures.1 in
    rw (fault.1, fault.2) (inr (reading-is c.args.text.now _ c.new-lines.ensures ∙ c.in_err-due.ensures.err))

pub returns-in_err-bodies-clause-exact : goal.returns-in_err-bodies-clause-exact
returns-in_err-bodies-clause-exact c =
    let fault = err_from_is_err_and c.from_residual-in_err-bodies.result c.from_residual-in_err-bodies.ensures.1 in
    rw (fault.1, fault.2)
    (⊎_elim inl (λ stops. inr (reading-is c.args.text.now _ c.new-lines.ensures ∙ c.in_ok-due.ensures.ok ∙ ap (λ n. particles_read n c.in_ok-due.due [] c.head.new.lines.ahead) (sym c.in_ok-due.ensures.count) ∙ stops)) c.in_err-bodies.ensures.err)

pub returns-in-None-clause-exact : goal.returns-in-None-clause-exact
returns-in-None-clause-exact c =
    reading-is c.args.text.now _ c.new-lines.ensures ∙ c.in_ok-due.ensures.ok
    ∙ ap (λ n. particles_read n c.in_ok-due.due [] c.head.new.lines.ahead) (sym c.in_ok-due.ensures.count)
    ∙ c.in_ok-bodies.ensures.ok ∙ ap (particles_read c.head.new.lines.count 0 c.in_ok-bodies.bodies.items) c.in-None.ensures.line.0

pub returns-in-None-clause-spelled : goal.returns-in-None-clause-spelled
returns-in-None-clause-spelled c = c.reading_is_spelling.ensures.read c.args.text.now c.in_ok-bodies.bodies.items (returns-in-None-clause-exact c)

pub returns-in-Some-clause-exact : goal.returns-in-Some-clause-exact
returns-in-Some-clause-exact c =
    inr
    (reading-is c.args.text.now _ c.new-lines.ensures ∙ c.in_ok-due.ensures.ok
    ∙ ap (λ n. particles_read n c.in_ok-due.due [] c.head.new.lines.ahead) (sym c.in_ok-due.ensures.count)
    ∙ c.in_ok-bodies.ensures.ok ∙ ap (particles_read c.head.new.lines.count 0 c.in_ok-bodies.bodies.items) c.in-Some.ensures.line
    ∙ ap (λ l. Err (faults.Trailing l.number)) (sym c.line.view_is))

pub returns-in-None-clause-plain : goal.returns-in-None-clause-plain
returns-in-None-clause-plain c = (c.reading_is_spelling.ensures.plain c.args.text.now c.in_ok-bodies.bodies.items (returns-in-None-clause-spelled c)).1

-- an answer that is no particles is the first fault
first_fault : (text : List ℕ) (result : Result (List Particle) PartFault) → FaultsAreFirst → GivesParticlesUnlessMemory result (reading text) → IfErr result (λ fault. (fault ≡ faults.Memory) ⊎ HasFirstParticleFault text fault)
first_fault text (Ok ps) first gives = tt
first_fault text (Err fault) first gives = ⊎_elim inl (λ is. inr ((first text fault).0 is)) gives

pub returns-in_err-due-clause-first : goal.returns-in_err-due-clause-first
returns-in_err-due-clause-first c = first_fault c.args.text.now _ c.reading_is_spelling.ensures.first (returns-in_err-due-clause-exact c)

pub returns-in_err-bodies-clause-first : goal.returns-in_err-bodies-clause-first
returns-in_err-bodies-clause-first c = first_fault c.args.text.now _ c.reading_is_spelling.ensures.first (returns-in_err-bodies-clause-exact c)

pub returns-in-Some-clause-first : goal.returns-in-Some-clause-first
returns-in-Some-clause-first c = ⊎_elim inl (λ is. inr ((c.reading_is_spelling.ensures.first c.args.text.now (faults.Trailing c.line.inside.number)).0 is)) (returns-in-Some-clause-exact c)
