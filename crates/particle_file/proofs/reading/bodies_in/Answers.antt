use Rattle.std.proofs.Common.{◌≡◌, ◌-◌, inr, refl, sym, ap, ◌∙◌, arith}
use Rattle.std.proofs.lemmas.Result.{err_from_is_err_and}
use Rattle.particle_file.proofs.ReadSoFar.{IsNextParticle, nothing_read, one_more_read, stops_at_line, stops_at_id, stops_at_end, at_none}
use Rattle.particle_file.specs.Reading.{particles_read}
use Rattle.particle_file.proofs.reading.bodies_in.Goals as goal

pub loop-init : goal.loop-init
loop-init c = record {
  so_far = nothing_read _ _ _ _ _ c.new-bodies.ensures.items c.new-ids.ensures.empty;
  count = refl;
}

pub loop-preserved : goal.loop-preserved
loop-preserved c =
    let next : IsNextParticle c.loop.lines.ahead c.next_line.new.self.ahead c.in_ok-numbers.numbers c.body_of-body.result = record {
      line = c.in-Some.line;
      next = c.in-Some.ensures.line;
      read = c.in_ok-numbers.ensures.exact;
      particle = c.body_of-body.ensures;
    } in
    record {
      so_far = one_more_read _ _ _ _ _ _ _ _ _ _ _ _ c.body.inside.id c.in_ok-is_new.is_new c.loop.invariant.so_far c.loop-test.true next (ap (λ p. p.id) (sym c.body.view_is)) c.in_ok-is_new.ensures.added c.if-not-is_new.false c.in_ok-is_new.ensures.updates c.in_ok-push.ensures.items;
      count = c.in-Some.ensures.count ∙ c.loop.invariant.count;
    }

pub returns-in_err-numbers-clause-err : goal.returns-in_err-numbers-clause-err
returns-in_err-numbers-clause-err c =
    let fault = err_from_is_err_and c.from_residual.result c.from_residual.ensures.1 in
    rw (fault.1, fault.2) (inr (stops_at_line _ _ _ _ _ _ _ _ c.in-Some.line _ c.loop.invariant.so_far c.loop-test.true c.in-Some.ensures.line c.in_err-numbers.ensures.exact))

pub returns-then-not-is_new-clause-err : goal.returns-then-not-is_new-clause-err
returns-then-not-is_new-clause-err c =
    let next : IsNextParticle c.loop.lines.ahead c.next_line.new.self.ahead c.in_ok-numbers.numbers c.body_of-body.result = record {
      line = c.in-Some.line;
      next = c.in-Some.ensures.line;
      read = c.in_ok-numbers.ensures.exact;
      particle = c.body_of-body.ensures;
    } in
    inr (rw (ap (λ l. l.number) c.line.view_is) (stops_at_id _ _ _ _ _ _ _ _ _ _ c.body.inside.id c.in_ok-is_new.is_new c.loop.invariant.so_far c.loop-test.true next (ap (λ p. p.id) (sym c.body.view_is)) c.in_ok-is_new.ensures.added c.if-not-is_new.true))

pub returns-in_default-clause-err : goal.returns-in_default-clause-err
returns-in_default-clause-err c =
    let ends = at_none c.next_line.result _ _ c.next_line.ensures.line c.in_default.not-Some in
    let total = c.count.ensures.value ∙ c.next_line.ensures.count ∙ c.loop.invariant.count in
    inr (rw total (stops_at_end _ _ _ _ _ _ _ c.loop.invariant.so_far c.loop-test.true ends.0))

pub returns-clause-ok : goal.returns-clause-ok
returns-clause-ok c =
    let none : c.args.due - c.loop.counter ≡ 0 = omega arith in
    c.loop.invariant.so_far.goes_on ∙ ap (λ d. particles_read c.args.lines.now.count d c.loop.bodies.items c.loop.lines.ahead) none

pub returns-clause-bodies : goal.returns-clause-bodies
returns-clause-bodies c = record { few = let many = c.loop.invariant.so_far.many in omega arith; distinct = c.loop.invariant.so_far.distinct }
