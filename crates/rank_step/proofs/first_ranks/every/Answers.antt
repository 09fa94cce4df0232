use Rattle.std.proofs.Common.{Vec, Global, ◌∙◌, ap}
use Rattle.pf_model.specs.Particle.{Particle}
use Rattle.rank_step.proofs.DealLemmas.{dealt_on, dealt_past, dealt_all}
use Rattle.rank_step.proofs.first_ranks.every.Goals as goal
use Rattle.rank_step.proofs.first_ranks.every.Goals.{then-place-count+in_ok-push, else-place-count}

pub loop-place-preserved : goal.loop-place-preserved
loop-place-preserved c =
    elim c.if-place-count.branch [
      | then-place-count+in_ok-push w ↦
          ap (λ (v : Vec Particle Global). v.items) w.own-is ∙ w.in_ok-push.ensures.items
          ∙ dealt_on c.args.count c.args.rest c.args.bodies.now c.loop-place.place c.index-bodies-place.result c.loop-place-test.true c.index-bodies-place.is c.loop-place.own.items w.if-place-count.true c.loop-place.invariant
      | else-place-count w ↦
          ap (λ (v : Vec Particle Global). v.items) w.own-is
          ∙ dealt_past c.args.count c.args.rest c.args.bodies.now c.loop-place.place c.index-bodies-place.result c.loop-place-test.true c.index-bodies-place.is c.loop-place.own.items w.if-place-count.false c.loop-place.invariant
    ]

pub returns : goal.returns
returns c = c.loop-place.invariant ∙ dealt_all c.args.count c.args.rest c.args.bodies.now c.loop-place.place c.loop-place-test.false
