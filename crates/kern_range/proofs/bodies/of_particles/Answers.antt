use Rattle.std.proofs.Common.{◌≡◌, ◌∙◌, ◌∷◌, ◌+◌, List, drop, map, fold, sym, ap}
use Rattle.std.specs.Int.{int_min, int_max}
use Rattle.std.proofs.lemmas.List.{drop_more}
use Rattle.pf_model.specs.Particle.{Particle}
use Rattle.kern_range.specs.declared.interval.Interval.{Interval}
use Rattle.kern_range.specs.Bodies.{number_of_particle}
use Rattle.kern_range.specs.Intervals.{wider}
use Rattle.kern_range.proofs.SumLemmas.{all_taken}
use Rattle.kern_range.proofs.bodies.of_particles.Goals as goal

pub loop-body-init : goal.loop-body-init
loop-body-init c = record {
  least = ap (λ (a : Interval). fold int_min a.least (map (number_of_particle c.args.of) c.args.others.now)) c.point-all.ensures;
  greatest = ap (λ (a : Interval). fold int_max a.greatest (map (number_of_particle c.args.of) c.args.others.now)) c.point-all.ensures;
}

pub loop-body-preserved : goal.loop-body-preserved
loop-body-preserved c =
    let next : drop c.loop-body.body-index c.args.others.now ≡ c.body-item.result ∷ drop (c.loop-body.body-index + 1) c.args.others.now =
    drop_more c.args.others.now c.loop-body.body-index c.body-item.result c.loop-body-test.true
    ∙ ap (λ (b : Particle). b ∷ drop (c.loop-body.body-index + 1) c.args.others.now) (sym c.body-item.is)
    in
    let joined = c.wider-all.ensures ∙ ap (wider c.loop-body.all) c.point.ensures in
    record {
      least = ap (λ (a : Interval). fold int_min a.least (map (number_of_particle c.args.of) (drop (c.loop-body.body-index + 1) c.args.others.now))) joined
          ∙ ap (λ (bs : List Particle). fold int_min c.loop-body.all.least (map (number_of_particle c.args.of) bs)) (sym next)
          ∙ c.loop-body.invariant.least;
      greatest = ap (λ (a : Interval). fold int_max a.greatest (map (number_of_particle c.args.of) (drop (c.loop-body.body-index + 1) c.args.others.now))) joined
          ∙ ap (λ (bs : List Particle). fold int_max c.loop-body.all.greatest (map (number_of_particle c.args.of) bs)) (sym next)
          ∙ c.loop-body.invariant.greatest;
    }

pub returns : goal.returns
returns c =
    all_taken c.args.first.now c.args.others.now c.args.of c.loop-body.all c.loop-body.body-index c.loop-body-test.false
    c.loop-body.invariant.least c.loop-body.invariant.greatest
