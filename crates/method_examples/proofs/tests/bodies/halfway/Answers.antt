use Rattle.std.proofs.Common.{ℕ, List, [], ◌∷◌, ◌++◌, map, take, sym, ◌∙◌, ap}
use Rattle.std.proofs.lemmas.List.{map-append, take_more}
use Rattle.pf_model.specs.Particle.{Particle}
use Rattle.method_examples.proofs.tests.bodies.halfway.Goals as goal

abbrev id_of : Particle → ℕ
id_of j = j.id

pub loop-body-preserved : goal.loop-body-preserved
loop-body-preserved c =
    let js = c.args.bodies.now in
    let n = c.loop-body.body-index in
    let body : Particle = c.body-item.result in
    ap (map id_of) c.in_ok-push.ensures.items ∙ map-append id_of c.loop-body.now.items (c.half.result ∷ [])
    ∙ ap (λ (ids : List ℕ). ids ++ c.half.result.id ∷ []) c.loop-body.invariant
    ∙ ap (λ (i : ℕ). map id_of (take n js) ++ i ∷ []) c.half.ensures
    ∙ sym (map-append id_of (take n js) (body ∷ [])) ∙ ap (λ (j : Particle). map id_of (take n js ++ j ∷ [])) c.body-item.is
    ∙ ap (map id_of) (sym (take_more js n body c.loop-body-test.true))
