use Rattle.std.proofs.Common.{◌≡◌, ◌∷◌, [], pos, length, get_or, to_z, of_z, w64, ap, ◌∙◌, rules}
use Rattle.std.proofs.lemmas.Int.{to_z-of_z}
use Rattle.particle_file.proofs.PrintingLemmas.{others-are}
use Rattle.particle_file.proofs.printing.numbers_after_id.Goals as goal

pub returns : goal.returns
returns c =
    let three : length c.args.vel ≡ 3 = search rules in
    let eight : length c.args.attr ≡ 8 = search rules in
    let x : to_z w64 (of_z w64 c.from.result) ≡ pos c.args.at.x = to_z-of_z w64 c.from.result (search rules) ∙ c.from.ensures ∙ ap (λ p. pos p.x) c.at.view_is in
    let y : to_z w64 (of_z w64 c.from-2.result) ≡ pos c.args.at.y = to_z-of_z w64 c.from-2.result (search rules) ∙ c.from-2.ensures ∙ ap (λ p. pos p.y) c.at.view_is in
    let z : to_z w64 (of_z w64 c.from-3.result) ≡ pos c.args.at.z = to_z-of_z w64 c.from-3.result (search rules) ∙ c.from-3.ensures ∙ ap (λ p. pos p.z) c.at.view_is in
    let mass : to_z w64 (of_z w64 c.from-4.result) ≡ pos c.args.mass = to_z-of_z w64 c.from-4.result (search rules) ∙ c.from-4.ensures in
    let v0 = to_z-of_z w64 (get_or c.args.vel 0 (pos 0)) (search rules) in
    let v1 = to_z-of_z w64 (get_or c.args.vel 1 (pos 0)) (search rules) in
    let v2 = to_z-of_z w64 (get_or c.args.vel 2 (pos 0)) (search rules) in
    let a0 = to_z-of_z w64 (get_or c.args.attr 0 (pos 0)) (search rules) in
    let a1 = to_z-of_z w64 (get_or c.args.attr 1 (pos 0)) (search rules) in
    let a2 = to_z-of_z w64 (get_or c.args.attr 2 (pos 0)) (search rules) in
    let a3 = to_z-of_z w64 (get_or c.args.attr 3 (pos 0)) (search rules) in
    (λ i. x i ∷ y i ∷ z i ∷ v0 i ∷ v1 i ∷ v2 i ∷ mass i ∷ a0 i ∷ a1 i ∷ a2 i ∷ a3 i ∷ [])
    ∙ others-are (pos c.args.at.x) (pos c.args.at.y) (pos c.args.at.z) (pos c.args.mass) c.args.vel c.args.attr three eight
