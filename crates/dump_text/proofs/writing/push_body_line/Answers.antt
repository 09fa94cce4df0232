use Rattle.std.proofs.Common.{◌≡◌, ◌∷◌, [], ap, arith, codes, of_z, pos, to_z, w64}
use Rattle.std.proofs.lemmas.Int.{ints}
use Rattle.pf_geom.specs.Position.{Position}
use Rattle.run_model.specs.StepText.{after_blank, body_line}
use Rattle.dump_text.proofs.PushedText.{body_pushed}
use Rattle.dump_text.proofs.writing.push_body_line.Goals as goal

pub returns : goal.returns
unfolding body_line
returns c =
    let row = c.args.row.now in
    let x_is : c.at.inside.x ≡ row.at.x = ap (λ (p : Position). p.x) c.at.view_is in
    let y_is : c.at.inside.y ≡ row.at.y = ap (λ (p : Position). p.y) c.at.view_is in
    let z_is : c.at.inside.z ≡ row.at.z = ap (λ (p : Position). p.z) c.at.view_is in
    let id : to_z w64 (of_z w64 c.from.result) ≡ pos row.id = omega (arith, ints) in
    let owner : to_z w64 (of_z w64 c.from-2.result) ≡ pos row.owner = omega (arith, ints) in
    let x : to_z w64 (of_z w64 c.from-3.result) ≡ pos row.at.x = omega (arith, ints) in
    let y : to_z w64 (of_z w64 c.from-4.result) ≡ pos row.at.y = omega (arith, ints) in
    let z : to_z w64 (of_z w64 c.from-5.result) ≡ pos row.at.z = omega (arith, ints) in
    body_pushed after_blank (pos row.id ∷ pos row.owner ∷ pos row.at.x ∷ pos row.at.y ∷ pos row.at.z ∷ []) row.vel row.forces _ (codes "p") (codes "\n")
    _ _ _ _ _ c.in_ok-push.ensures.items (rw (id, owner, x, y, z) at c.in_ok-push_numbers.ensures) c.in_ok-push_numbers-2.ensures
    (rw c.as_slice.ensures at c.in_ok-push_numbers-3.ensures) c.in_ok-push-2.ensures.items
