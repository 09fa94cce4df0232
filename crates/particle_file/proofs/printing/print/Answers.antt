use Rattle.std.proofs.Common.{◌≡◌, ℕ, [], ◌∷◌, ◌++◌, pos, List, length, take, append_assoc, to_z, sym, ap, ◌∙◌, arith}
use Rattle.std.specs.Fmt.{decimal, signed_decimal}
use Rattle.std.specs.Int.{w128}
use Rattle.std.specs.List.{flat_map}
use Rattle.std.specs.Prelude.{codes}
use Rattle.std.proofs.lemmas.Int.{to_z_pos}
use Rattle.std.proofs.lemmas.List.{append-nil, take_all}
use Rattle.particle_file.specs.Printing.{number_fields, particles_text}
use Rattle.text_lines.specs.Written.{written_line}
use Rattle.particle_file.proofs.PrintingLemmas.{lines-more, particles_text-is}
use Rattle.particle_file.proofs.printing.print.Goals as goal

-- the first two lines of a text of this many particles
abbrev head : ℕ → List ℕ
head n = (codes "particles 1\ncount " ++ decimal n) ++ 10 ∷ []

pub loop-body-init : goal.loop-body-init
loop-body-init c =
    let n = length c.as_slice-bodies.result.now in
    let count : to_z w128 n ≡ pos n = to_z_pos w128 n (omega arith) in
    c.in_ok-push.ensures.items
    ∙ ap (λ t. t ++ 10 ∷ []) (c.in_ok-push_decimal.ensures.pushed ∙ ap (λ m. c.extend_from_slice.new.self.items ++ signed_decimal m) count
    ∙ ap (λ t. t ++ decimal n) (c.in_ok-extend_from_slice.ensures.items ∙ ap (λ t. t ++ codes "particles 1\ncount ") c.new-out.ensures.items))
    ∙ sym (append-nil (head n))

pub loop-body-preserved : goal.loop-body-preserved
loop-body-preserved c =
    let bodies = c.as_slice-bodies.result.now in
    let i = c.loop-body.body-index in
    let item = c.body-item.is in
    c.in_ok-push_line.ensures ∙ ap (λ t. t ++ written_line (number_fields c.body-item.result)) c.loop-body.invariant
    ∙ append_assoc (head (length bodies)) (flat_map (λ p. written_line (number_fields p)) (take i bodies)) (written_line (number_fields c.body-item.result))
    ∙ ap (λ t. head (length bodies) ++ t) (ap (λ p. flat_map (λ p. written_line (number_fields p)) (take i bodies) ++ written_line (number_fields p)) item
    ∙ sym (lines-more bodies i c.body-item.result (omega arith)))

pub returns : goal.returns
returns c =
    let bodies = c.as_slice-bodies.result.now in
    let all = take_all c.loop-body.body-index bodies (omega arith) in
    c.loop-body.invariant ∙ ap (λ ps. head (length bodies) ++ flat_map (λ p. written_line (number_fields p)) ps) all
    ∙ particles_text-is bodies ∙ ap particles_text (c.as_slice-bodies.ensures.value ∙ c.particles.view_is)
