use Rattle.std.proofs.Common.{◌≡◌, [], ◌∷◌, ◌++◌, pos, map, take, get_or, append_assoc, to_z, of_z, w64, sym, ap, ◌∙◌, arith, rules}
use Rattle.std.specs.Fmt.{decimal, signed_decimal}
use Rattle.std.specs.Int.{w128}
use Rattle.std.specs.List.{flat_map}
use Rattle.std.proofs.lemmas.Int.{to_z-of_z}
use Rattle.std.proofs.lemmas.List.{append-nil, take_all}
use Rattle.text_lines.specs.Written.{written_line}
use Rattle.particle_file.proofs.PrintingLemmas.{written_line-numbers, spaced-more, pushed-more}
use Rattle.particle_file.proofs.printing.push_line.Goals as goal

pub loop-number-init : goal.loop-number-init
loop-number-init c =
    let id : to_z w128 (of_z w128 c.from.result) ≡ pos c.args.body.now.id = to_z-of_z w128 c.from.result (search rules) ∙ c.from.ensures ∙ ap (λ p. pos p.id) c.body.view_is in
    c.in_ok-push_decimal.ensures.pushed ∙ ap (λ n. c.args.out.now.items ++ signed_decimal n) id ∙ ap (λ t. c.args.out.now.items ++ t) (sym (append-nil (decimal c.args.body.now.id)))

pub loop-number-preserved : goal.loop-number-preserved
loop-number-preserved c =
    let value = get_or c.numbers_after_id-others.result c.loop-number.number-index (pos 0) in
    let narrow : to_z w64 (of_z w64 value) ≡ value = to_z-of_z w64 value (search rules) in
    let number : to_z w128 (of_z w128 c.from-in-loop-number.result) ≡ value = to_z-of_z w128 c.from-in-loop-number.result (search rules) ∙ c.from-in-loop-number.ensures ∙ narrow in
    pushed-more c.args.out.now.items (decimal c.args.body.now.id) (flat_map (λ n. 32 ∷ signed_decimal n) (take c.loop-number.number-index c.numbers_after_id-others.result)) _ _ _ (signed_decimal value) c.loop-number.invariant c.in_ok-push.ensures.items (c.in_ok-push_decimal-2.ensures.pushed ∙ ap (λ n. c.push.new.self.items ++ signed_decimal n) number)
    ∙ ap (λ t. c.args.out.now.items ++ (decimal c.args.body.now.id ++ t)) (sym (spaced-more c.numbers_after_id-others.result c.loop-number.number-index (omega arith)))

pub returns : goal.returns
returns c =
    let others = c.numbers_after_id-others.ensures ∙ ap (λ p. pos p.at.x ∷ pos p.at.y ∷ pos p.at.z ∷ (p.vel ++ pos p.mass ∷ [] ++ take 4 p.attr)) c.body.view_is in
    let all = take_all c.loop-number.number-index c.numbers_after_id-others.result (omega arith) in
    c.in_ok-push-2.ensures.items ∙ ap (λ t. t ++ 10 ∷ []) (c.loop-number.invariant ∙ ap (λ ns. c.args.out.now.items ++ (decimal c.args.body.now.id ++ flat_map (λ n. 32 ∷ signed_decimal n) ns)) all)
    ∙ append_assoc c.args.out.now.items (decimal c.args.body.now.id ++ flat_map (λ n. 32 ∷ signed_decimal n) c.numbers_after_id-others.result) (10 ∷ [])
    ∙ ap (λ t. c.args.out.now.items ++ t) (sym (written_line-numbers c.args.body.now.id c.numbers_after_id-others.result) ∙ ap (λ ns. written_line (map signed_decimal (pos c.args.body.now.id ∷ ns))) others)
