use Rattle.std.proofs.Common.{ap, ◌∙◌, ℕ, suc, List, Option, Some, option_map, take, drop}
use Rattle.deck_file.proofs.ValueLemmas.{rest_after}
use Rattle.deck_file.proofs.values.cut_at.Goals as goal

abbrev cut : List ℕ → Option ℕ → Option (List ℕ × List ℕ)
cut value = option_map (λ place. (take place value, drop (suc place) value))

pub returns-in_err-place : goal.returns-in_err-place
returns-in_err-place c =
    ap (option_map (λ parts. (parts.0.now, parts.1.now))) c.from_residual.ensures ∙ ap (cut c.args.value.now) c.in_err-place.ensures.value

pub returns : goal.returns
returns c =
    let value = c.args.value.now in
    let place = c.in_ok-place.place in
    ap (λ rest. Some (take place value, rest)) (rest_after value place) ∙ ap (cut value) c.in_ok-place.ensures.value
