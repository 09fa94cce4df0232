-- Moments that are the same together with others.
use Rattle.std.proofs.Common.{sym, ◌∙◌, ap}
use Rattle.pf_model.specs.Totals.{Totals}
use Rattle.model_laws.specs.MomentLaws.{MomentsCancel}
use Rattle.pf_model.proofs.DifferenceLemmas.{difference_is, difference}

pub moments_cancel : MomentsCancel
moments_cancel m n o has left right same =
    let first = difference_is m n left.three (has.eight ∙ sym left.eight) in
    let second = difference_is m o right.three (has.eight ∙ sym right.eight) in
    sym first ∙ ap (λ (t : Totals). difference t m) same ∙ second
