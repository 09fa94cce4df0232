-- Sums of values, one after another.
use Rattle.std.proofs.Common.{◌≡◌, ℕ, ◌+◌, ◌<◌, ◌≤◌, List, [], ◌∷◌, ◌++◌, length, get_or, map, take, drop, sym, ◌∙◌, ap, arith}
use Rattle.std.proofs.lemmas.List.{take_more, take-append-drop, map-append, map_push, get_or_default}
use Rattle.pf_model.specs.declared.entry.Entry.{Entry}
use Rattle.pf_model.specs.Totals.{Totals}
use Rattle.pf_model.specs.Sums.{moment_of, together}
use Rattle.model_laws.specs.MomentLaws.{MomentsJoinInAnyOrder, EntriesJoinTheirMoments}
use Rattle.pf_model.specs.Sufficiency.{entry_moment, moment_together}
use Rattle.list_reuse.specs.Renewing.{values_at}

together_push : MomentsJoinInAnyOrder → (es : List Entry) (e : Entry) → moment_together (es ++ e ∷ []) ≡ together (moment_together es) (entry_moment e)
together_push join [] e = join.0 (entry_moment e) (moment_of [])
together_push join (f ∷ fs) e =
    ap (together (entry_moment f)) (together_push join fs e) ∙ sym (join.1 (entry_moment f) (moment_together fs) (entry_moment e))

pub value_more : MomentsJoinInAnyOrder → (values : List Entry) (d e : Entry) (places : List ℕ) (i k : ℕ) (m n : Totals) → i < length places → k ≡ get_or places i k → k < length values → e ≡ get_or values k e → m ≡ moment_together (values_at values d (take i places)) → n ≡ entry_moment e → together m n ≡ moment_together (values_at values d (take (i + 1) places))
value_more join values d e places i k m n within at inside read so_far one =
    let v : ℕ → Entry = λ j. get_or values j d in
    let same : v k ≡ e = get_or_default values k d e inside ∙ sym read in
    (λ j. together (so_far j) ((one ∙ ap entry_moment (sym same)) j))
    ∙ sym (together_push join (map v (take i places)) (v k))
    ∙ ap moment_together
    (sym (map_push v (take i places) k)
    ∙ ap (λ (x : ℕ). map v (take i places ++ x ∷ [])) at
    ∙ ap (map v) (sym (take_more places i k within)))

pub few_more : EntriesJoinTheirMoments → (values : List Entry) (d : Entry) (places : List ℕ) (i : ℕ) (m : Totals) → m ≡ moment_together (values_at values d (take (i + 1) places)) → (moment_together (values_at values d places)).count ≤ 65536 → m.count ≤ 65536
few_more join values d places i m is few =
    let v : ℕ → Entry = λ j. get_or values j d in
    let all =
    ap (λ (x : Totals). x.count)
    (ap (λ (ks : List ℕ). moment_together (map v ks)) (sym (take-append-drop (i + 1) places))
    ∙ ap moment_together (map-append v (take (i + 1) places) (drop (i + 1) places))
    ∙ join (map v (take (i + 1) places)) (map v (drop (i + 1) places))) in
    let front = ap (λ (x : Totals). x.count) is in
    omega arith
