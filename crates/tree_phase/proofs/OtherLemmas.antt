-- The ranks but one, by number.
use Rattle.std.proofs.Common.{◌≡◌, ℕ, zero, suc, ◌+◌, ◌<◌, ◌≤◌, cond, [], ◌∷◌, ◌++◌, length, get_or, take, sym, ◌∙◌, ap, arith}
use Rattle.std.specs.List.{Contains}
use Rattle.std.proofs.lemmas.Bool.{eq-eqb, ne_eqb}
use Rattle.std.proofs.lemmas.List.{append-nil, get_or-take, get_or_default, length-take-le}
use Rattle.std.proofs.lemmas.List.Elements.{Contains-get_or}
use Rattle.let_inbox.specs.Sources.{IsSource, others}
use Rattle.let_inbox.specs.Laws.{OthersAscend, OthersAreTheSources, OthersGrow}

-- the next rank is one more of them
pub with_other : OthersGrow → (rank count : ℕ) → (count ≡ rank → ⊥) → others rank count ++ count ∷ [] ≡ others rank (count + 1)
with_other law rank count other =
    sym (law rank count ∙ ap (λ b. others rank count ++ cond b [] (count ∷ [])) (ne_eqb count rank other))

-- or it is the own one
pub without_own : OthersGrow → (rank count : ℕ) → count ≡ rank → others rank count ≡ others rank (count + 1)
without_own law rank count same =
    sym (law rank count ∙ ap (λ b. others rank count ++ cond b [] (count ∷ [])) (eq-eqb count rank same) ∙ append-nil (others rank count))

-- the one at a place is a source
pub source_at : OthersAreTheSources → (rank count k : ℕ) → k < length (others rank count) → IsSource rank count (get_or (others rank count) k 0)
source_at law rank count k within = ((law rank count).1 (get_or (others rank count) k 0)).0 (Contains-get_or (others rank count) k 0 within)

-- it is neither the own rank nor one of those before
pub not_yet : OthersAscend → OthersAreTheSources → (rank count k src : ℕ) → k < length (others rank count) → get_or (others rank count) k 0 ≡ src → Contains (rank ∷ take k (others rank count)) src → ⊥
not_yet up are rank count k src within at (zero, inside, is) = (source_at are rank count k within).1 (at ∙ sym is)
not_yet up are rank count k src within at (suc j, inside, is) =
    let long = length-take-le k (others rank count) (omega arith) in
    let less : j < k = omega arith in
    let earlier = get_or-take k (others rank count) j src less ∙ get_or_default (others rank count) j src 0 (omega arith) in
    let rises = up rank 0 count j k 0 less within in
    let same = sym earlier ∙ is in
    omega arith
