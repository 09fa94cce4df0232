use Rattle.std.proofs.Common.{◌≡◌, ◌⊎◌, ℕ, ◌++◌, List, [], ◌∷◌, map, inl, inr, refl, sym, ◌∙◌, ap}
use Rattle.std.specs.List.{zip}
use Rattle.std.specs.Iterator.Adapters.{zip_first, zip_second}
use Rattle.std.specs.Slice.Iter.{iter_rest}
use Rattle.std.proofs.lemmas.List.{append_assoc, append-nil}
use Rattle.std.proofs.lemmas.Slice.Zip.{Zip-more, either_empty_from_Zip}
use Rattle.run_model.specs.declared.step_text.BodyLine.{BodyLine}
use Rattle.run_model.specs.Run.{WithForces}
use Rattle.rank_step.specs.Told.{row_with}
use Rattle.rank_step.proofs.told.rows.Goals as goal

-- the lines of owners and particles
lines : List ℕ → List WithForces → List BodyLine
lines owners bodies = map row_with (zip owners bodies)

one_more : (done after : List BodyLine) (row : BodyLine) (owners os : List ℕ) (bodies bs : List WithForces) (owner : ℕ) (body : WithForces) → owners ≡ owner ∷ os → bodies ≡ body ∷ bs → row ≡ row_with (owner, body) → after ≡ done ++ row ∷ [] →
    (after ++ map row_with (zip os bs)) ≡ done ++ map row_with (zip owners bodies)
unfolding lines
one_more done after row owners os bodies bs owner body first second is pushed =
    ap (λ (l : List BodyLine). l ++ lines os bs) (pushed ∙ ap (λ (r : BodyLine). done ++ r ∷ []) is)
    ∙ append_assoc done (row_with (owner, body) ∷ []) (lines os bs)
    ∙ (λ i. done ++ lines (sym first i) (sym second i))

none_left : (owners : List ℕ) (bodies : List WithForces) → (owners ≡ []) ⊎ (bodies ≡ []) → map row_with (zip owners bodies) ≡ []
none_left owners bodies (inl none) = ap (λ (os : List ℕ). map row_with (zip os bodies)) none
none_left [] bodies (inr none) = refl
none_left (o ∷ os) bodies (inr none) = ap (λ (bs : List WithForces). map row_with (zip (o ∷ os) bs)) none

pub loop-owner-preserved : goal.loop-owner-preserved
loop-owner-preserved c =
    let more = Zip-more c.loop-owner.owner-iterator c.next.new.self c.next.result (c.in-Some.owner, c.in-Some.forced) c.in-Some.is c.next.ensures.steps in
    one_more c.loop-owner.rows.items c.push.new.self.items c.in_ok-row.field-0 _ _ _ _ c.in-Some.owner.now c.in-Some.forced.now more.0 more.1 c.in_ok-row.ensures c.in_ok-push.ensures.items
    ∙ c.loop-owner.invariant

pub returns : goal.returns
returns c =
    let s = c.loop-owner.owner-iterator in
    let none = none_left (iter_rest (zip_first s)) (iter_rest (zip_second s)) (either_empty_from_Zip s c.next.new.self c.next.result c.in-None.is c.next.ensures.steps) in
    sym (append-nil c.loop-owner.rows.items) ∙ ap (λ (l : List BodyLine). c.loop-owner.rows.items ++ l) (sym none) ∙ c.loop-owner.invariant
